-- The pieces of a table, in numbers. Assumes nothing.
use Prim.Native.Nat.{ℕ, zero, suc, ◌+◌, ◌-◌, ◌*◌, ◌/◌, ◌%◌, ◌≤◌, ◌<◌, min}
use mathlib.Core.Path.{◌≡◌, refl, ap, ◌∙◌}
use mathlib.Core.Bool.{true, false}
use native.Mathlib.Nat.{mul-le-mul, le-div_iff_mul-le, lt-div-mul-add, add-mul, one-mul}
use native.Mathlib.Nat.{zero-mul}
use native.Mathlib.Nat.{suc-mul}
use native.Mathlib.Omega.{arith}
use borrow.Author.Tests.{ltb-true, ltb-false}
use lib.Dec.{ltb}
use Rattle.std.proofs.lemmas.Grind.{div_ceil_times}
use Rattle.base.proofs.Tests.{either_way}
use Rattle.transfer.specs.Pieces.{max_pieces, pieces_of}

-- ---- t, rounded up

module _ (size piece : ℕ) (p : 1 ≤ piece) where
  -- what precedes one of the pieces does not reach the end
  pub below_end : (n : ℕ) → n < pieces_of size piece → n * piece < size
  below_end n h =
      let fits = (le-div_iff_mul-le {k = piece} {x = n + 1} {y = size + (piece - 1)} (omega (arith, p))).0
      (omega (arith, h)) in
      let more : (n + 1) * piece ≡ n * piece + piece = add-mul n 1 piece ∙ ap (λ k. n * piece + k) (one-mul piece) in
      omega (arith, fits, more, p)

  -- all pieces do
  pub reaches_end : size ≤ pieces_of size piece * piece
  reaches_end =
      let all = lt-div-mul-add {a = size + (piece - 1)} {b = piece} (omega (arith, p)) in
      omega (arith, all, p)

  -- rounding up, as the code divides
  pub rounds_up : size / piece + min 1 (size % piece) ≡ pieces_of size piece
  rounds_up =
      let t = div_ceil_times size piece (omega (arith, p)) in
      let few = (le-div_iff_mul-le {k = piece} {x = size / piece + min 1 (size % piece)} {y = size + (piece - 1)}
      (omega (arith, p))).1 (omega (arith, p, t.1)) in
      either_way (ltb (size / piece + min 1 (size % piece)) (pieces_of size piece))
      (λ e. let inside = below_end _ (ltb-true (size / piece + min 1 (size % piece)) (pieces_of size piece) e) in
      absurd (omega (arith, inside, t.0)))
      (λ e. let most = ltb-false (size / piece + min 1 (size % piece)) (pieces_of size piece) e in
      omega (arith, few, most))

  -- whether there are too many, without a division
  pub few_pieces : size ≤ 65535 * piece → ltb max_pieces (pieces_of size piece) ≡ false
  few_pieces h =
      either_way (ltb max_pieces (pieces_of size piece))
      (λ e. let more = ltb-true max_pieces (pieces_of size piece) e in
      let inside = below_end 65535 more in absurd (omega (arith, inside, h)))
      (λ e. e)

  pub many_pieces : 65535 * piece < size → ltb max_pieces (pieces_of size piece) ≡ true
  many_pieces h =
      either_way (ltb max_pieces (pieces_of size piece)) (λ e. e)
      (λ e. let most = mul-le-mul {n₁ = pieces_of size piece} {m₁ = piece} {n₂ = 65535} {m₂ = piece}
      (ltb-false max_pieces (pieces_of size piece) e) (omega arith) in
      absurd (omega (arith, most, reaches_end, h)))

  -- one piece less does not reach the end
  pub below_more : 1 ≤ size → pieces_of size piece * piece < size + piece
  below_more s = go (pieces_of size piece) refl
    where
      go : (n : ℕ) → pieces_of size piece ≡ n → pieces_of size piece * piece < size + piece
      go zero e =
          let none : pieces_of size piece * piece ≡ 0 = ap (λ k. k * piece) e ∙ zero-mul piece in omega (arith, none, s)
      go (suc n) e =
          let inside = below_end n (omega (arith, e)) in
          let all : pieces_of size piece * piece ≡ n * piece + piece = ap (λ k. k * piece) e ∙ suc-mul n piece in
          omega (arith, inside, all)

  -- a total is t where so many pieces reach the end, and one less does not
  pub right_total : (n : ℕ) → size ≤ n * piece → n * piece < size + piece → n ≡ pieces_of size piece
  right_total n a b =
      either_way (ltb n (pieces_of size piece))
      (λ e. let inside = below_end n (ltb-true n (pieces_of size piece) e) in absurd (omega (arith, inside, a)))
      (λ e. either_way (ltb (pieces_of size piece) n)
      (λ q. let more = mul-le-mul {n₁ = suc (pieces_of size piece)} {m₁ = piece} {n₂ = n} {m₂ = piece}
      (ltb-true (pieces_of size piece) n q) (omega arith) in
      absurd (omega (arith, more, suc-mul (pieces_of size piece) piece, reaches_end, b)))
      (λ q. let x = ltb-false n (pieces_of size piece) e in let y = ltb-false (pieces_of size piece) n q in
      omega (arith, x, y)))

  -- a piece is one of them exactly where it begins inside the table
  pub inside : (n : ℕ) → n * piece < size → n < pieces_of size piece
  inside n h =
      either_way (ltb n (pieces_of size piece)) (λ e. ltb-true n (pieces_of size piece) e)
      (λ e. let most = mul-le-mul {n₁ = pieces_of size piece} {m₁ = piece} {n₂ = n} {m₂ = piece}
      (ltb-false n (pieces_of size piece) e) (omega arith) in absurd (omega (arith, most, reaches_end, h)))

  pub outside : (n : ℕ) → size ≤ n * piece → pieces_of size piece ≤ n
  outside n h =
      either_way (ltb n (pieces_of size piece))
      (λ e. let b = below_end n (ltb-true n (pieces_of size piece) e) in absurd (omega (arith, b, h)))
      (λ e. ltb-false n (pieces_of size piece) e)
