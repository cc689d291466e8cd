-- Laws of stores: what is put from a place of the buffer on.
use Prim.Native.Nat.{ℕ, ◌+◌, ◌-◌, ◌≤◌, ◌<◌}
use mathlib.Core.Path.{◌≡◌, sym, ap, ◌∙◌}
use mathlib.Core.List.{List, [], ◌∷◌, ◌++◌, append_assoc}
use native.Mathlib.Numerals.{add-one}
use native.Mathlib.Omega.{arith}
use lib.ListN.{length, get_or, take, drop, set, length-append, length-drop, drop_of_length-le, take-append-drop}
use lib.Seq.{drop-cons, sets, sets-eq}
use borrow.Author.Tests.{le-ltb}
use Rattle.base.specs.Rows.{Row, row}
use Rattle.base.specs.Outcomes.{Output, output, onto, placed, written_in}
use Rattle.base.proofs.Stores.{sets-append, part_left, put_onto}
use Rattle.listing.specs.Digits.{decimal_of}
use Rattle.listing.specs.Lines.{columns_of}

-- ---- bytes written, and the others as they were

pub put_between : (bytes out after : List ℕ) (at : ℕ) → at + length bytes ≤ length out → take at after ≡ take at out
    → drop at after ≡ bytes ++ drop (at + length bytes) out → after ≡ sets out at bytes
put_between bytes out after at fits before from =
    sym (take-append-drop at after) ∙ rw (before, from, sets-eq bytes out at fits, append_assoc)

-- ---- a text put in the part of a buffer that begins at a place: `after` is that part then

module _ (text out : List ℕ) (at : ℕ) (fits : at + length text ≤ length out) {r : Row} {after : List ℕ}
    (put : output r after ≡ placed text (take (length out - at) (drop at out))) where
  -- the part has room
  part_fits : output r after
      ≡ output (row 0 (length text ∷ [])) (onto text (take (length out - at) (drop at out)))
  part_fits =
      let left : length text ≤ length (take (length out - at) (drop at out)) =
      rw (part_left out at) (omega (arith, length-drop at out)) in
      put ∙ rw (le-ltb (length (take (length out - at) (drop at out))) (length text) left)

  pub part_count : written_in r ≡ length text
  part_count = ap (λ (w : Output). written_in w.row) part_fits

  pub part_put : take at out ++ (after ++ drop (length out - at) (drop at out)) ≡ sets out at text
  part_put = rw (ap (λ (w : Output). w.out) part_fits) (put_onto out at text fits)

-- ---- columns from the i-th on

module _ (l : List ℕ) (i : ℕ) (h : i < length l) where
  -- a space, a number, and the others
  pub columns_left : columns_of (drop i l) ≡ 32 ∷ (decimal_of (get_or l i 0) ++ columns_of (drop (i + 1) l))
  unfolding columns_of
  columns_left = rw (add-one, drop-cons l i 0)

  pub columns_count : length (columns_of (drop i l)) ≡ 1 + length (decimal_of (get_or l i 0))
      + length (columns_of (drop (i + 1) l))
  columns_count = rw (columns_left, length-append) (omega arith)

  -- what is put: the space, the number, and the others after it
  pub columns_put : (out : List ℕ) (next : ℕ)
      → sets (sets (set out next 32) (next + 1) (decimal_of (get_or l i 0)))
      (next + 1 + length (decimal_of (get_or l i 0)))
      (columns_of (drop (i + 1) l))
      ≡ sets out next (columns_of (drop i l))
  columns_put out next = rw (columns_left, add-one next, sets-append)

pub columns_none : (l : List ℕ) (i : ℕ) → length l ≤ i → columns_of (drop i l) ≡ []
unfolding columns_of
columns_none l i h = rw (drop_of_length-le l h)
