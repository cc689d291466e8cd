-- What the answer of `next` says of the cursor and the bytes: every case of it. Assumes nothing.
use Prim.Native.Nat.{ℕ, ◌+◌, ◌^◌, ◌≤◌, ◌<◌}
use mathlib.Core.Path.{◌≡◌, refl}
use mathlib.Core.Bool.{true, false}
use mathlib.Core.Logic.{inl, inr}
use mathlib.Core.List.{List, [], ◌∷◌}
use native.Mathlib.Omega.{arith}
use borrow.Author.Tests.{eqb-true, eqb-false, leb-true, leb-false, ltb-true, ltb-false, eq-eqb, ne_eqb, le-leb, lt-leb}
use lib.ListN.{length}
use lib.Dec.{eqb, leb, ltb}
use Rattle.base.specs.Rows.{row}
use Rattle.base.specs.Outcomes.{Outcome, outcome}
use Rattle.base.proofs.Tests.{by_test, either_way}
use Rattle.capture.specs.Format.{mark, head, direction_of, milliseconds_of, size_of}
use Rattle.capture.specs.Reading.{agrees, in_range_of, lacking, head_of, record_of, next_of}
use Rattle.capture.specs.EachCall.{OutOfRange}
use Rattle.capture.proofs.Agreeing.{Same, Differs, same_of, differs_of}

-- ---- the cursor's range

-- a cursor is out of range, or at the beginning, or after the head
pub place_cases : {A : Type 0} (place : ℕ)
    → (OutOfRange place → A) → (place ≡ 0 → A) → (5 ≤ place → place ≤ 2 ^ 62 → A) → A
place_cases place out first later =
    either_way (eqb place 0) (λ t. first (eqb-true place 0 t))
    (λ t. either_way (leb 5 place)
    (λ u. either_way (leb place (2 ^ 62)) (λ v. later (leb-true 5 place u) (leb-true place (2 ^ 62) v))
    (λ v. out (inr (leb-false place (2 ^ 62) v))))
    (λ u. out (inl (omega (arith, eqb-false place 0 t), omega (arith, leb-false 5 place u)))))

first_not_out : (place : ℕ) → place ≡ 0 → OutOfRange place → ⊥
first_not_out place e (inl h) = omega arith
first_not_out place e (inr h) = omega arith

later_not_out : (place : ℕ) → 5 ≤ place → place ≤ 2 ^ 62 → OutOfRange place → ⊥
later_not_out place low high (inl h) = omega arith
later_not_out place low high (inr h) = omega arith

pub outside : (place : ℕ) → OutOfRange place → in_range_of place ≡ false
outside place (inl h) = rw (ne_eqb place 0 (λ e. omega arith), lt-leb 5 place (omega arith))
outside place (inr h) =
    rw (ne_eqb place 0 (λ e. omega arith), lt-leb place (2 ^ 62) h, le-leb 5 place (omega arith))

first_inside : (place : ℕ) → place ≡ 0 → in_range_of place ≡ true
first_inside place e = rw (eq-eqb place 0 e)

later_inside : (place : ℕ) → 5 ≤ place → place ≤ 2 ^ 62 → in_range_of place ≡ true
later_inside place low high =
    rw (le-leb 5 place low, le-leb place (2 ^ 62) high, ne_eqb place 0 (λ e. omega arith))

pub inside : (place : ℕ) → (OutOfRange place → ⊥) → in_range_of place ≡ true
inside place h = place_cases place (λ o. absurd (h o)) (first_inside place) (later_inside place)

-- a cursor in range, and bytes up to 2^62
module _ (place : ℕ) (b : List ℕ) (fits : place + length b ≤ 2 ^ 62) where
  pub next_first : place ≡ 0 → next_of place b ≡ head_of b
  next_first e = rw (eq-eqb place 0 e, le-leb (place + length b) (2 ^ 62) fits)

  pub next_later : 5 ≤ place → next_of place b ≡ record_of place b
  next_later h =
      rw (
        later_inside place h (omega arith),
        ne_eqb place 0 (λ e. omega arith),
        le-leb (place + length b) (2 ^ 62) fits,
      )

-- ---- each answer

module _ (b : List ℕ) (P : Outcome ℕ → Type 0) where
  -- of a head
  pub head_cases : (Differs mark b → P (outcome (row 51 (0 ∷ [])) 0))
      → (Same mark b → Differs head b → P (outcome (row 52 (3 ∷ [])) 0))
      → (Same head b → length b < 5 → P (lacking 0))
      → (Same head b → 5 ≤ length b → P (outcome (row 0 (5 ∷ [])) 5))
      → P (head_of b)
  head_cases no_mark no_version lacks taken =
      by_test P (agrees mark b)
      (λ t. by_test P (agrees head b)
      (λ u. by_test P (ltb (length b) 5)
      (λ v. lacks (same_of head b u) (ltb-true (length b) 5 v))
      (λ v. taken (same_of head b u) (ltb-false (length b) 5 v)))
      (λ u. no_version (same_of mark b t) (differs_of head b u)))
      (λ t. no_mark (differs_of mark b t))

  -- of a call at the beginning
  pub first_cases : length b ≤ 2 ^ 62 → (Differs mark b → P (outcome (row 51 (0 ∷ [])) 0))
      → (Same mark b → Differs head b → P (outcome (row 52 (3 ∷ [])) 0))
      → (Same head b → length b < 5 → P (lacking 0))
      → (Same head b → 5 ≤ length b → P (outcome (row 0 (5 ∷ [])) 5))
      → P (next_of 0 b)
  first_cases fits no_mark no_version lacks taken =
      rw (next_first 0 b (omega arith) refl) (head_cases no_mark no_version lacks taken)

  -- of a record
  pub record_cases : (place : ℕ) → (2 ≤ direction_of b → P (outcome (row 53 (place ∷ [])) place))
      → (direction_of b ≤ 1 → length b < size_of b → P (lacking place))
      → (direction_of b ≤ 1 → size_of b ≤ length b
      → P (outcome (row 1 (size_of b ∷ direction_of b ∷ milliseconds_of b ∷ [])) (place + size_of b)))
      → P (record_of place b)
  record_cases place wrong lacks taken =
      by_test P (ltb 1 (direction_of b)) (λ t. wrong (ltb-true 1 (direction_of b) t))
      (λ t. by_test P (ltb (length b) (size_of b))
      (λ u. lacks (ltb-false 1 (direction_of b) t) (ltb-true (length b) (size_of b) u))
      (λ u. taken (ltb-false 1 (direction_of b) t) (ltb-false (length b) (size_of b) u)))

  -- of a call after the head
  pub later_cases : (place : ℕ) → 5 ≤ place → place + length b ≤ 2 ^ 62
      → (2 ≤ direction_of b → P (outcome (row 53 (place ∷ [])) place))
      → (direction_of b ≤ 1 → length b < size_of b → P (lacking place))
      → (direction_of b ≤ 1 → size_of b ≤ length b
      → P (outcome (row 1 (size_of b ∷ direction_of b ∷ milliseconds_of b ∷ [])) (place + size_of b)))
      → P (next_of place b)
  later_cases place low fits wrong lacks taken =
      rw (next_later place b fits low) (record_cases place wrong lacks taken)

  -- of any call
  pub next_cases : (place : ℕ) → (OutOfRange place → P (outcome (row 17 (0 ∷ [])) place))
      → ((OutOfRange place → ⊥) → 2 ^ 62 < place + length b → P (outcome (row 18 (0 ∷ [])) place))
      → (place ≡ 0 → length b ≤ 2 ^ 62 → P (head_of b))
      → (5 ≤ place → place + length b ≤ 2 ^ 62 → P (record_of place b))
      → P (next_of place b)
  next_cases place state used first later =
      let in_bytes : (OutOfRange place → ⊥)
      → (place + length b ≤ 2 ^ 62 → P (next_of place b)) → P (next_of place b) =
      λ k f. either_way (leb (place + length b) (2 ^ 62)) (λ t. f (leb-true (place + length b) (2 ^ 62) t))
      (λ t. rw (inside place k, t) (used k (leb-false (place + length b) (2 ^ 62) t))) in
      place_cases place (λ o. rw (outside place o) (state o))
      (λ e. in_bytes (first_not_out place e) (λ h. rw (next_first place b h e) (first e (omega arith))))
      (λ low high. in_bytes (later_not_out place low high) (λ h. rw (next_later place b h low) (later low h)))
