-- The answers of capture's `next`, case by case, and the range of a replay. Assumes nothing.
use Prim.Native.Nat.{ℕ, ◌+◌, ◌^◌, ◌≤◌}
use mathlib.Core.Path.{◌≡◌, sym, ap, ◌∙◌}
use mathlib.Core.Bool.{true, false}
use mathlib.Core.Logic.{inl, inr}
use mathlib.Core.List.{List, [], ◌∷◌}
use native.Mathlib.Omega.{arith}
use borrow.Author.Tests.{eqb-true, eqb-false, ltb-false, leb-true, leb-false, ne_eqb, le-leb, lt-leb}
use lib.ListN.{length}
use lib.Dec.{eqb, ltb, leb}
use Rattle.base.specs.Rows.{row}
use Rattle.base.specs.Outcomes.{Outcome, outcome}
use Rattle.base.proofs.Tests.{by_test, either_way, both}
use Rattle.frame.specs.Wire.{frame_limit}
use Rattle.frame.specs.Ranges.{OutOfRange as ReaderOut}
use Rattle.frame.specs.Rules.{in_range_of as reader_in_range}
use Rattle.frame.specs.State.{State as Reader}
use Rattle.frame.proofs.EachCall.{empty_call, state_kept}
use Rattle.frame.proofs.Ranges.{reader_ranges}
use Rattle.capture.specs.EachCall.{OutOfRange as CursorOut}
use Rattle.capture.specs.Format.{mark, head, direction_of, milliseconds_of, size_of}
use Rattle.capture.specs.Reading.{agrees, lacking, next_of, in_range_of as cursor_in_range}
use Rattle.replay.specs.EachCall.{OutOfRange}
use Rattle.replay.specs.State.{State, in_range_of}

-- ---- each answer of `next`

module _ (place : ℕ) (b : List ℕ) (P : Outcome ℕ → Type 0) where
  pub next_cases : (cursor_in_range place ≡ false → P (outcome (row 17 (0 ∷ [])) place))
      → P (outcome (row 18 (0 ∷ [])) place)
      → P (outcome (row 51 (0 ∷ [])) 0)
      → P (outcome (row 52 (3 ∷ [])) 0)
      → P (outcome (row 53 (place ∷ [])) place)
      → ((p : ℕ) → P (lacking p))
      → (place ≡ 0 → 5 ≤ length b → P (outcome (row 0 (5 ∷ [])) 5))
      → (5 ≤ place → place + length b ≤ 2 ^ 62 → size_of b ≤ length b
      → P (outcome (row 1 (size_of b ∷ direction_of b ∷ milliseconds_of b ∷ [])) (place + size_of b)))
      → P (next_of place b)
  next_cases state used no_mark no_version wrong lacks head_taken record_taken =
      by_test P (cursor_in_range place)
      (λ r. by_test P (leb (place + length b) (2 ^ 62))
      (λ f. by_test P (eqb place 0)
      (λ z. by_test P (agrees mark b)
      (λ m. by_test P (agrees head b)
      (λ h. by_test P (ltb (length b) 5) (λ l. lacks 0)
      (λ l. head_taken (eqb-true place 0 z) (ltb-false (length b) 5 l)))
      (λ h. no_version))
      (λ m. no_mark))
      (λ z. by_test P (ltb 1 (direction_of b)) (λ d. wrong)
      (λ d. by_test P (ltb (length b) (size_of b)) (λ l. lacks place)
      (λ l.
      let low : 5 ≤ place = leb-true 5 place (both (leb 5 place) (rw z at r)).0 in
      record_taken low (leb-true (place + length b) (2 ^ 62) f) (ltb-false (length b) (size_of b) l)))))
      (λ f. used))
      (λ r. state r)

-- ---- the range of the cursor

cursor_outside : (place : ℕ) → CursorOut place → cursor_in_range place ≡ false
cursor_outside place (inl h) = rw (ne_eqb place 0 (λ e. omega arith), lt-leb 5 place (omega arith))
cursor_outside place (inr h) =
    rw (ne_eqb place 0 (λ e. omega arith), lt-leb place (2 ^ 62) h, le-leb 5 place (omega arith))

cursor_inside : (place : ℕ) → (CursorOut place → ⊥) → cursor_in_range place ≡ true
cursor_inside place k =
    either_way (eqb place 0) (λ z. rw z)
    (λ z. either_way (leb 5 place)
    (λ l. either_way (leb place (2 ^ 62)) (λ m. rw (z, l, m))
    (λ m. absurd (k (inr (leb-false place (2 ^ 62) m)))))
    (λ l. absurd (k (inl (omega (arith, eqb-false place 0 z), omega (arith, leb-false 5 place l))))))

-- a place after the head, up to 2^62
pub later_inside : (place : ℕ) → 5 ≤ place → place ≤ 2 ^ 62 → cursor_in_range place ≡ true
later_inside place low high =
    rw (le-leb 5 place low, le-leb place (2 ^ 62) high, ne_eqb place 0 (λ e. omega arith))

-- ---- the range of a reader

reader_outside : (r : Reader) → ReaderOut r → reader_in_range frame_limit r.scan ≡ false
reader_outside r o =
    either_way (reader_in_range frame_limit r.scan)
    (λ i.
    let z : ◌≡◌ {A = ℕ} 17 0 =
    ap (λ (y : Outcome Reader). y.row.number) (sym ((reader_ranges r []).fed o) ∙ empty_call frame_limit r i) in
    absurd (omega arith))
    (λ i. i)

reader_inside : (r : Reader) → (ReaderOut r → ⊥) → reader_in_range frame_limit r.scan ≡ true
reader_inside r k =
    either_way (reader_in_range frame_limit r.scan) (λ i. i)
    (λ i. absurd (k ((reader_ranges r []).fed_only
    (ap (λ (y : Outcome Reader). y.row.number) (state_kept frame_limit r [] i).0))))

-- ---- the range of a replay

pub replay_outside : (s : State) → OutOfRange s → in_range_of frame_limit s ≡ false
replay_outside s (inl o) = rw (cursor_outside s.place o)
replay_outside s (inr (inl o)) =
    either_way (cursor_in_range s.place) (λ i. rw (i, reader_outside s.reader0 o)) (λ i. rw i)
replay_outside s (inr (inr o)) =
    either_way (cursor_in_range s.place)
    (λ i. either_way (reader_in_range frame_limit s.reader0.scan) (λ j. rw (i, j, reader_outside s.reader1 o))
    (λ j. rw (i, j)))
    (λ i. rw i)

-- cursor and readers, each by itself
pub record Inside (s : State) : Type 0 where
  pub cursor : cursor_in_range s.place ≡ true
  pub reader0 : ReaderOut s.reader0 → ⊥
  pub reader1 : ReaderOut s.reader1 → ⊥

module _ (s : State) (k : OutOfRange s → ⊥) where
  pub each_inside : Inside s
  each_inside =
      record {
        cursor = cursor_inside s.place (λ o. k (inl o));
        reader0 = λ o. k (inr (inl o));
        reader1 = λ o. k (inr (inr o));
      }

  pub replay_inside : in_range_of frame_limit s ≡ true
  replay_inside =
      rw (
        each_inside.cursor,
        reader_inside s.reader0 each_inside.reader0,
        reader_inside s.reader1 each_inside.reader1,
      )
