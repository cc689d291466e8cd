-- Asking for the room and then writing: the calls that ask once. Assumes nothing.
use Prim.Native.Nat.{ℕ, ◌≤◌, ◌<◌}
use mathlib.Core.Path.{◌≡◌, refl, sym, ap, ◌∙◌}
use mathlib.Core.Logic.{◌≢◌}
use mathlib.Core.Bool.{Bool, true, false, cond}
use mathlib.Core.List.{List, [], ◌∷◌}
use native.Mathlib.Omega.{arith}
use borrow.Author.Tests.{lt-ltb, le-ltb, ne_eqb, ltb-true, ltb-false}
use lib.ListN.{length, get_or}
use lib.Dec.{eqb, ltb}
use Rattle.base.specs.Rows.{Row, row}
use Rattle.base.specs.Outcomes.{Output, written_in, needed_in, placed, rowed}
use Rattle.base.specs.Asking.{AsksOnce}
use Rattle.base.proofs.Tests.{by_test, either_way}

-- a call whose answer does not depend on the output, and is not ROOM
pub asks_never : (r : Row) → r.number ≢ 22 → AsksOnce (λ out. r)
asks_never r h =
    record { short = λ out e. absurd (h e); same = λ out other e k. refl; written = λ out other e k. absurd (h e) }

-- a call whose answers are those of another
pub asks_as : (f g : List ℕ → Row) → ((out : List ℕ) → g out ≡ f out) → AsksOnce f → AsksOnce g
asks_as f g same a =
    record {
      short = λ out e. rw (same out) (a.short out (rw (same out) at e));
      same = λ out other e h.
          same other ∙ a.same out other (rw (same out) at e) (rw (same out) at h) ∙ sym (same out);
      written = λ out other e h.
          rw (same out, same other) (a.written out other (rw (same out) at e) (rw (same out) at h));
    }

-- one of two calls, by a test that does not depend on the output
module _ {A : Type 0} (answer : A → Row) where
  pub asks_either : (t : Bool) (f g : List ℕ → A) → AsksOnce (λ out. answer (f out)) → AsksOnce (λ out. answer (g out))
      → AsksOnce (λ out. answer (cond t (f out) (g out)))
  asks_either true f g a b = a
  asks_either false f g a b = b

-- a call that writes some bytes or answers ROOM with their count: `done` is its answer where they fit
module _ (w : List ℕ) (answer : List ℕ → Row) (done : Row)
    (room : (out : List ℕ) → length out < length w → answer out ≡ row 22 (length w ∷ []))
    (fits : (out : List ℕ) → length w ≤ length out → answer out ≡ done)
    (other-number : done.number ≢ 22) (counts : get_or done.values 0 0 ≡ length w) where
  -- an output that met ROOM is too short
  small : (out : List ℕ) → (answer out).number ≡ 22 → length out < length w
  small out e =
      either_way (ltb (length out) (length w)) (λ t. ltb-true (length out) (length w) t)
      (λ t. absurd (other-number
      (ap (λ (r : Row). r.number) (sym (fits out (ltb-false (length out) (length w) t))) ∙ e)))

  met : (out : List ℕ) → (answer out).number ≡ 22 → answer out ≡ row 22 (length w ∷ [])
  met out e = room out (small out e)

  said : (out : List ℕ) → (answer out).number ≡ 22 → needed_in (answer out) ≡ length w
  said out e = ap needed_in (met out e)

  pub asks_by : AsksOnce answer
  asks_by =
      record {
        short = λ out e. rw (said out e) (small out e);
        same = λ out other e h. room other (rw (said out e) at h) ∙ sym (met out e);
        written = λ out other e h.
            let long = fits other (rw (said out e) at h) in (
              λ z. other-number (ap (λ (r : Row). r.number) (sym long) ∙ z),
              ap (λ (r : Row). get_or r.values 0 0) long ∙ counts ∙ sym (said out e),
            );
      }

-- bytes at the front of the output
pub asks_placed : (w : List ℕ) → AsksOnce (λ out. (placed w out).row)
asks_placed w =
    asks_by w (λ out. (placed w out).row) (row 0 (length w ∷ []))
    (λ out h. rw (lt-ltb (length out) (length w) h)) (λ out h. rw (le-ltb (length out) (length w) h))
    (λ e. omega arith) refl

-- a call that asks once, with another row for its count, which is the row's first value
module _ (f : ℕ → Row) (other-number : (n : ℕ) → (f n).number ≢ 22) (counts : (n : ℕ) → get_or (f n).values 0 0 ≡ n)
    (call : List ℕ → Output) (asks : AsksOnce (λ out. (call out).row)) where
  -- no count is shown as ROOM
  below : (out : List ℕ) → (rowed f (call out)).row.number ≡ 22 → (call out).row.number ≡ 22
  below out =
      by_test (λ (w : Output). w.row.number ≡ 22 → (call out).row.number ≡ 22) (eqb (call out).row.number 0)
      (λ t e. absurd (other-number (written_in (call out).row) e)) (λ t e. e)

  -- and ROOM is passed on
  passed : (out : List ℕ) → (call out).row.number ≡ 22 → (rowed f (call out)).row ≡ (call out).row
  passed out e = rw (ne_eqb (call out).row.number 0 (λ z. omega arith))

  shown : (out : List ℕ) → get_or (rowed f (call out)).row.values 0 0 ≡ get_or (call out).row.values 0 0
  shown out =
      by_test (λ (w : Output). get_or w.row.values 0 0 ≡ get_or (call out).row.values 0 0)
      (eqb (call out).row.number 0) (λ t. counts (written_in (call out).row) ∙ rw t) (λ t. refl)

  pub asks_rowed : AsksOnce (λ out. (rowed f (call out)).row)
  asks_rowed =
      record {
        short = λ out e. rw (passed out (below out e)) (asks.short out (below out e));
        same = λ out other e h.
            let m = below out e in
            let again = asks.same out other m (rw (passed out m) at h) in
            passed other (ap (λ (r : Row). r.number) again ∙ m) ∙ again ∙ sym (passed out m);
        written = λ out other e h.
            let m = below out e in
            let p = asks.written out other m (rw (passed out m) at h) in
            (λ z. p.0 (below other z), shown other ∙ p.1 ∙ ap needed_in (sym (passed out m)));
      }
