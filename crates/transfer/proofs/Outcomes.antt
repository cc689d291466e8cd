-- What a call leaves, from its tests and its output: done, or as it was. Assumes nothing.
use Prim.Native.Nat.{ℕ}
use mathlib.Core.Path.{◌≡◌, refl, sym, ◌∙◌}
use mathlib.Core.Bool.{true, false, cond, true≢false}
use mathlib.Core.List.{List, [], ◌∷◌}
use borrow.Author.Tests.{eqb-true}
use lib.Dec.{eqb, ltb}
use lib.ListN.{length}
use Rattle.base.specs.Rows.{Row, row}
use Rattle.base.specs.Outcomes.{Output, rowed}
use Rattle.base.proofs.Tests.{by_test, either_way}
use Rattle.frame.specs.Calls.{write_of}
use Rattle.transfer.specs.Table.{wrote_row}
use Rattle.transfer.specs.Checks.{Test, first_refusal}
use Rattle.transfer.specs.Writing.{acknowledged, refused_of, pair_of}
use Rattle.transfer.specs.Calls.{Left, left, settled}
use Rattle.transfer.proofs.WriteLaws.{by_pair}

-- ---- the first refusal

-- no test has this number
abbrev pub Others : ℕ → List Test → Type 0
Others k [] = Unit {0}
Others k (t ∷ ts) = (eqb t.number k ≡ false) × Others k ts

pub other_refusal : (k : ℕ) (ts : List Test) → eqb 0 k ≡ false → Others k ts → eqb (first_refusal ts) k ≡ false
other_refusal k [] z h = z
other_refusal k (t ∷ ts) z h =
    by_test (λ n. eqb n k ≡ false) t.refuses (λ _. h.0) (λ _. other_refusal k ts z h.1)

-- ---- numbers of rows

-- a row that is rewritten where it was 0 keeps away from a number
module _ (k : ℕ) (f : ℕ → Row) (made : (n : ℕ) → eqb (f n).number k ≡ false) where
  pub rowed_other : (w : Output) → eqb w.row.number k ≡ false → eqb (rowed f w).row.number k ≡ false
  rowed_other w h = by_test (λ (v : Output). eqb v.row.number k ≡ false) (eqb w.row.number 0) (λ _. made _)
      (λ _. h)

-- a frame is written, or it is PAYLOAD or ROOM
write_other : (k limit command number flags : ℕ) (payload out : List ℕ) → eqb 21 k ≡ false → eqb 22 k ≡ false
    → eqb 0 k ≡ false → eqb (write_of limit command number flags payload out).row.number k ≡ false
write_other k limit command number flags payload out a b c =
    by_test (λ (v : Output). eqb v.row.number k ≡ false) (ltb limit _) (λ _. a)
    (λ _. by_test (λ (v : Output). eqb v.row.number k ≡ false) (ltb (length out) _) (λ _. b) (λ _. c))

-- what the calls write is not STATE
pub acknowledged_other : (limit command number : ℕ) (out : List ℕ)
    → eqb (acknowledged limit command number out).row.number 17 ≡ false
acknowledged_other limit command number out =
    rowed_other 17 (wrote_row command) (λ _. refl) (write_of limit command number 0 [] out)
    (write_other 17 limit command number 0 [] out refl refl refl)

pub pair_other : (limit number next piece : ℕ) (code out : List ℕ)
    → eqb (pair_of limit number next piece code out).row.number 17 ≡ false
pair_other limit number next piece code out =
    by_pair limit number next piece code out (λ (v : Output). eqb v.row.number 17 ≡ false) (λ _. refl) (λ _. refl)
    (λ _. refl)

-- a refusal is STATE only by its own number, and is never 0
pub refused_other : (limit n number : ℕ) (out : List ℕ) → eqb n 17 ≡ false
    → eqb (refused_of limit n number out).row.number 17 ≡ false
refused_other limit n number out h =
    by_test (λ (v : Output). eqb v.row.number 17 ≡ false) (eqb n 17) (λ e. absurd (true≢false (sym e ∙ h)))
    (λ _. by_test (λ (v : Output). eqb v.row.number 17 ≡ false) (eqb n 41) (λ _. refl)
    (λ _. rowed_other 17 (λ count. row n (count ∷ [])) (λ _. h) (write_of limit 0x12 number 0 (3 ∷ []) out)
    (write_other 17 limit 0x12 number 0 (3 ∷ []) out refl refl refl)))

refused_some : (limit n number : ℕ) (out : List ℕ) → eqb n 0 ≡ false
    → eqb (refused_of limit n number out).row.number 0 ≡ false
refused_some limit n number out h =
    by_test (λ (v : Output). eqb v.row.number 0 ≡ false) (eqb n 17) (λ _. refl)
    (λ _. by_test (λ (v : Output). eqb v.row.number 0 ≡ false) (eqb n 41) (λ _. refl)
    (λ _. by_test (λ (v : Output). eqb v.row.number 0 ≡ false)
    (eqb (write_of limit 0x12 number 0 (3 ∷ []) out).row.number 0) (λ _. h) (λ e. e)))

-- ---- done, or as it was

module _ {S : Type 0} (before next : S) where
  pub data Went (y : Left S) (n : ℕ) : Type 0 where
    done : eqb y.row.number 0 ≡ true → 0 ≡ n → y.state ≡ next → Went y n
    kept : eqb y.row.number 0 ≡ false → y.state ≡ before → Went y n

  settles : (w : Output) (n : ℕ) → 0 ≡ n → Went (settled w before next) n
  settles w n z =
      either_way (eqb w.row.number 0) (λ e. done e z (rw e)) (λ e. kept e (rw e))

  pub went : (limit n number : ℕ) (w : Output) (out : List ℕ)
      → Went (cond (eqb n 0) (settled w before next) (left (refused_of limit n number out) before)) n
  went limit n number w out =
      by_test (λ (y : Left S). Went y n) (eqb n 0) (λ e. settles w n (sym (eqb-true n 0 e)))
      (λ e. kept (refused_some limit n number out e) refl)

  -- STATE comes only from the tests
  pub not_state : (limit n number : ℕ) (w : Output) (out : List ℕ) → eqb n 17 ≡ false → eqb w.row.number 17 ≡ false
      → eqb (cond (eqb n 0) (settled w before next) (left (refused_of limit n number out) before)).row.number 17
      ≡ false
  not_state limit n number w out h k =
      by_test (λ (y : Left S). eqb y.row.number 17 ≡ false) (eqb n 0) (λ _. k)
      (λ _. refused_other limit n number out h)
