-- Bytes that agree with wanted ones as far as both go, and those that do not. Assumes nothing.
use Prim.Native.Nat.{ℕ, zero, suc, ◌≤◌, ◌<◌}
use mathlib.Core.Path.{◌≡◌, refl, sym, ap, ◌∙◌}
use mathlib.Core.Bool.{true, false, true≢false}
use mathlib.Core.Logic.{◌≢◌}
use mathlib.Core.List.{List, [], ◌∷◌, ◌++◌}
use native.Mathlib.Omega.{arith}
use lib.ListN.{length, get_or, take, drop, length-append, take-append-drop, get_or-append}
use lib.Seq.{ext_get_or, get_or-take, length-take-le}
use lib.Dec.{eqb}
use borrow.Author.Tests.{eq-eqb, eqb-true, eqb-false}
use Rattle.base.proofs.Tests.{either_way, both}
use Rattle.capture.specs.Captures.{Begins}
use Rattle.capture.specs.Reading.{agrees}

-- as far as both go, they are the same
abbrev pub Same : List ℕ → List ℕ → Type 0
Same w b = (i : ℕ) → i < length w → i < length b → get_or b i 0 ≡ get_or w i 0

-- a byte that is there is another one
pub record Differs (w b : List ℕ) : Type 0 where
  pub at : ℕ
  pub wanted : at < length w
  pub there : at < length b
  pub other : get_or b at 0 ≢ get_or w at 0

-- ---- what the test says

pub same_of : (w b : List ℕ) → agrees w b ≡ true → Same w b
unfolding agrees
same_of [] b e i h k = absurd (omega arith)
same_of (x ∷ w) [] e i h k = absurd (omega arith)
same_of (x ∷ w) (y ∷ b) e zero h k = sym (eqb-true x y (both (eqb x y) e).0)
same_of (x ∷ w) (y ∷ b) e (suc i) h k = same_of w b (both (eqb x y) e).1 i (omega arith) (omega arith)

pub differs_of : (w b : List ℕ) → agrees w b ≡ false → Differs w b
unfolding agrees
differs_of [] b e = absurd (true≢false e)
differs_of (x ∷ w) [] e = absurd (true≢false e)
differs_of (x ∷ w) (y ∷ b) e =
    either_way (eqb x y)
    (λ t.
    let d = differs_of w b (rw t at e) in
    record {
      at = suc d.at;
      wanted = omega (arith, d.wanted);
      there = omega (arith, d.there);
      other = d.other;
    })
    (λ t. record { at = 0; wanted = omega arith; there = omega arith; other = λ q. eqb-false x y t (sym q) })

-- ---- and when

pub agrees_of : (w b : List ℕ) → Same w b → agrees w b ≡ true
unfolding agrees
agrees_of [] b s = refl
agrees_of (x ∷ w) [] s = refl
agrees_of (x ∷ w) (y ∷ b) s =
    rw (eq-eqb x y (sym (s 0 (omega arith) (omega arith))))
    (agrees_of w b (λ i h k. s (suc i) (omega arith) (omega arith)))

pub disagrees_of : (w b : List ℕ) → Differs w b → agrees w b ≡ false
disagrees_of w b d =
    either_way (agrees w b) (λ t. absurd (d.other (same_of w b t d.at d.wanted d.there))) (λ t. t)

-- ---- the front of bytes

pub begins_same : (w b : List ℕ) → Begins w b → Same w b
begins_same w b (rest, e) i h k = rw e (get_or-append w rest 0 i h)

pub same_begins : (w b : List ℕ) → Same w b → length w ≤ length b → b ≡ w ++ drop (length w) b
same_begins w b s h =
    let size : length (take (length w) b) ≡ length w = length-take-le (length w) b h in
    let front : take (length w) b ≡ w =
    ext_get_or 0 (take (length w) b) w size
    (λ i k. get_or-take (length w) b i 0 (omega arith) ∙ s i (omega arith) (omega arith)) in
    sym (take-append-drop (length w) b) ∙ ap (λ (l : List ℕ). l ++ drop (length w) b) front

-- ---- with more bytes after them

module _ (w b more : List ℕ) where
  pub differs_later : Differs w b → Differs w (b ++ more)
  differs_later d =
      record {
        at = d.at;
        wanted = d.wanted;
        there = rw length-append (omega (arith, d.there));
        other = λ q. d.other (sym (get_or-append b more 0 d.at d.there) ∙ q);
      }

  pub same_later : Same w b → length w ≤ length b → Same w (b ++ more)
  same_later s h i k l = get_or-append b more 0 i (omega arith) ∙ s i k (omega arith)

-- ---- bytes that differ are not at the front

pub not_front : (w b : List ℕ) → Differs w b → Begins w b → ⊥
not_front w b d begins = d.other (begins_same w b begins d.at d.wanted d.there)

pub not_begun : (w b more : List ℕ) → Differs w b → Begins w (b ++ more) → ⊥
not_begun w b more d = not_front w (b ++ more) (differs_later w b more d)
