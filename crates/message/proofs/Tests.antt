-- Tests one after the other: what holds where all of them pass. Assumes nothing.
use Prim.Native.Nat.{ℕ}
use mathlib.Core.Path.{◌≡◌, refl, sym, ◌∙◌}
use mathlib.Core.Bool.{Bool, true, false, cond, ◌&&◌}
use mathlib.Core.List.{List, []}
use Rattle.base.proofs.Rows.{refused}
use Rattle.base.specs.Rows.{Row, row}

-- a test beside one that always passes, or never
pub and_true : (t : Bool) → (t && true) ≡ t
and_true true = refl
and_true false = refl

pub and_false : (t : Bool) → (t && false) ≡ false
and_false true = refl
and_false false = refl

-- COMMAND, SIZE and FIELD in their order: the result where none of the three applies
module _ {A : Type 0} (row_in : A → Row) (refusal : ℕ → A) (h : (n : ℕ) → row_in (refusal n) ≡ row n []) where
  abbrev tested : Bool → Bool → Bool → A → A
  tested a b c x = cond a (cond b (cond c x (refusal 33)) (refusal 32)) (refusal 31)

  pub passed : (a b c : Bool) (x : A) {vs : List ℕ} → row_in (tested a b c x) ≡ row 0 vs
      → (a ≡ true) × (b ≡ true) × (c ≡ true) × (tested a b c x ≡ x)
  passed true true true x e = (refl, refl, refl, refl)
  passed true true false x e = refused (sym (h 33) ∙ e)
  passed true false c x e = refused (sym (h 32) ∙ e)
  passed false b c x e = refused (sym (h 31) ∙ e)
