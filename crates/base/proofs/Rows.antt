-- Rows: what a row shows of its answer. Assumes nothing.
use Prim.Native.Nat.{ℕ, suc}
use mathlib.Core.Path.{◌≡◌, sym, ap, ◌∙◌}
use mathlib.Core.Bool.{cond}
use mathlib.Core.List.{List}
use native.Mathlib.Omega.{arith}
use lib.ListN.{get_or}
use lib.Dec.{eqb}
use Rattle.base.specs.Rows.{Row, row}

-- what can be read back is injective
pub injective_by : {A B : Type 0} (f : A → B) (g : B → A) → ((a : A) → g (f a) ≡ a) → (a b : A) → f a ≡ f b → a ≡ b
injective_by f g back a b e = sym (back a) ∙ ap g e ∙ back b

-- one value if a row has this number, and another value otherwise
abbrev pub under : {A : Type 0} → Row → ℕ → A → A → A
under r n a other = cond (eqb r.number n) a other

-- a row's value at a place
abbrev pub value : Row → ℕ → ℕ
value r i = get_or r.values i 0

-- a row of another number is not a row 0
pub refused : {A : Type 0} {n : ℕ} {us vs : List ℕ} → row (suc n) us ≡ row 0 vs → A
refused {n} e = let z : suc n ≡ 0 = ap (λ (r : Row). r.number) e in absurd (omega arith)
