-- Bytes compared. Assumes nothing.
use Prim.Native.Nat.{ℕ}
use mathlib.Core.Path.{◌≡◌, refl, sym}
use mathlib.Core.Bool.{Bool, true, false, true≢false, cond, ◌&&◌}
use mathlib.Core.List.{List, [], ◌∷◌}
use borrow.Author.Tests.{eq-eqb, eqb-true}
use lib.Dec.{eqb}
use lib.Pointwise.{pointwise}
use Rattle.base.specs.Same.{same_bytes}
use Rattle.base.proofs.Tests.{by_test}

-- the first bytes decide, or those after them
then_rest : (t : Bool) {r s : Bool} → r ≡ s → (t && r) ≡ cond t s false
then_rest true e = e
then_rest false e = refl

-- `==` of two slices compares them so
pub pointwise_same : (a b : List ℕ) → pointwise eqb a b ≡ same_bytes a b
unfolding same_bytes
pointwise_same [] [] = refl
pointwise_same [] (y ∷ ys) = refl
pointwise_same (x ∷ xs) [] = refl
pointwise_same (x ∷ xs) (y ∷ ys) = then_rest (eqb x y) (pointwise_same xs ys)

pub equal_of : (a b : List ℕ) → same_bytes a b ≡ true → a ≡ b
unfolding same_bytes
equal_of [] [] = λ h. refl
equal_of [] (y ∷ ys) = λ h. absurd (true≢false (sym h))
equal_of (x ∷ xs) [] = λ h. absurd (true≢false (sym h))
equal_of (x ∷ xs) (y ∷ ys) =
    by_test (λ t. t ≡ true → x ∷ xs ≡ y ∷ ys) (eqb x y)
    (λ e h. let first = eqb-true x y e in let rest = equal_of xs ys h in cc)
    (λ _ h. absurd (true≢false (sym h)))

pub same_of : (a : List ℕ) → same_bytes a a ≡ true
unfolding same_bytes
same_of [] = refl
same_of (x ∷ xs) = rw (eq-eqb x x refl) (same_of xs)
