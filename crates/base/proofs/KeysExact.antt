-- looked_up. Assumes nothing.
use Prim.Native.Nat.{ℕ}
use mathlib.Core.Path.{◌≡◌, refl, sym}
use mathlib.Core.Bool.{Bool, true, true≢false}
use mathlib.Core.List.Memᴰ
use mathlib.Core.List.{List, [], ◌∷◌, Memᴰ}
use borrow.Author.Tests.{eq-eqb, eqb-true}
use lib.Dec.{eqb}
use Rattle.base.specs.Keys.{among}
use Rattle.base.specs.KeysExact.{AllLookedUp}
use Rattle.base.proofs.Tests.{by_test}

there : (x : ℕ) (l : List ℕ) → Memᴰ x l → among x l ≡ true
unfolding among
there x [] d = absurd (Memᴰ.not-nil d)
there x (y ∷ ys) (Memᴰ.head e) = rw (eq-eqb x y e)
there x (y ∷ ys) (Memᴰ.tail d) = by_test (λ (b : Bool). b ≡ true) (eqb x y) (λ _. refl) λ _. there x ys d

only_there : (x : ℕ) (l : List ℕ) → among x l ≡ true → Memᴰ x l
unfolding among
only_there x [] = λ h. absurd (true≢false (sym h))
only_there x (y ∷ ys) =
    by_test (λ (b : Bool). b ≡ true → Memᴰ x (y ∷ ys)) (eqb x y) (λ e _. Memᴰ.head (eqb-true x y e))
    λ _ h. Memᴰ.tail (only_there x ys h)

pub looked_up : AllLookedUp
looked_up x l = record { there = there x l; only_there = only_there x l }
