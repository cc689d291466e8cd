-- Tests: what follows for a value that a test chooses. Assumes nothing.
use mathlib.Core.Path.{◌≡◌, refl, sym, ◌∙◌}
use mathlib.Core.Bool.{Bool, true, false, cond, not, ◌&&◌, true≢false}
use borrow.Author.Tests.{eq-eqb, ne_eqb, lt-ltb, le-ltb, le-leb, lt-leb, not-true, not-false}

-- with these `search` carries the results of the code's tests into a definition's `cond`
pub ruleset tests = (eq-eqb, ne_eqb, lt-ltb, le-ltb, le-leb, lt-leb)

-- what holds of each of two values, where a test chooses it, holds of the chosen one
pub by_test : {A : Type 0} (P : A → Type 0) (t : Bool) {x y : A} → (t ≡ true → P x) → (t ≡ false → P y) → P (cond t x y)
by_test P true f g = f refl
by_test P false f g = g refl

-- what holds for both results of a test
pub either_way : {P : Type 0} (t : Bool) → (t ≡ true → P) → (t ≡ false → P) → P
either_way true f g = f refl
either_way false f g = g refl

-- a test between two equal values does not matter
pub cond_same : {A : Type 0} (t : Bool) (x : A) → cond t x x ≡ x
cond_same true x = refl
cond_same false x = refl

-- a test chooses between equal values
pub cond_equal : {A : Type 0} (t : Bool) {x y z w : A} → (t ≡ true → x ≡ y) → (t ≡ false → z ≡ w)
    → cond t x z ≡ cond t y w
cond_equal true f g = f refl
cond_equal false f g = g refl

-- both of two tests hold
pub both : (a : Bool) {b : Bool} → (a && b) ≡ true → (a ≡ true) × (b ≡ true)
both true e = (refl, e)
both false e = absurd (true≢false (sym e))

-- a guard `if !test(..) { return .. }`: `r` is what the test's call returned, and `b` what its contract says of it
module _ {r b : Bool} (e : r ≡ b) where
  pub past : not r ≡ false → b ≡ true
  past left = sym e ∙ not-false r left

  pub caught : not r ≡ true → b ≡ false
  caught taken = sym e ∙ not-true r taken
