-- Numbers looked up: what holds under each key of a list holds under any one of them. Assumes nothing.
use Prim.Native.Nat.{ℕ, zero, suc, ◌+◌, ◌≤◌, ◌<◌}
use mathlib.Core.Path.{◌≡◌, refl, sym}
use mathlib.Core.Bool.{Bool, true, false, cond, ◌||◌, true≢false}
use mathlib.Core.List.{List, [], ◌∷◌, map}
use mathlib.Core.Logic.{inl, inr}
use native.Mathlib.Omega.{arith}
use borrow.Author.Tests.{eq-eqb, eqb-true, eqb-false}
use types.Run.{OneOf, hit}
use mir.Val.{has_key}
use lib.Dec.{T, eqb}
use Rattle.base.specs.Keys.{among}
use Rattle.base.proofs.Tests.{by_test}

pub among_none : (x : ℕ) → among x [] ≡ false
unfolding among
among_none x = refl

pub among_next : (x y : ℕ) (ys : List ℕ) → among x (y ∷ ys) ≡ cond (eqb x y) true (among x ys)
unfolding among
among_next x y ys = refl

-- what holds of each number of a list holds of a number that is among them
abbrev pub Each : (ℕ → Type 0) → List ℕ → Type 0
Each P [] = Unit
Each P (y ∷ ys) = P y × Each P ys

pub among_holds : (P : ℕ → Type 0) (x : ℕ) (ys : List ℕ) → Each P ys → among x ys ≡ true → P x
unfolding among
among_holds P x [] h = λ e. absurd (true≢false (sym e))
among_holds P x (y ∷ ys) h =
    by_test (λ (t : Bool). t ≡ true → P x) (eqb x y) (λ e _. rw (eqb-true x y e) h.0)
    (λ _. among_holds P x ys h.1)

-- two functions that agree on a list
pub agree : {A : Type 0} (f g : ℕ → A) (keys : List ℕ) (x : ℕ)
    → map f keys ≡ map g keys → among x keys ≡ true → f x ≡ g x
unfolding among
agree f g [] x e = λ h. absurd (true≢false (sym h))
agree f g (k ∷ ks) x e =
    by_test (λ b. b ≡ true → f x ≡ g x) (eqb x k) (λ i _. rw (eqb-true x k i) (cc)) λ _. agree f g ks x (cc)

-- ---- what a `match` on a number shows of it: it is one of an arm's keys, or it is in a range and not among the keys
-- of some arms

one_of : (keys : List ℕ) (x : ℕ) → OneOf keys x → among x keys ≡ true
unfolding among
one_of [] x h = absurd h
one_of (k ∷ []) x h = rw (eq-eqb x k h)
one_of (k ∷ j ∷ ks) x (inl h) = rw (eq-eqb x k h)
one_of (k ∷ j ∷ ks) x (inr h) = by_test (λ b. b ≡ true) (eqb x k) (λ _. refl) λ _. one_of (j ∷ ks) x h

abbrev pub range : ℕ → ℕ → List ℕ
range from zero = []
range from (suc n) = from ∷ range (suc from) n

pub ranged : (from n x : ℕ) → (from ≤ x) × (x < from + n) → among x (range from n) ≡ true
unfolding among
ranged from zero x h = absurd (omega arith)
ranged from (suc n) x h =
    by_test (λ b. b ≡ true) (eqb x from) (λ _. refl) λ e. ranged (suc from) n x (omega (arith, eqb-false x from e))

abbrev keyed : List (List ℕ) → ℕ → Bool
keyed [] x = false
keyed (keys ∷ arms) x = has_key keys x || keyed arms x

-- not among the keys of some arms, after what is known already
abbrev NoneOf : Type 0 → List (List ℕ) → ℕ → Type 0
NoneOf N [] x = N
NoneOf N (keys ∷ arms) x = NoneOf (N × (OneOf keys x → ⊥)) arms x

off : (b : Bool) → (T b → ⊥) → b ≡ false
off true n = absurd (n tt)
off false n = refl

unkeyed : (N : Type 0) (arms : List (List ℕ)) (x : ℕ) → NoneOf N arms x → N × (keyed arms x ≡ false)
unkeyed N [] x r = (r, refl)
unkeyed N (keys ∷ arms) x r =
    let rest = unkeyed (N × (OneOf keys x → ⊥)) arms x r in
    (rest.0.0, rw (off (has_key keys x) (λ t. rest.0.1 (hit keys x t)), rest.1))

-- both turn the value that an arm returns into the one that is looked up. That each of the numbers has it is a test,
-- which `refl` passes
module _ {A : Type 0} (f : ℕ → A) (v : A) where
  pub at_keys : (keys : List ℕ) (x : ℕ) → map f keys ≡ map (λ _. v) keys → OneOf keys x → v ≡ f x
  at_keys keys x e h = sym (agree f (λ _. v) keys x e (one_of keys x h))

  abbrev pub Ranged : ℕ → ℕ → List (List ℕ) → Type 0
  Ranged from n arms = map (λ m. cond (keyed arms m) v (f m)) (range from n) ≡ map (λ _. v) (range from n)

  pub is_in_range : (from n : ℕ) (arms : List (List ℕ)) (x : ℕ)
      → Ranged from n arms → (from ≤ x) × (x < from + n) → NoneOf Unit arms x → v ≡ f x
  is_in_range from n arms x e h r =
      sym (rw (unkeyed Unit arms x r).1 at (agree (λ m. cond (keyed arms m) v (f m)) (λ _. v)
      (range from n) x e (ranged from n x h)))
