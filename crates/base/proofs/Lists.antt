-- Lists of numbers: empty, cut at their end, and number by number. Assumes nothing.
use Prim.Native.Nat.{ℕ, min}
use mathlib.Core.Path.{◌≡◌, refl, sym, ap, ◌∙◌}
use mathlib.Core.List.{List, [], ◌∷◌, ◌++◌}
use native.Mathlib.Omega.{arith, min_cases}
use lib.ListN.{length, take, drop, drop_of_length-le}
use lib.Seq.{take_all, take-length, drop-length}

-- a list of no bytes
pub no_bytes : (r : List ℕ) → length r ≡ 0 → r ≡ []
no_bytes [] e = refl
no_bytes (x ∷ xs) e = absurd (omega arith)

-- a cut beyond the end of a list is one at its end
pub take_min : (n : ℕ) (l : List ℕ) → take (min n (length l)) l ≡ take n l
take_min n l = min_cases n (length l) _ (λ h e. rw e) (λ h e. rw e (take-length l ∙ sym (take_all n l h)))

pub drop_min : (n : ℕ) (l : List ℕ) → drop (min n (length l)) l ≡ drop n l
drop_min n l = min_cases n (length l) _ (λ h e. rw e) (λ h e. rw e (drop-length l ∙ sym (drop_of_length-le l h)))

-- two lists, number by number
abbrev pub Each : List ℕ → List ℕ → Type 0
Each [] [] = Unit
Each [] (b ∷ r) = ⊥
Each (a ∷ l) [] = ⊥
Each (a ∷ l) (b ∷ r) = (a ≡ b) × Each l r

pub all_same : (l r : List ℕ) → Each l r → l ≡ r
all_same [] [] h = refl
all_same [] (b ∷ r) h = absurd h
all_same (a ∷ l) [] h = absurd h
all_same (a ∷ l) (b ∷ r) h =
    let head : a ≡ b = h.0 in
    let tail : l ≡ r = all_same l r h.1 in
    cc

-- equal fronts leave equal rests
pub append_cancel : {A : Type 0} (f a b : List A) → f ++ a ≡ f ++ b → a ≡ b
append_cancel [] a b e = e
append_cancel (x ∷ f) a b e = append_cancel f a b (ap tail_of e)
  where
    tail_of : {A : Type 0} → List A → List A
    tail_of [] = []
    tail_of (y ∷ l) = l
