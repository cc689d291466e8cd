-- Two lists in order of place with the same members are the same.
use Prim.Native.Nat.{ℕ, ◌+◌, ◌≤◌}
use mathlib.Core.Path.{◌≡◌, refl, sym, ap, ◌∙◌}
use mathlib.Core.List.Memᴰ
use mathlib.Core.List.{List, [], ◌∷◌, Memᴰ}
use mathlib.Core.Logic.{◌⊎◌, inl, inr}
use native.Mathlib.Omega.{arith}

-- in order of strictly rising start, from m on
abbrev pub RisingFrom : {A : Type 0} → (A → ℕ) → ℕ → List A → Type 0
RisingFrom start m [] = Unit {0}
RisingFrom start m (x ∷ xs) = (m ≤ start x) × RisingFrom start (start x + 1) xs

-- a member that is not the first is after it
after_first : {A : Type 0} (y : A) (r : List A) (x : A) → Memᴰ x (y ∷ r) → (x ≡ y → ⊥) → Memᴰ x r
after_first y r x k other = go (Memᴰ.cases_cons k)
  where
    go : (x ≡ y) ⊎ Memᴰ x r → Memᴰ x r
    go (inl e) = absurd (other e)
    go (inr w) = w

-- a list that rises from a place rises from an earlier one
pub rising_earlier : {A : Type 0} (start : A → ℕ) (m n : ℕ) (l : List A)
    → m ≤ n → RisingFrom start n l → RisingFrom start m l
rising_earlier start m n [] h p = tt
rising_earlier start m n (x ∷ xs) h p = (omega (arith, p.0), p.1)

-- each member starts where the first may, or later
member_from : {A : Type 0} (start : A → ℕ) (m : ℕ) (l : List A) (x : A)
    → RisingFrom start m l → Memᴰ x l → m ≤ start x
member_from start m [] x h k = absurd (Memᴰ.not-nil k)
member_from start m (y ∷ ys) x h k = go (Memᴰ.cases_cons k) (λ w. member_from start (start y + 1) ys x h.1 w)
  where
    go : (x ≡ y) ⊎ Memᴰ x ys → (Memᴰ x ys → start y + 1 ≤ start x) → m ≤ start x
    go (inl e) later = rw e h.0
    go (inr w) later = omega (arith, later w, h.0)

pub same_members : {A : Type 0} (start : A → ℕ) (m n : ℕ) (a b : List A) → RisingFrom start m a → RisingFrom start n b
    → ((x : A) → Memᴰ x a → Memᴰ x b) → ((x : A) → Memᴰ x b → Memᴰ x a) → a ≡ b
same_members start m n [] [] p q to fro = refl
same_members start m n [] (g ∷ b) p q to fro = absurd (Memᴰ.not-nil (fro g (Memᴰ.head refl)))
same_members start m n (f ∷ a) [] p q to fro = absurd (Memᴰ.not-nil (to f (Memᴰ.head refl)))
same_members {A} start m n (f ∷ a) (g ∷ b) p q to fro =
    cc (
      same,
      same_members start (start f + 1) (start g + 1) a b p.1 q.1
          (λ x k. after_first g b x (to x (Memᴰ.tail k)) (λ e. later f a x p.1 k (e ∙ sym same)))
          (λ x k. after_first f a x (fro x (Memᴰ.tail k)) (λ e. later g b x q.1 k (e ∙ same))),
    )
  where
    later : (y : A) (r : List A) (x : A) → RisingFrom start (start y + 1) r → Memᴰ x r → x ≡ y → ⊥
    later y r x h k e =
        let at : start x ≡ start y = ap start e in
        omega (arith, member_from start (start y + 1) r x h k)

    same : f ≡ g
    same = go (Memᴰ.cases_cons (to f (Memᴰ.head refl))) (Memᴰ.cases_cons (fro g (Memᴰ.head refl)))
      where
        go : (f ≡ g) ⊎ Memᴰ f b → (g ≡ f) ⊎ Memᴰ g a → f ≡ g
        go (inl e) w = e
        go (inr k) (inl e) = sym e
        go (inr k) (inr w) = absurd (omega
            (arith, member_from start (start g + 1) b f q.1 k, member_from start (start f + 1) a g p.1 w))
