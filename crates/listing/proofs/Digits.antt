-- Laws of decimal text: its last digit and those before it, and how many there are.
use Prim.Native.Nat.{ℕ, zero, suc, ◌+◌, ◌/◌, ◌%◌, ◌^◌, ◌≤◌, ◌<◌}
use mathlib.Core.Path.{◌≡◌, refl, sym, ap, ◌∙◌}
use mathlib.Core.Bool.{Bool, true, false}
use mathlib.Core.List.{[], ◌∷◌, ◌++◌}
use native.Mathlib.Nat.{div-lt_self, mod-eq_of_lt, div-lt_iff_lt-mul, pow-suc}
use native.Mathlib.Omega.{arith}
use borrow.Author.Tests.{lt-ltb, le-ltb, ltb-true, ltb-false}
use lib.ListN.{length, length-append}
use lib.Dec.{ltb}
use Rattle.std.specs.Fmt.{decimal}
use Rattle.std.proofs.lemmas.Fmt.{decimal_by_steps}
use Rattle.listing.specs.Digits.{digit, digits_in, decimal_of}

-- one digit or more
pub by_size : (n : ℕ) (P : Type 0) → (n ≤ 9 → P) → (9 < n → P) → P
by_size n P f g = go (ltb n 10) refl
  where
    go : (t : Bool) → ltb n 10 ≡ t → P
    go true e = let h = ltb-true n 10 e in f (omega arith)
    go false e = let h = ltb-false n 10 e in g (omega arith)

-- a tenth is less, from 10 on
pub tenth : (n k : ℕ) → 9 < n → n < suc k → n / 10 < k
tenth n k h g =
    let less : n / 10 < n = div-lt_self (omega arith) (omega arith) in
    omega arith

-- the first and the last step of the definition
digits_last : (k n : ℕ) → n ≤ 9 → digits_in (suc k) n ≡ digit n ∷ []
unfolding digits_in
digits_last k n h =
    let small : n < 10 = omega arith in
    rw (lt-ltb n 10 small, mod-eq_of_lt small)

digits_more : (k n : ℕ) → 9 < n → digits_in (suc k) n ≡ digits_in k (n / 10) ++ digit (n % 10) ∷ []
unfolding digits_in
digits_more k n h = rw (le-ltb n 10 (omega arith))

-- more steps than are needed change nothing
digits_enough : (j k n : ℕ) → n < j → n < k → digits_in j n ≡ digits_in k n
digits_enough zero k n h g = absurd (omega arith)
digits_enough (suc j) zero n h g = absurd (omega arith)
digits_enough (suc j) (suc k) n h g =
    by_size n _ (λ s. rw (digits_last j n s, digits_last k n s))
    (λ l. rw (digits_more j n l, digits_more k n l, digits_enough j k (n / 10) (tenth n j l h) (tenth n k l g)))

-- a number below 10 is its one digit
pub decimal_last : (n : ℕ) → n ≤ 9 → decimal_of n ≡ digit n ∷ []
unfolding decimal_of
decimal_last n h = digits_last n n h

-- from 10 on the digits are those of a tenth, and one more
pub decimal_more : (n : ℕ) → 9 < n → decimal_of n ≡ decimal_of (n / 10) ++ digit (n % 10) ∷ []
unfolding decimal_of
decimal_more n h =
    rw (digits_more n n h, digits_enough n (suc (n / 10)) (n / 10) (tenth n n h (omega arith)) (omega arith))

-- the same of their count
pub count_last : (n : ℕ) → n ≤ 9 → length (decimal_of n) ≡ 1
count_last n h = rw (decimal_last n h)

pub count_more : (n : ℕ) → 9 < n → length (decimal_of n) ≡ length (decimal_of (n / 10)) + 1
count_more n h = rw (decimal_more n h, length-append)

-- a number below a power of 10 has at most so many digits
pub count_most : (k n : ℕ) → n < 10 ^ suc k → length (decimal_of n) ≤ suc k
count_most zero n h = omega (arith, count_last n (omega arith))
count_most (suc k) n h =
    by_size n _ (λ s. omega (arith, count_last n s))
    (λ l. omega (arith, count_more n l, count_most k (n / 10) ((div-lt_iff_lt-mul (omega arith)).1 (rw pow-suc at h))))

-- ---- the library's digits

-- of a number of 64 bits they are these
pub decimal_here : (n : ℕ) → n < 2 ^ 64 → decimal n ≡ decimal_of n
decimal_here n h =
    sym (decimal_by_steps (λ m ds. decimal_of m ≡ ds) (λ m l. decimal_last m (omega arith))
    (λ m ds l e. decimal_more m (omega arith) ∙ ap (λ front. front ++ digit (m % 10) ∷ []) e) n h)
