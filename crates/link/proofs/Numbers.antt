-- The numbers in order: the first one, below which there is none, and the one after the k-th. Assumes nothing.
use Rattle.std.proofs.Common.{◌≡◌, ℕ, suc, ◌+◌, ◌-◌, ◌%◌, ◌<◌, ◌≤◌, true, eqb, leb, ap, add-zero, mod-lt, mod-eq_of_lt}
use Rattle.std.proofs.Common.{add-one, arith, eqb-true, le-leb}
use native.Mathlib.Nat.{suc-mod, mod_self, add-mod_right, zero-mod}
use borrow.Author.Tests.{eqb-false}
use Rattle.base.proofs.Tests.{by_test}
use Rattle.link.specs.Sending.{first_number, number_at}
use Rattle.link.specs.Calls.{following_of}
use Rattle.link.specs.Numbers.{NumbersRunFrom}

-- no number is below the first one of the code
pub none_below : (n : ℕ) → leb first_number n ≡ true
none_below n = le-leb 0 n (omega arith)

-- the first number is the 0-th
pub number_first : (first : ℕ) → number_at first 0 ≡ first
number_first first = rw (zero-mod, add-zero)

pub numbers_run : NumbersRunFrom
numbers_run first h =
    record {
      rises = λ k small. ap (λ (n : ℕ). first + n) (mod-eq_of_lt (omega arith));
      again = λ k. ap (λ n. first + n) (add-mod_right k (256 - first));
    }

-- the number after the k-th is the next, over 255 too
pub number_next : (first k : ℕ) → first ≤ 255 → following_of first (number_at first k) ≡ number_at first (k + 1)
number_next first k h =
    let m : ℕ = 256 - first in
    let small : k % m < m = mod-lt k (omega arith) in
    rw (add-one k, suc-mod) (by_test (λ (n : ℕ). n ≡ first + suc (k % m) % m) (eqb (number_at first k) 255)
    (λ e. let l : suc (k % m) ≡ m = omega (arith, eqb-true) in rw (l, mod_self) (omega arith))
    (λ e. let l : suc (k % m) < m = omega (arith, eqb-false) in rw (mod-eq_of_lt l) (omega arith)))
