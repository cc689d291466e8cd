-- Laws of the sum. Assumes nothing.
use Prim.Native.Nat.{ℕ, ◌+◌, ◌%◌, ◌≤◌, ◌<◌}
use mathlib.Core.Path.{◌≡◌}
use mathlib.Core.List.{List, [], ◌∷◌, ◌++◌}
use native.Mathlib.Numerals.{add-one}
use native.Mathlib.Omega.{arith}
use lib.ListN.{length, get_or, drop, drop_of_length-le}
use lib.Seq.{drop-cons}
use Rattle.base.specs.Sums.{total, checksum}

pub total-append : (a b : List ℕ) → total (a ++ b) ≡ total a + total b
unfolding total
total-append [] b = omega arith
total-append (x ∷ xs) b = omega (arith, total-append xs b)

-- the sum with one more byte
pub checksum_snoc : (b : List ℕ) (v : ℕ) → (checksum b + v) % 256 ≡ checksum (b ++ v ∷ [])
unfolding total
checksum_snoc b v = omega (arith, total-append b (v ∷ []))

-- a sum that goes on over one list and then over another goes on over their join
pub sum-append : (xs ys : List ℕ) (u : ℕ) {v w : ℕ}
    → v ≡ (u + total xs) % 256 → w ≡ (v + total ys) % 256 → w ≡ (u + total (xs ++ ys)) % 256
sum-append xs ys u e f = rw total-append (omega arith)

-- what is left of a list from i on: its first byte and the rest, or nothing
pub total_left : (b : List ℕ) (i : ℕ) → i < length b → total (drop i b) ≡ get_or b i 0 + total (drop (i + 1) b)
unfolding total
total_left b i h = rw (add-one, drop-cons b i 0)

pub total_none : (b : List ℕ) (i : ℕ) → length b ≤ i → total (drop i b) ≡ 0
unfolding total
total_none b i h = rw (drop_of_length-le b h)
