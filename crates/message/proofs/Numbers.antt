-- Numbers and bits are read back from the bytes that they are written in. Assumes nothing.
use Prim.Native.Nat.{ℕ, ◌*◌, ◌≤◌}
use mathlib.Core.Path.{◌≡◌, ap}
use mathlib.Core.Bool.{Bool, true, false}
use mathlib.Core.List.{List, [], ◌∷◌, ◌++◌}
use native.Mathlib.Nat.{add_assoc}
use native.Mathlib.Omega.{arith}
use lib.ListN.{length, get_or}
use lib.Seq.{get_or-append-add, get_or-append_seam}
use Rattle.message.specs.Numbers.{num, eight_at, eight}
use Rattle.message.specs.Counter.{mode_number}
use Rattle.message.specs.declared.counter.Mode.{Mode}
use Rattle.message.specs.declared.counter.Mode.TheVariants as mode

-- the values at a place of two lists that are the same
pub value : {l r : List ℕ} (i : ℕ) → l ≡ r → get_or l i 0 ≡ get_or r i 0
value i e = ap (λ (l : List ℕ). get_or l i 0) e

-- a number of eight bytes, after others
pub eight_after : (f : List ℕ) {k : ℕ} → length f ≡ k → (n : ℕ) (r : List ℕ) → eight_at (f ++ eight n r) k ≡ n
eight_after f e n r = rw (← e) (simp (add_assoc, get_or-append-add, get_or-append_seam) (omega arith))

-- ---- bits

abbrev Small : List Bool → Type 0
Small [] = Unit
Small (b ∷ l) = (num b ≤ 1) × Small l

-- a bit is at most 1, for several bits at once, as `omega` needs it
pub small : (l : List Bool) → Small l
small [] = tt
small (true ∷ l) = (omega arith, small l)
small (false ∷ l) = (omega arith, small l)

-- ---- modes

-- a mode's number is at most 2
pub mode_max : (m : Mode) → mode_number m ≤ 2
mode_max mode.Fold = omega arith
mode_max mode.Gather = omega arith
mode_max mode.Sew = omega arith

-- and so where its flag may be 0
pub set_max : (set : Bool) (m : Mode) → num set * mode_number m ≤ 2
set_max true m = omega (arith, mode_max m)
set_max false m = omega arith
