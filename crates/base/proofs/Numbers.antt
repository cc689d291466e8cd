-- Numbers are read back from the bytes that they are written in. Assumes nothing.
use Prim.Native.Nat.{ℕ, ◌+◌, ◌*◌, ◌/◌, ◌%◌}
use mathlib.Core.Path.{◌≡◌}
use mathlib.Core.List.{List, ◌++◌}
use native.Mathlib.Nat.{add_assoc}
use native.Mathlib.Omega.{arith}
use lib.ListN.{length, drop}
use lib.Seq.{get_or-append-add, get_or-append_seam, get_or-drop}
use Rattle.base.specs.Numbers.{two_at, two}

pub two_back : (n : ℕ) → n / 256 * 256 + n % 256 ≡ n
two_back n = omega arith

-- after others
pub two_after : (f : List ℕ) {k : ℕ} → length f ≡ k → (n : ℕ) (r : List ℕ) → two_at (f ++ two n r) k ≡ n
two_after f e n r = rw (← e) (simp (get_or-append-add, get_or-append_seam) (omega arith))

-- in the rest of a list
pub two_left : (p : List ℕ) (at i : ℕ) → two_at (drop at p) i ≡ two_at p (at + i)
two_left p at i = simp (get_or-drop, add_assoc)
