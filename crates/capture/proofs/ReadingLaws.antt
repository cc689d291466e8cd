-- Law of the model of reading: bytes as wanted. Assumes nothing.
use Prim.Native.Nat.{ℕ, zero, suc, min}
use mathlib.Core.Bool.{Bool, ◌&&◌}
use mathlib.Core.Path.{◌≡◌, refl, ap}
use mathlib.Core.List.{List, [], ◌∷◌}
use native.Mathlib.Omega.{arith}
use lib.ListN.{length, take}
use lib.Dec.{eqb}
use Rattle.std.specs.Cmp.Lexicographic.{pointwise}
use Rattle.capture.specs.Reading.{agrees}

-- they are, as far as both go, where their fronts are the same
pub fronts_agree : (w b : List ℕ) (n : ℕ) → n ≡ min (length w) (length b)
    → agrees w b ≡ pointwise eqb (take n w) (take n b)
unfolding agrees
fronts_agree [] b zero e = refl
fronts_agree [] b (suc n) e = absurd (omega arith)
fronts_agree (x ∷ w) [] zero e = refl
fronts_agree (x ∷ w) [] (suc n) e = absurd (omega arith)
fronts_agree (x ∷ w) (y ∷ b) zero e = absurd (omega arith)
fronts_agree (x ∷ w) (y ∷ b) (suc n) e = ap (λ (r : Bool). eqb x y && r) (fronts_agree w b n (omega arith))
