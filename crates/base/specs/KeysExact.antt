-- Claims: `among` finds a number exactly when it is in the list.
use Rattle.std.specs.Prelude.{ℕ, ◌≡◌, true}
use mathlib.Core.List.{List, Memᴰ}
use Rattle.base.specs.Keys.{among}

-- ---- looked_up: both directions
pub record LookedUp (x : ℕ) (l : List ℕ) : Type 0 where
  pub there : Memᴰ x l → among x l ≡ true
  pub only_there : among x l ≡ true → Memᴰ x l

-- of any number and list
abbrev pub AllLookedUp : Type 0
AllLookedUp = (x : ℕ) (l : List ℕ) → LookedUp x l
