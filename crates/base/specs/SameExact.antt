-- Claims: two lists of bytes compare as the same exactly where they are equal.
use Rattle.std.specs.Prelude.{ℕ, ◌≡◌, true, List}
use Rattle.base.specs.Same.{same_bytes}

-- ---- same_exactly: both directions
pub record SameExact (a b : List ℕ) : Type 0 where
  pub equal : same_bytes a b ≡ true → a ≡ b
  pub same : a ≡ b → same_bytes a b ≡ true

-- of all bytes
abbrev pub SameExactly : Type 0
SameExactly = (a b : List ℕ) → SameExact a b
