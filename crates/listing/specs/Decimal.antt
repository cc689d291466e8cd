-- Statement: what the decimal text of a number is. PROTOCOL 10.3.
use Rattle.std.specs.Prelude.{ℕ, ◌+◌, ◌*◌, ◌-◌, ◌≤◌, ◌<◌, ◌≡◌, length, get_or}
use mathlib.Core.List.{List, [], ◌∷◌, Memᴰ}

-- a text of digits, read from the left on
unfoldable pub value_from : ℕ → List ℕ → ℕ
value_from n [] = n
value_from n (d ∷ ds) = value_from (10 * n + (d - 48)) ds

-- each byte is an ASCII digit
pub record IsDigit (d : ℕ) : Type 0 where
  pub from : 48 ≤ d
  pub to : d ≤ 57

-- the text reads as n, has digits alone, at least one, and no leading zero
pub record DecimalText (n : ℕ) (text : List ℕ) : Type 0 where
  pub value : value_from 0 text ≡ n
  pub digits : (d : ℕ) → Memᴰ d text → IsDigit d
  pub some : 1 ≤ length text
  pub shortest : 1 < length text → 49 ≤ get_or text 0 0
