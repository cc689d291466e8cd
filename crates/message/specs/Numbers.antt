-- Statement: numbers and bits in bytes. PROTOCOL 1.4; bit 0 is the lowest.
use Rattle.std.specs.Prelude.{ℕ, ◌+◌, ◌*◌, ◌/◌, ◌%◌, ◌^◌, Bool, true, false, List}
use Rattle.base.specs.Numbers.{four, four_at}

-- a bit as a number
abbrev pub num : Bool → ℕ
num true = 1
num false = 0

-- the number that `count` bits of x make, from bit `from` on
abbrev pub bits : ℕ → ℕ → ℕ → ℕ
bits from count x = (x / 2 ^ from) % 2 ^ count

-- one bit
abbrev pub bit : ℕ → ℕ → ℕ
bit at x = bits at 1 x

-- the number of eight bytes at a place
abbrev pub eight_at : List ℕ → ℕ → ℕ
eight_at p at = four_at p at * 4294967296 + four_at p (at + 4)

-- a number in eight bytes, before others
abbrev pub eight : ℕ → List ℕ → List ℕ
eight n r = four (n / 4294967296) (four (n % 4294967296) r)
