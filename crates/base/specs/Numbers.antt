-- Statement: numbers of two and four bytes, big-endian. PROTOCOL 1.4, 2.11.
use Rattle.std.specs.Prelude.{ℕ, ◌+◌, ◌*◌, ◌/◌, ◌%◌, List, ◌∷◌, get_or}

-- the number of two bytes at a place; a missing byte reads as 0
abbrev pub two_at : List ℕ → ℕ → ℕ
two_at p at = get_or p at 0 * 256 + get_or p (at + 1) 0

-- the number of four bytes
abbrev pub four_at : List ℕ → ℕ → ℕ
four_at p at = two_at p at * 65536 + two_at p (at + 2)

-- a number in two bytes, followed by others
abbrev pub two : ℕ → List ℕ → List ℕ
two n r = n / 256 ∷ n % 256 ∷ r

-- a number in four bytes
abbrev pub four : ℕ → List ℕ → List ℕ
four n r = two (n / 65536) (two (n % 65536) r)
