-- Claims: numbers and sums, byte by byte. PROTOCOL 1.4, 2.5, 2.11.
use Rattle.std.specs.Prelude.{ℕ, ◌+◌, ◌*◌, ◌/◌, ◌%◌, ◌<◌, ◌≡◌, List, [], ◌∷◌, ◌++◌, length, get_or}
use Rattle.base.specs.Numbers.{two_at, four_at, two, four}
use Rattle.base.specs.Sums.{total, checksum}

-- ---- worked_numbers: literal bytes, by computation. The high byte comes first, and a missing byte reads as 0
pub record WorkedNumbers : Type 0 where
  pub two_read : two_at (0xAA ∷ 0x12 ∷ 0x34 ∷ 0xBB ∷ []) 1 ≡ 4660
  pub two_at_end : two_at (0xAA ∷ 0x12 ∷ []) 1 ≡ 4608
  pub two_written : two 4660 (0xBB ∷ []) ≡ 0x12 ∷ 0x34 ∷ 0xBB ∷ []
  pub four_read : four_at (0xAA ∷ 0x12 ∷ 0x34 ∷ 0x56 ∷ 0x78 ∷ 0xBB ∷ []) 1 ≡ 305419896
  pub four_written : four 305419896 (0xBB ∷ []) ≡ 0x12 ∷ 0x34 ∷ 0x56 ∷ 0x78 ∷ 0xBB ∷ []
  pub sum : checksum (200 ∷ 100 ∷ []) ≡ 44

-- ---- numbers_spelled: any bytes
pub record NumbersSpelled (a b c d n : ℕ) (r : List ℕ) : Type 0 where
  pub two_at_is : two_at (a ∷ b ∷ r) 0 ≡ a * 256 + b
  pub two_none : two_at [] 0 ≡ 0
  pub four_at_is : four_at (a ∷ b ∷ c ∷ d ∷ r) 0 ≡ ((a * 256 + b) * 256 + c) * 256 + d
  pub two_of : two n r ≡ n / 256 ∷ n % 256 ∷ r
  pub four_of : four n r ≡ n / 16777216 ∷ n / 65536 % 256 ∷ n / 256 % 256 ∷ n % 256 ∷ r
  -- every byte is added once; the sum is what is left modulo 256
  pub total_none : total [] ≡ 0
  pub total_of : total (a ∷ r) ≡ a + total r
  pub sum_of : checksum r ≡ total r % 256

-- of any numbers
abbrev pub AllSpelled : Type 0
AllSpelled = (a b c d n : ℕ) (r : List ℕ) → NumbersSpelled a b c d n r

-- ---- read_back: a number is read back from where it was written; each part of a number that fits is a byte
pub record ReadBack (f r : List ℕ) : Type 0 where
  pub two_back : (n : ℕ) → two_at (f ++ two n r) (length f) ≡ n
  pub four_back : (n : ℕ) → four_at (f ++ four n r) (length f) ≡ n
  pub two_fits : (n : ℕ) → n < 65536 → (get_or (two n r) 0 0 < 256) × (get_or (two n r) 1 0 < 256)
  pub four_fits : (n : ℕ) → n < 4294967296
      → (get_or (four n r) 0 0 < 256) × (get_or (four n r) 1 0 < 256) × (get_or (four n r) 2 0 < 256)
      × (get_or (four n r) 3 0 < 256)

-- between any bytes
abbrev pub ReadBackBetween : Type 0
ReadBackBetween = (f r : List ℕ) → ReadBack f r
