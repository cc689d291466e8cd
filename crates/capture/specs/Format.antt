-- Statement: the bytes of a capture: its head, and its records. PROTOCOL 13.1 to 13.3, 13.11, 13.12.
use Rattle.std.specs.Prelude.{ℕ, ◌+◌, ◌≤◌, cond, ◌≡◌, List, [], ◌∷◌, ◌++◌, length, get_or, take, drop, ltb}
use Rattle.base.specs.Rows.{row}
use Rattle.base.specs.Numbers.{two_at, four_at, two, four}
use Rattle.base.specs.Outcomes.{Output, output, placed}

-- the three letters LFT: PROTOCOL 13.1
abbrev pub mark : List ℕ
mark = 76 ∷ 70 ∷ 84 ∷ []

-- version 1, in two bytes: PROTOCOL 13.2
abbrev pub version : List ℕ
version = two 1 []

-- what a capture begins with
abbrev pub head : List ℕ
head = mark ++ version

-- ---- the fields of a record at the front of some bytes, in their order: PROTOCOL 13.3

-- 0 from the module, 1 from the box
abbrev pub direction_of : List ℕ → ℕ
direction_of b = get_or b 0 0

-- when it was recorded
abbrev pub milliseconds_of : List ℕ → ℕ
milliseconds_of b = four_at b 1

-- how many bytes of payload it has
abbrev pub payload_size_of : List ℕ → ℕ
payload_size_of b = two_at b 5

-- the payload
abbrev pub payload_of : List ℕ → List ℕ
payload_of b = take (payload_size_of b) (drop 7 b)

-- the size of the whole record
abbrev pub size_of : List ℕ → ℕ
size_of b = 7 + payload_size_of b

-- some bytes are one whole record
pub record IsRecord (b : List ℕ) : Type 0 where
  pub direction : direction_of b ≤ 1
  pub size : length b ≡ size_of b

-- ---- what is written

-- a record of these values: PROTOCOL 13.3
abbrev pub record_bytes : ℕ → ℕ → List ℕ → List ℕ
record_bytes direction milliseconds payload = direction ∷ four milliseconds (two (length payload) payload)

-- the head, at the front of the caller's buffer: PROTOCOL 13.11
abbrev pub head_write_of : List ℕ → Output
head_write_of out = placed head out

-- a record, or PAYLOAD before ROOM: PROTOCOL 13.12
abbrev pub record_write_of : ℕ → ℕ → List ℕ → List ℕ → Output
record_write_of direction milliseconds payload out =
    cond (ltb 65535 (length payload)) (output (row 21 (0 ∷ [])) out)
    (placed (record_bytes direction milliseconds payload) out)
