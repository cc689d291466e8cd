-- Claims: what a C caller relies on. PROTOCOL 6.3 to 6.5, 6.9, 6.12.
use Rattle.std.specs.Prelude.{ℕ, ◌+◌, ◌-◌, ◌*◌, ◌≤◌, ◌<◌, ◌≡◌, List, [], ◌∷◌, ◌++◌, length, drop, replicate}
use Rattle.frame.specs.Wire.{wire, body_of, frame_limit}
use Rattle.base.specs.Rows.{row}
use Rattle.base.specs.Outcomes.{Output, written_in, needed_in}
use Rattle.frame.specs.Calls.{write_of}
use Rattle.firmware.specs.Code.{returned_number, needed_from, row_from, returned, returned_of}

-- the arguments of one call
pub record Arguments : Type 0 where
  pub command : ℕ
  pub number : ℕ
  pub flags : ℕ
  pub payload : List ℕ
  pub out : List ℕ

-- the same arguments with another buffer
abbrev pub with_buffer : Arguments → List ℕ → Arguments
with_buffer g o =
    record { command = g.command; number = g.number; flags = g.flags; payload = g.payload; out = o }

-- what the writer with this limit answers and leaves
abbrev pub output_of : ℕ → Arguments → Output
output_of limit g = write_of limit g.command g.number g.flags g.payload g.out

-- the number that C gets
abbrev pub number_for : ℕ → Arguments → ℕ
number_for limit g = returned_number (output_of limit g).row

-- the frame on the wire that the arguments make
abbrev pub wire_for : Arguments → List ℕ
wire_for g = wire (body_of g.command g.number g.flags g.payload)

-- the longest frame of a limit stays below 65,536
abbrev pub SmallLimit : ℕ → Type 0
SmallLimit limit = 2 + 2 * (limit + 2) < 65536

-- ---- counts_below: no count is above 2 plus twice the size of the greatest body; for C's limit, which is a small one,
-- that is 2,054, so none reaches 65,536. PROTOCOL 2.8
pub record CountsBelow : Type 0 where
  pub any : (limit : ℕ) (g : Arguments) → written_in (output_of limit g).row ≤ 2 + 2 * (limit + 2)
  pub ours : (g : Arguments) → written_in (output_of frame_limit g).row ≤ 2054
  pub small : SmallLimit frame_limit

-- ---- lengths_below: the same of the length that ROOM has; so no number is above 133,126
pub record LengthsBelow : Type 0 where
  pub any : (limit : ℕ) (g : Arguments) → needed_in (output_of limit g).row ≤ 2 + 2 * (limit + 2)
  pub ours : (g : Arguments) → needed_in (output_of frame_limit g).row ≤ 2054
  pub number : (g : Arguments) → number_for frame_limit g ≤ 133126

-- ---- code_injective: a caller reads the answer back from the number, and two answers with the same number are equal
pub record CodeInjective (limit : ℕ) : Type 0 where
  pub decoded : (g : Arguments) → row_from (number_for limit g) ≡ (output_of limit g).row
  pub injective : (g h : Arguments)
      → number_for limit g ≡ number_for limit h → (output_of limit g).row ≡ (output_of limit h).row

-- of each limit whose counts stay below 65,536
abbrev pub CodesInjective : Type 0
CodesInjective = (limit : ℕ) → SmallLimit limit → CodeInjective limit

-- ---- told_apart: three ranges of the number, each with one answer; the middle one has 65,557 alone
pub record ToldApart (limit : ℕ) (g : Arguments) : Type 0 where
  pub count : number_for limit g < 65536 → (output_of limit g).row ≡ row 0 (number_for limit g ∷ [])
  pub payload : 65536 ≤ number_for limit g → number_for limit g < 131072
      → (number_for limit g ≡ 65557) × ((output_of limit g).row ≡ row 21 (0 ∷ []))
  pub room : 131072 ≤ number_for limit g → (output_of limit g).row ≡ row 22 ((number_for limit g - 131072) ∷ [])

-- of every call
abbrev pub ToldApartAlways : Type 0
ToldApartAlways = (limit : ℕ) → SmallLimit limit → (g : Arguments) → ToldApart limit g

-- ---- refusal_unchanged: every number from 65,536 on leaves the caller's buffer unchanged
abbrev pub RefusalUnchanged : Type 0
RefusalUnchanged =
    (limit : ℕ) → SmallLimit limit → (g : Arguments) → 65536 ≤ number_for limit g → (output_of limit g).out ≡ g.out

-- ---- code_when: when PAYLOAD, ROOM and a count come, in the numbers that C gets: PROTOCOL 6.3, 6.4. There is no other
-- case
pub record CodeWhen (limit : ℕ) (g : Arguments) : Type 0 where
  pub payload : limit < length g.payload + 5 → number_for limit g ≡ 65557
  pub room : length g.payload + 5 ≤ limit → length g.out < length (wire_for g)
      → number_for limit g ≡ 131072 + length (wire_for g)
  pub written : length g.payload + 5 ≤ limit → length (wire_for g) ≤ length g.out
      → number_for limit g ≡ length (wire_for g)

-- of every call; for C's limit in literal numbers, where each comes only then
pub record CodesWhen : Type 0 where
  pub any : (limit : ℕ) (g : Arguments) → CodeWhen limit g
  pub payload : (g : Arguments) → 1019 < length g.payload → number_for frame_limit g ≡ 65557
  pub payload_only : (g : Arguments) → number_for frame_limit g ≡ 65557 → 1019 < length g.payload
  pub room : (g : Arguments) → length g.payload ≤ 1019 → length g.out < length (wire_for g)
      → number_for frame_limit g ≡ 131072 + length (wire_for g)
  pub room_only : (g : Arguments) → 131072 ≤ number_for frame_limit g
      → (length g.payload ≤ 1019) × (length g.out < length (wire_for g))
  pub written : (g : Arguments)
      → length g.payload ≤ 1019 → length (wire_for g) ≤ length g.out → number_for frame_limit g ≡ length (wire_for g)
  pub written_only : (g : Arguments) → number_for frame_limit g < 65536
      → (length g.payload ≤ 1019) × (length (wire_for g) ≤ length g.out)

-- ---- length-read_back: what C reads out of the number is the length of the frame for ROOM, and 0 otherwise, which is
-- the length of no frame
pub record LengthReadBack : Type 0 where
  -- of every number
  pub below : (n : ℕ) → n < 131072 → needed_from n ≡ 0
  pub above : (n : ℕ) → needed_from (131072 + n) ≡ n
  -- of every call
  pub room : (g : Arguments) → length g.payload ≤ 1019 → length g.out < length (wire_for g)
      → needed_from (number_for frame_limit g) ≡ length (wire_for g)
  pub payload : (g : Arguments) → 1019 < length g.payload → needed_from (number_for frame_limit g) ≡ 0
  pub written : (g : Arguments) → length (wire_for g) ≤ length g.out → needed_from (number_for frame_limit g) ≡ 0
  pub least : (g : Arguments) → 9 ≤ length (wire_for g)

-- ---- asked_then_written: a frame that met ROOM once is written into every buffer of the length that it had, and its
-- length is returned; every shorter buffer gets the same number again
pub record AskedThenWritten (limit : ℕ) (g : Arguments) : Type 0 where
  pub enough : (o : List ℕ) → number_for limit g - 131072 ≤ length o
      → (number_for limit (with_buffer g o) ≡ number_for limit g - 131072)
      × ((output_of limit (with_buffer g o)).out ≡ wire_for g ++ drop (length (wire_for g)) o)
  pub shorter : (o : List ℕ)
      → length o < number_for limit g - 131072 → number_for limit (with_buffer g o) ≡ number_for limit g

-- of every call that met ROOM
abbrev pub AskedThenWrittenAlways : Type 0
AskedThenWrittenAlways =
    (limit : ℕ) → SmallLimit limit → (g : Arguments) → 131072 ≤ number_for limit g → AskedThenWritten limit g

-- ---- asked_with_none: no buffer at all, which is null and 0 in C, gets PAYLOAD or the length
pub record AskedWithNone (g : Arguments) : Type 0 where
  pub payload : 1019 < length g.payload → number_for frame_limit (with_buffer g []) ≡ 65557
  pub room : length g.payload ≤ 1019 → number_for frame_limit (with_buffer g []) ≡ 131072 + length (wire_for g)

-- of all arguments
abbrev pub AskedWithNoneAlways : Type 0
AskedWithNoneAlways = (g : Arguments) → AskedWithNone g

-- ---- room_suffices: a buffer of 2,054 bytes holds the frame of every payload that is not too long: PROTOCOL 6.5
abbrev pub RoomSuffices : Type 0
RoomSuffices =
    (g : Arguments) → length g.payload ≤ 1019 → 2054 ≤ length g.out → number_for frame_limit g ≡ length (wire_for g)

-- ---- c_gets: the number and the buffer that a call leaves, by its contract's equation, in literal numbers
pub record CGets (g : Arguments) (code : ℕ) (after : List ℕ) : Type 0 where
  pub payload : 1019 < length g.payload → (code ≡ 65557) × (after ≡ g.out)
  pub room : length g.payload ≤ 1019 → length g.out < length (wire_for g)
      → (code ≡ 131072 + length (wire_for g)) × (after ≡ g.out)
  pub written : length g.payload ≤ 1019 → length (wire_for g) ≤ length g.out
      → (code ≡ length (wire_for g)) × (after ≡ wire_for g ++ drop (length (wire_for g)) g.out)

-- of every call that meets the contract
abbrev pub CGetsAlways : Type 0
CGetsAlways =
    (g : Arguments) (code : ℕ) (after : List ℕ) → returned code after ≡ returned_of (output_of frame_limit g)
    → CGets g code after

-- ---- worked_codes: numbers that C gets, by computation

-- command 07, number 1, no payload; and command 90, number 1, with so many FF: each in a buffer of so many 07
abbrev pub beat : ℕ → Arguments
beat room = record { command = 0x07; number = 0x01; flags = 0; payload = []; out = replicate room 7 }

abbrev pub ones : ℕ → ℕ → Arguments
ones count room =
    record { command = 0x90; number = 0x01; flags = 0; payload = replicate count 255; out = replicate room 7 }

pub record WorkedCodes : Type 0 where
  -- the shortest frame
  pub none : returned_of (output_of frame_limit (beat 0)) ≡ returned 131081 []
  pub one_short : returned_of (output_of frame_limit (beat 8)) ≡ returned 131081 (replicate 8 7)
  pub just_right : returned_of (output_of frame_limit (beat 9))
      ≡ returned 9 (0xFF ∷ 0xFF ∷ 0x00 ∷ 0x05 ∷ 0x07 ∷ 0x01 ∷ 0x00 ∷ 0x00 ∷ 0x0D ∷ [])
  -- a payload all FF
  pub ones_short : returned_of (output_of frame_limit (ones 5 18)) ≡ returned 131091 (replicate 18 7)
  pub ones_fit : returned_of (output_of frame_limit (ones 5 19))
      ≡ returned 19 (0xFF ∷ 0xFF ∷ 0x00 ∷ 0x0A ∷ 0x90 ∷ 0x01 ∷ 0x00 ∷ 0x00 ∷ 0xFF ∷ 0x55 ∷ 0xFF ∷ 0x55 ∷ 0xFF
      ∷ 0x55 ∷ 0xFF ∷ 0x55 ∷ 0xFF ∷ 0x55 ∷ 0x96 ∷ [])
  -- the longest payload, and one byte more: PAYLOAD comes before ROOM
  pub longest : number_for frame_limit (ones 1019 0) ≡ 133119
  pub too_long : number_for frame_limit (ones 1020 0) ≡ 65557
  -- what C reads out of the numbers
  pub read : needed_from 131081 ≡ 9
  pub read_payload : needed_from 65557 ≡ 0
  pub read_count : needed_from 2054 ≡ 0
