-- Claims: the format byte by byte. PROTOCOL 13.1 to 13.3.
use Rattle.std.specs.Prelude.{ℕ, ◌+◌, ◌*◌, ◌/◌, ◌%◌, ◌≤◌, ◌<◌, ◌≡◌, List, [], ◌∷◌, length, take}
use Rattle.std.specs.Prelude.{Result, Ok, Err}
use Rattle.capture.specs.Format.{head, direction_of, milliseconds_of, payload_size_of, payload_of, size_of, IsRecord}
use Rattle.capture.specs.Format.{record_bytes}
use Rattle.capture.specs.Table.{direction_number, IsDirection, refusal_number}
use Rattle.capture.specs.declared.reading.Refusal.TheVariants as refusal
use Rattle.capture.specs.declared.record.Direction.{Direction}
use Rattle.capture.specs.declared.record.Direction.TheVariants as direction
use Rattle.capture.specs.declared.record.UnknownDirection.{UnknownDirection}

-- ---- format_spelled: the head, each field of a record at its place, and a record written: numbers have the high byte
-- first
pub record FormatSpelled (d t u v w a b : ℕ) (p : List ℕ) : Type 0 where
  pub head_bytes : head ≡ 0x4C ∷ 0x46 ∷ 0x54 ∷ 0x00 ∷ 0x01 ∷ []
  pub direction_at : direction_of (d ∷ t ∷ u ∷ v ∷ w ∷ a ∷ b ∷ p) ≡ d
  pub milliseconds_at : milliseconds_of (d ∷ t ∷ u ∷ v ∷ w ∷ a ∷ b ∷ p) ≡ ((t * 256 + u) * 256 + v) * 256 + w
  pub payload_size_at : payload_size_of (d ∷ t ∷ u ∷ v ∷ w ∷ a ∷ b ∷ p) ≡ a * 256 + b
  pub payload_at : payload_of (d ∷ t ∷ u ∷ v ∷ w ∷ a ∷ b ∷ p) ≡ take (a * 256 + b) p
  pub size_is : size_of (d ∷ t ∷ u ∷ v ∷ w ∷ a ∷ b ∷ p) ≡ 7 + (a * 256 + b)
  pub written : record_bytes d t p
      ≡ d ∷ t / 16777216 ∷ t / 65536 % 256 ∷ t / 256 % 256 ∷ t % 256 ∷ length p / 256 ∷ length p % 256 ∷ p

-- of any bytes
abbrev pub AllFormatSpelled : Type 0
AllFormatSpelled = (d t u v w a b : ℕ) (p : List ℕ) → FormatSpelled d t u v w a b p

-- ---- record_exactly: which bytes are one whole record
pub record RecordExactly (d t u v w a b : ℕ) (p : List ℕ) : Type 0 where
  pub is : d ≤ 1 → length p ≡ a * 256 + b → IsRecord (d ∷ t ∷ u ∷ v ∷ w ∷ a ∷ b ∷ p)
  pub only_direction : IsRecord (d ∷ t ∷ u ∷ v ∷ w ∷ a ∷ b ∷ p) → d ≤ 1
  pub only_size : IsRecord (d ∷ t ∷ u ∷ v ∷ w ∷ a ∷ b ∷ p) → length p ≡ a * 256 + b
  pub not_shorter : (r : List ℕ) → length r < 7 → IsRecord r → ⊥

-- of any bytes
abbrev pub RecordsExactly : Type 0
RecordsExactly = (d t u v w a b : ℕ) (p : List ℕ) → RecordExactly d t u v w a b p

-- ---- numbers: of directions and refusals: PROTOCOL 13.3, 13.5 to 13.8
pub record Numbers : Type 0 where
  pub from_module_is : direction_number direction.FromModule ≡ 0
  pub from_box_is : direction_number direction.FromBox ≡ 1
  pub mark : refusal_number refusal.Mark ≡ 51
  pub version : refusal_number refusal.Version ≡ 52
  pub direction : refusal_number refusal.Direction ≡ 53
  pub ended : refusal_number refusal.Ended ≡ 54

-- ---- directions_of_numbers: what each first byte of a record says, in literal numbers; any other comes back:
-- PROTOCOL 13.3, 13.7
pub record DirectionsOfNumbers : Type 0 where
  pub from_module : IsDirection 0 (Ok direction.FromModule)
  pub from_box : IsDirection 1 (Ok direction.FromBox)
  pub unknown : (e : UnknownDirection) → 1 < e.0 → IsDirection e.0 (Err e)
  -- exactly the byte, and only above 1
  pub only_unknown : (n : ℕ) (e : UnknownDirection) → IsDirection n (Err e) → (e.0 ≡ n) × (1 < n)
  -- a number has one answer
  pub one_direction : (n : ℕ) (r s : Result Direction UnknownDirection) → IsDirection n r → IsDirection n s → r ≡ s
