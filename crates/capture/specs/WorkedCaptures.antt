-- Claims: worked captures, by computation. PROTOCOL 13.1 to 13.12.
use Rattle.std.specs.Prelude.{ℕ, ◌^◌, ◌≡◌, List, [], ◌∷◌, ◌++◌, replicate}
use Rattle.base.specs.Rows.{row}
use Rattle.base.specs.Outcomes.{outcome, output}
use Rattle.capture.specs.Format.{record_bytes, head_write_of, record_write_of}
use Rattle.capture.specs.Reading.{next_of, end_of}
use Rattle.capture.specs.Windows.{records_by, place_by, left_by, AreWindows, Closes}

-- ---- worked_refusals: each refusal, with its place, at the end and as soon as a byte decides it
pub record WorkedRefusals : Type 0 where
  pub nothing : end_of 0 [] ≡ row 51 (0 ∷ [])
  pub half_mark : end_of 0 (0x4C ∷ 0x46 ∷ []) ≡ row 51 (0 ∷ [])
  pub wrong_mark : next_of 0 (0x4C ∷ 0x46 ∷ 0x55 ∷ []) ≡ outcome (row 51 (0 ∷ [])) 0
  pub first_wrong : next_of 0 (0x58 ∷ []) ≡ outcome (row 51 (0 ∷ [])) 0
  pub mark_alone : end_of 0 (0x4C ∷ 0x46 ∷ 0x54 ∷ []) ≡ row 52 (3 ∷ [])
  pub half_version : end_of 0 (0x4C ∷ 0x46 ∷ 0x54 ∷ 0x00 ∷ []) ≡ row 52 (3 ∷ [])
  pub wrong_version : next_of 0 (0x4C ∷ 0x46 ∷ 0x54 ∷ 0x00 ∷ 0x02 ∷ []) ≡ outcome (row 52 (3 ∷ [])) 0
  pub swapped_version : next_of 0 (0x4C ∷ 0x46 ∷ 0x54 ∷ 0x01 ∷ []) ≡ outcome (row 52 (3 ∷ [])) 0
  pub wrong_direction : next_of 5 (0x02 ∷ []) ≡ outcome (row 53 (5 ∷ [])) 5
  pub direction_first : end_of 5 (0x02 ∷ []) ≡ row 53 (5 ∷ [])
  pub half_record : end_of 5 (0x00 ∷ []) ≡ row 54 (5 ∷ [])
  pub half_payload : end_of 12 (0x01 ∷ 0x00 ∷ 0x00 ∷ 0x00 ∷ 0x00 ∷ 0x00 ∷ 0x02 ∷ 0xAA ∷ []) ≡ row 54 (12 ∷ [])
  pub no_record : end_of 5 [] ≡ row 2 (5 ∷ [])
  pub no_such_place : next_of 3 [] ≡ outcome (row 17 (0 ∷ [])) 3
  pub no_such_end : end_of 4 [] ≡ row 17 (0 ∷ [])
  pub too_far : next_of (2 ^ 62) (0x00 ∷ []) ≡ outcome (row 18 (0 ∷ [])) (2 ^ 62)

-- ---- worked_capture: both directions, an empty record, and what is left; in one window, in small ones, and record by
-- record

-- its head
abbrev pub worked_head : List ℕ
worked_head = 0x4C ∷ 0x46 ∷ 0x54 ∷ 0x00 ∷ 0x01 ∷ []

-- from the box, after 0x01020304 milliseconds, AA BB
abbrev pub box_record : List ℕ
box_record = 0x01 ∷ 0x01 ∷ 0x02 ∷ 0x03 ∷ 0x04 ∷ 0x00 ∷ 0x02 ∷ 0xAA ∷ 0xBB ∷ []

-- from the module, nothing
abbrev pub empty_record : List ℕ
empty_record = 0x00 ∷ 0x01 ∷ 0x02 ∷ 0x03 ∷ 0x05 ∷ 0x00 ∷ 0x00 ∷ []

-- calls, and their answers
pub record WorkedCapture : Type 0 where
  pub head_taken : next_of 0 (worked_head ++ box_record) ≡ outcome (row 0 (5 ∷ [])) 5
  pub box_taken : next_of 5 (box_record ++ empty_record) ≡ outcome (row 1 (9 ∷ 1 ∷ 16909060 ∷ [])) 14
  pub empty_taken : next_of 14 empty_record ≡ outcome (row 1 (7 ∷ 0 ∷ 16909061 ∷ [])) 21
  pub box_lacks : next_of 5 (0x01 ∷ 0x01 ∷ 0x02 ∷ 0x03 ∷ 0x04 ∷ 0x00 ∷ 0x02 ∷ 0xAA ∷ []) ≡ outcome (row 0 (0 ∷ [])) 5
  -- the count's high byte is first
  pub long_taken : next_of 5 (0x00 ∷ 0x00 ∷ 0x00 ∷ 0x00 ∷ 0x00 ∷ 0x01 ∷ 0x02 ∷ replicate 258 0xFF)
      ≡ outcome (row 1 (265 ∷ 0 ∷ 0 ∷ [])) 270
  pub records : records_by 0 (worked_head ∷ [] ∷ (box_record ++ 0x00 ∷ []) ∷ (0x00 ∷ []) ∷ empty_record ∷ [] ∷ [])
      ≡ box_record ∷ empty_record ∷ []
  pub place : place_by 0 (worked_head ∷ [] ∷ (box_record ++ 0x00 ∷ []) ∷ (0x00 ∷ []) ∷ empty_record ∷ [] ∷ []) ≡ 21
  pub end : end_of 21 [] ≡ row 2 (21 ∷ [])
  pub written : record_bytes 1 16909060 (0xAA ∷ 0xBB ∷ []) ≡ box_record

-- ---- worked_room: the length that ROOM says, one byte short, and the same where it fits

-- of the head, and of the worked record
pub record WorkedRoom : Type 0 where
  pub head_short : head_write_of (replicate 4 7) ≡ output (row 22 (5 ∷ [])) (replicate 4 7)
  pub head_fits : head_write_of (replicate 5 7) ≡ output (row 0 (5 ∷ [])) worked_head
  pub record_short : record_write_of 1 16909060 (0xAA ∷ 0xBB ∷ []) (replicate 8 7)
      ≡ output (row 22 (9 ∷ [])) (replicate 8 7)
  pub record_fits : record_write_of 1 16909060 (0xAA ∷ 0xBB ∷ []) (replicate 9 7) ≡ output (row 0 (9 ∷ [])) box_record
  -- the longest record, and one that no count can say
  pub longest : record_write_of 0 0 (replicate 65535 7) [] ≡ output (row 22 (65542 ∷ [])) []
  pub too_long : record_write_of 0 0 (replicate 65536 7) [] ≡ output (row 21 (0 ∷ [])) []

-- ---- worked_windows_lem: windows on the worked capture, which are fronts of what is left; what they leave, and what
-- closes it. A byte that comes again, one that is left out, and an early end are refused

-- the worked capture
abbrev pub worked_bytes : List ℕ
worked_bytes = worked_head ++ (box_record ++ empty_record)

-- the head; a record and a byte more; that byte again, alone; the rest
abbrev pub worked_windows : List (List ℕ)
worked_windows = (worked_head ++ 0x01 ∷ []) ∷ (box_record ++ 0x00 ∷ []) ∷ (0x00 ∷ []) ∷ empty_record ∷ []

-- right windows, and wrong ones
pub record WorkedWindows : Type 0 where
  pub are : AreWindows 0 worked_bytes worked_windows
  pub left : left_by 0 worked_bytes worked_windows ≡ []
  pub taken : records_by 0 worked_windows ≡ box_record ∷ empty_record ∷ []
  pub closes : Closes 21 [] []
  pub closes_refused : Closes 5 (0x02 ∷ 0x00 ∷ []) (0x02 ∷ [])
  pub not_early : Closes 5 box_record (0x01 ∷ []) → ⊥
  pub not_again : AreWindows 0 worked_bytes (worked_head ∷ worked_head ∷ []) → ⊥
  pub not_left_out : AreWindows 0 worked_bytes (worked_head ∷ (0x01 ∷ 0x02 ∷ []) ∷ []) → ⊥
