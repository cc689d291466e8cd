-- Claims: calls with any windows read what the capture's bytes decide, which is one reading. PROTOCOL 13.4 to 13.10.
use Rattle.std.specs.Prelude.{ℕ, ◌+◌, ◌*◌, ◌≤◌, ◌<◌, ◌≡◌, ◌≢◌, List, [], ◌∷◌, length, get_or, take, drop}
use Rattle.base.specs.Rows.{row}
use Rattle.frame.specs.Offers.{joined}
use Rattle.capture.specs.Captures.{AllRecords, Reads}
use Rattle.capture.specs.Reading.{end_of}
use Rattle.capture.specs.Windows.{records_by, place_by, left_by, AreWindows, Closes}

-- ---- windows_read: whatever windows on a capture the calls are offered, they take its records, in order; and where
-- finish closes it, it says why and where reading stops
abbrev pub WindowsRead : Type 0
WindowsRead =
    (capture : List ℕ) → length capture ≤ 4611686018427387904 → (windows : List (List ℕ)) → AreWindows 0 capture windows
    → (w : List ℕ) → Closes (place_by 0 windows) (left_by 0 capture windows) w
    → (number place : ℕ) → end_of (place_by 0 windows) w ≡ row number (place ∷ []) → number ≢ 0
    → Reads capture (records_by 0 windows) number place

-- ---- one_reading: a capture has exactly one reading

-- what a capture holds
pub record Reading (capture : List ℕ) : Type 0 where
  pub records : List (List ℕ)
  pub number : ℕ
  pub place : ℕ
  pub reads : Reads capture records number place

-- the same records, number and place
pub record SameReading (capture : List ℕ) (a b : Reading capture) : Type 0 where
  pub records : a.records ≡ b.records
  pub number : a.number ≡ b.number
  pub place : a.place ≡ b.place

-- there is one, and no other
pub record OneReading (capture : List ℕ) : Type 0 where
  pub some : Reading capture
  pub same : (a b : Reading capture) → SameReading capture a b

-- of every capture
abbrev pub OneReadingAlways : Type 0
OneReadingAlways = (capture : List ℕ) → OneReading capture

-- ---- stops_exactly: where and why reading stops, by the bytes of the capture at their places

-- it begins with LFT
pub record HasMark (c : List ℕ) : Type 0 where
  pub bytes : 3 ≤ length c
  pub first : get_or c 0 0 ≡ 0x4C
  pub second : get_or c 1 0 ≡ 0x46
  pub third : get_or c 2 0 ≡ 0x54

-- and version 1 follows
pub record HasHead (c : List ℕ) : Type 0 where
  pub mark : HasMark c
  pub bytes : 5 ≤ length c
  pub high : get_or c 3 0 ≡ 0
  pub low : get_or c 4 0 ≡ 1

-- of a capture, its records, and the number and place of its stop
pub record StopsExactly (c : List ℕ) (records : List (List ℕ)) (number place : ℕ) : Type 0 where
  pub no_mark : (HasMark c → ⊥) → (number ≡ 51) × (place ≡ 0)
  pub no_mark_only : number ≡ 51 → HasMark c → ⊥
  pub no_version : HasMark c → (HasHead c → ⊥) → (number ≡ 52) × (place ≡ 3)
  pub no_version_only : number ≡ 52 → HasMark c × (HasHead c → ⊥)
  -- the records are the bytes after the head, and reading stops after them
  pub none_taken : (HasHead c → ⊥) → records ≡ []
  pub record_bytes : HasHead c → take (length (joined records)) (drop 5 c) ≡ joined records
  pub each_record : AllRecords records
  pub after_records : HasHead c → place ≡ 5 + length (joined records)
  pub direction : HasHead c → place < length c → 2 ≤ get_or c place 0 → number ≡ 53
  pub direction_only : number ≡ 53 → HasHead c × (place < length c) × (2 ≤ get_or c place 0)
  pub ended : HasHead c → place < length c → get_or c place 0 ≤ 1 → number ≡ 54
  pub ended_only : number ≡ 54 → HasHead c × (place < length c) × (get_or c place 0 ≤ 1)
  pub ended_lacks : number ≡ 54 → length c < place + 7 + (get_or c (place + 5) 0 * 256 + get_or c (place + 6) 0)
  pub whole : HasHead c → place ≡ length c → number ≡ 2
  pub whole_only : number ≡ 2 → HasHead c × (place ≡ length c)

-- of every reading
abbrev pub StopsExactlyAlways : Type 0
StopsExactlyAlways =
    (c : List ℕ) (records : List (List ℕ)) (number place : ℕ) → Reads c records number place
    → StopsExactly c records number place
