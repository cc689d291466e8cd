-- Claims: what the writing calls make is read back. PROTOCOL 13.13.
use Rattle.std.specs.Prelude.{ℕ, ◌+◌, ◌≤◌, ◌≡◌, List, [], ◌∷◌, ◌++◌, map, length, take}
use Rattle.frame.specs.Offers.{joined}
use Rattle.base.specs.Outcomes.{Output, written_in}
use Rattle.capture.specs.Format.{head, direction_of, milliseconds_of, payload_of, record_bytes}
use Rattle.capture.specs.Format.{head_write_of, record_write_of}
use Rattle.capture.specs.Captures.{Reads}

-- what is to be recorded
pub record Item : Type 0 where
  pub direction : ℕ
  pub milliseconds : ℕ
  pub payload : List ℕ

-- the record of it
abbrev pub bytes_of : Item → List ℕ
bytes_of i = record_bytes i.direction i.milliseconds i.payload

-- every item has one of the two directions
abbrev pub Directed : List Item → Type 0
Directed [] = Unit {0}
Directed (i ∷ is) = (i.direction ≤ 1) × Directed is

-- the head, and the records of items
abbrev pub capture_of : List Item → List ℕ
capture_of items = head ++ joined (map bytes_of items)

-- ---- fields_back: each field of a record that was written
pub record FieldsBack (i : Item) : Type 0 where
  pub direction : direction_of (bytes_of i) ≡ i.direction
  pub milliseconds : milliseconds_of (bytes_of i) ≡ i.milliseconds
  pub payload : payload_of (bytes_of i) ≡ i.payload
  pub size : length (bytes_of i) ≡ 7 + length i.payload

-- of every item
abbrev pub FieldsBackAlways : Type 0
FieldsBackAlways = (i : Item) → FieldsBack i

-- ---- written_back: a capture that was written holds the records that were written, and has no refusal;
-- `one_reading` says that it holds no others
abbrev pub WrittenBack : Type 0
WrittenBack =
    (items : List Item) → Directed items
    → Reads (capture_of items) (map bytes_of items) 2 (length (capture_of items))

-- ---- recorder_back: what a recorder's calls put at the fronts of its buffers, joined in order, is the capture of its
-- items, if no call was refused; `written_back` says what that holds

-- an item, and the buffer of the call that writes it
pub record Recorded : Type 0 where
  pub item : Item
  pub out : List ℕ

-- the call
abbrev pub record_call : Recorded → Output
record_call r = record_write_of r.item.direction r.item.milliseconds r.item.payload r.out

-- what a call put at the front of its buffer
abbrev pub put_by : Output → List ℕ
put_by o = take (written_in o.row) o.out

-- no call was refused
abbrev pub AllWritten : List Recorded → Type 0
AllWritten [] = Unit {0}
AllWritten (r ∷ rs) = ((record_call r).row.number ≡ 0) × AllWritten rs

-- what the calls put, in order
unfoldable pub recorded_bytes : List Recorded → List ℕ
recorded_bytes [] = []
recorded_bytes (r ∷ rs) = put_by (record_call r) ++ recorded_bytes rs

-- the items
abbrev pub items_of : List Recorded → List Item
items_of [] = []
items_of (r ∷ rs) = r.item ∷ items_of rs

-- of a head and any records
abbrev pub RecorderBack : Type 0
RecorderBack =
    (out : List ℕ) (rs : List Recorded) → (head_write_of out).row.number ≡ 0 → AllWritten rs
    → put_by (head_write_of out) ++ recorded_bytes rs ≡ capture_of (items_of rs)

-- ---- recorder_read: so it is read back: it holds the records of the items, in their order, and has no refusal
abbrev pub RecorderRead : Type 0
RecorderRead =
    (out : List ℕ) (rs : List Recorded) → (head_write_of out).row.number ≡ 0 → AllWritten rs → Directed (items_of rs)
    → Reads (put_by (head_write_of out) ++ recorded_bytes rs) (map bytes_of (items_of rs)) 2
    (length (put_by (head_write_of out) ++ recorded_bytes rs))
