-- Claims: what each call answers, and exactly when. PROTOCOL 13.4 to 13.12, 6.12.
use Rattle.std.specs.Prelude.{ℕ, ◌+◌, ◌≤◌, ◌<◌, ◌≡◌, ◌≢◌, ◌⊎◌, List, [], ◌∷◌, ◌++◌, length, get_or, take, drop}
use Rattle.std.specs.Prelude.{Result, Ok, Err}
use Rattle.base.specs.Asking.{AsksOnce}
use Rattle.base.specs.Rows.{row}
use Rattle.base.specs.Outcomes.{outcome, output}
use Rattle.capture.specs.Format.{head, direction_of, milliseconds_of, size_of, IsRecord, record_bytes}
use Rattle.capture.specs.Format.{head_write_of, record_write_of}
use Rattle.capture.specs.Table.{refusal_number, taken_number, next_row_of, taken_of, end_row_of}
use Rattle.capture.specs.Captures.{Begins}
use Rattle.capture.specs.Reading.{next_of, end_of}
use Rattle.capture.specs.Windows.{count_of}
use Rattle.capture.specs.declared.reading.Cursor.{Cursor}
use Rattle.capture.specs.declared.reading.Ending.{Ending}
use Rattle.capture.specs.declared.reading.Ending.TheVariants as end
use Rattle.capture.specs.declared.reading.NextError.{NextError}
use Rattle.capture.specs.declared.reading.NextError.TheVariants as error
use Rattle.capture.specs.declared.reading.Refusal.{Refusal}
use Rattle.capture.specs.declared.reading.Taken.{Taken}
use Rattle.capture.specs.declared.reading.Taken.TheVariants as taken
use Rattle.capture.specs.declared.record.Direction.{Direction}
use Rattle.capture.specs.declared.record.Direction.TheVariants as direction

-- ---- rows_injective: two answers never have the same number and values
pub record RowsInjective : Type 0 where
  pub nexts : (a b : Result Taken NextError) → next_row_of a ≡ next_row_of b → a ≡ b
  pub ends : (a b : Result Ending NextError) → end_row_of a ≡ end_row_of b → a ≡ b

-- ---- answer_rows: the number and the values of each answer, and what a contract says of the cursor: PROTOCOL 13.10

-- a record that was taken
abbrev pub of_record : ℕ → Direction → ℕ → Taken
of_record count d time = taken.Record (record { count = count; direction = d; milliseconds = time })

-- of a count, a place, and what a call of `next` returns and leaves
pub record AnswerRows (count place : ℕ) (r : Result Taken NextError) (c : Cursor) : Type 0 where
  pub lacking : next_row_of (Ok taken.Lacking) ≡ row 0 (0 ∷ [])
  pub head : next_row_of (Ok taken.Head) ≡ row 0 (5 ∷ [])
  pub module_record : (time : ℕ)
      → next_row_of (Ok (of_record count direction.FromModule time)) ≡ row 1 (count ∷ 0 ∷ time ∷ [])
  pub box_record : (time : ℕ)
      → next_row_of (Ok (of_record count direction.FromBox time)) ≡ row 1 (count ∷ 1 ∷ time ∷ [])
  -- `numbers` has the numbers of refusals
  pub refused : (r : Refusal) → next_row_of (Err (error.Refused r place)) ≡ row (refusal_number r) (place ∷ [])
  pub state : next_row_of (Err error.State) ≡ row 17 (0 ∷ [])
  pub used : next_row_of (Err error.Used) ≡ row 18 (0 ∷ [])
  pub taken_row : (taken_of r c).row ≡ next_row_of r
  pub taken_place : (taken_of r c).state ≡ c.place
  -- what is said to be taken is what the row says
  pub taken_count : (t : Taken) → taken_number t ≡ count_of (next_row_of (Ok t))
  pub end_more : end_row_of (Ok end.More) ≡ row 0 (0 ∷ [])
  pub end_whole : end_row_of (Ok (end.Whole place)) ≡ row 2 (place ∷ [])
  pub end_refused : (r : Refusal) → end_row_of (Err (error.Refused r place)) ≡ row (refusal_number r) (place ∷ [])
  pub end_state : end_row_of (Err error.State) ≡ row 17 (0 ∷ [])
  pub end_used : end_row_of (Err error.Used) ≡ row 18 (0 ∷ [])

-- of all values
abbrev pub AllAnswerRows : Type 0
AllAnswerRows = (count place : ℕ) (r : Result Taken NextError) (c : Cursor) → AnswerRows count place r c

-- ---- cursor_ranges: STATE exactly when the place is 1 to 4 or beyond 2^62, before all others, in both calls; USED
-- exactly when a cursor in range is offered bytes beyond 2^62; nothing is taken: PROTOCOL 13.9

-- a place that no cursor has
abbrev pub OutOfRange : ℕ → Type 0
OutOfRange place = ((1 ≤ place) × (place ≤ 4)) ⊎ (4611686018427387904 < place)

-- of a place and some bytes
pub record CursorRange (place : ℕ) (b : List ℕ) : Type 0 where
  pub state : OutOfRange place → next_of place b ≡ outcome (row 17 (0 ∷ [])) place
  pub state_only : (next_of place b).row.number ≡ 17 → OutOfRange place
  pub used : (OutOfRange place → ⊥) → 4611686018427387904 < place + length b
      → next_of place b ≡ outcome (row 18 (0 ∷ [])) place
  pub used_only : (next_of place b).row.number ≡ 18 → 4611686018427387904 < place + length b
  pub end_state : OutOfRange place → end_of place b ≡ row 17 (0 ∷ [])
  pub end_used : (OutOfRange place → ⊥) → 4611686018427387904 < place + length b → end_of place b ≡ row 18 (0 ∷ [])

-- of all
abbrev pub CursorRanges : Type 0
CursorRanges = (place : ℕ) (b : List ℕ) → CursorRange place b

-- ---- each_next: every other answer of `next`, by the bytes; these cases are all there are

-- as far as the bytes go, they are those of a head
abbrev pub HeadSoFar : List ℕ → Type 0
HeadSoFar b = (i : ℕ) → i < length b → i < 5 → get_or b i 0 ≡ get_or head i 0

-- no whole record is at their front
abbrev pub NoRecord : List ℕ → Type 0
NoRecord b = (r : List ℕ) → IsRecord r → Begins r b → ⊥

-- before the head, and after it
pub record EachNext (place : ℕ) (b : List ℕ) : Type 0 where
  pub head_taken : place ≡ 0 → HeadSoFar b → 5 ≤ length b → next_of place b ≡ outcome (row 0 (5 ∷ [])) 5
  pub head_lacks : place ≡ 0 → HeadSoFar b → length b < 5 → next_of place b ≡ outcome (row 0 (0 ∷ [])) 0
  pub mark_refused : place ≡ 0 → (i : ℕ) → i < length b → i < 3 → get_or b i 0 ≢ get_or head i 0
      → next_of place b ≡ outcome (row 51 (0 ∷ [])) 0
  pub version_refused : place ≡ 0 → ((i : ℕ) → i < 3 → get_or b i 0 ≡ get_or head i 0)
      → (i : ℕ) → i < length b → 3 ≤ i → i < 5 → get_or b i 0 ≢ get_or head i 0
      → next_of place b ≡ outcome (row 52 (3 ∷ [])) 0
  pub direction_refused : 5 ≤ place → 1 ≤ length b → 2 ≤ get_or b 0 0
      → next_of place b ≡ outcome (row 53 (place ∷ [])) place
  pub record_taken : 5 ≤ place → (r : List ℕ) → IsRecord r → Begins r b
      → next_of place b ≡ outcome (row 1 (length r ∷ direction_of r ∷ milliseconds_of r ∷ [])) (place + length r)
  pub record_lacks : 5 ≤ place → get_or b 0 0 ≤ 1 → NoRecord b → next_of place b ≡ outcome (row 0 (0 ∷ [])) place

-- of every cursor in range and all bytes up to 2^62
abbrev pub EachNextAlways : Type 0
EachNextAlways =
    (place : ℕ) (b : List ℕ) → (OutOfRange place → ⊥) → place + length b ≤ 4611686018427387904 → EachNext place b

-- ---- each_finish: every answer of `finish`, by the bytes and the answer of `next`
pub record EachFinish (place : ℕ) (b : List ℕ) : Type 0 where
  pub whole : 5 ≤ place → length b ≡ 0 → end_of place b ≡ row 2 (place ∷ [])
  pub mark_lacks : place ≡ 0 → HeadSoFar b → length b < 3 → end_of place b ≡ row 51 (0 ∷ [])
  pub version_lacks : place ≡ 0 → HeadSoFar b → 3 ≤ length b → length b < 5 → end_of place b ≡ row 52 (3 ∷ [])
  pub ended : 5 ≤ place → 1 ≤ length b → get_or b 0 0 ≤ 1 → NoRecord b → end_of place b ≡ row 54 (place ∷ [])
  pub refused : 50 < (next_of place b).row.number → end_of place b ≡ (next_of place b).row
  pub to_take : 1 ≤ count_of (next_of place b).row → end_of place b ≡ row 0 (0 ∷ [])

-- of every cursor in range and all bytes up to 2^62
abbrev pub EachFinishAlways : Type 0
EachFinishAlways =
    (place : ℕ) (b : List ℕ) → (OutOfRange place → ⊥) → place + length b ≤ 4611686018427387904 → EachFinish place b

-- ---- next_says: what an answer of `next` says of the bytes; the other direction of each_next

-- the record at the front is whole
pub record RecordSaid (place : ℕ) (b : List ℕ) : Type 0 where
  pub after_head : 5 ≤ place
  pub within : size_of b ≤ length b
  pub is_record : IsRecord (take (size_of b) b)
  pub answer : next_of place b
      ≡ outcome (row 1 (size_of b ∷ direction_of b ∷ milliseconds_of b ∷ [])) (place + size_of b)

-- by the answer's number
pub record NextSays (place : ℕ) (b : List ℕ) : Type 0 where
  pub record_said : (next_of place b).row.number ≡ 1 → RecordSaid place b
  pub head_said : (next_of place b).row.number ≡ 0 → 1 ≤ get_or (next_of place b).row.values 0 0
      → (place ≡ 0) × Begins head b × (next_of place b ≡ outcome (row 0 (5 ∷ [])) 5)
  pub others : (next_of place b).row.number ≢ 0 → (next_of place b).row.number ≢ 1 → (next_of place b).state ≡ place
  -- the answer of finish has one value
  pub one_value : end_of place b ≡ row (end_of place b).number (get_or (end_of place b).values 0 0 ∷ [])

-- of every cursor and all bytes
abbrev pub NextSaysAlways : Type 0
NextSaysAlways = (place : ℕ) (b : List ℕ) → NextSays place b

-- ---- more_later: what is taken or refused stays so with more bytes after it: PROTOCOL 13.10
abbrev pub MoreLater : Type 0
MoreLater =
    (place : ℕ) (b more : List ℕ) → place + length (b ++ more) ≤ 4611686018427387904
    → ((next_of place b).row ≡ row 0 (0 ∷ []) → ⊥) → next_of place (b ++ more) ≡ next_of place b

-- ---- count_within: no call takes more than it is offered, and the place moves by what is taken
pub record CountWithin (place : ℕ) (b : List ℕ) : Type 0 where
  pub within : count_of (next_of place b).row ≤ length b
  pub moves : (next_of place b).state ≡ place + count_of (next_of place b).row

-- of every cursor and all bytes
abbrev pub CountsWithin : Type 0
CountsWithin = (place : ℕ) (b : List ℕ) → CountWithin place b

-- ---- window_enough: after the head, a window of 65,542 bytes always has a whole record, or is refused
abbrev pub WindowEnough : Type 0
WindowEnough =
    (place : ℕ) (b : List ℕ) → 5 ≤ place → place + length b ≤ 4611686018427387904
    → ((i : ℕ) → get_or b i 0 < 256) → 65542 ≤ length b → (next_of place b).row ≡ row 0 (0 ∷ []) → ⊥

-- ---- cursor_kept: no call moves a cursor out of range
abbrev pub CursorKept : Type 0
CursorKept = (place : ℕ) (b : List ℕ) → (OutOfRange place → ⊥) → OutOfRange (next_of place b).state → ⊥

-- ---- write_exactly: what the writing calls answer, and the buffer after them; PAYLOAD comes before ROOM, which says
-- the length of the head or of the record: PROTOCOL 13.11, 13.12
pub record WriteExactly (d t : ℕ) (p out : List ℕ) : Type 0 where
  pub head_fits : 5 ≤ length out
      → head_write_of out ≡ output (row 0 (5 ∷ [])) (0x4C ∷ 0x46 ∷ 0x54 ∷ 0x00 ∷ 0x01 ∷ drop 5 out)
  pub head_room : length out < 5 → head_write_of out ≡ output (row 22 (5 ∷ [])) out
  pub payload : 65535 < length p → record_write_of d t p out ≡ output (row 21 (0 ∷ [])) out
  pub room : length p ≤ 65535 → length out < 7 + length p
      → record_write_of d t p out ≡ output (row 22 ((7 + length p) ∷ [])) out
  pub fits : length p ≤ 65535 → 7 + length p ≤ length out
      → record_write_of d t p out ≡ output (row 0 ((7 + length p) ∷ [])) (record_bytes d t p ++ drop (7 + length p) out)

-- of all values and buffers
abbrev pub WritesExactly : Type 0
WritesExactly = (d t : ℕ) (p out : List ℕ) → WriteExactly d t p out

-- ---- head_asked: a head that met ROOM once is written into every output of the size that it said
abbrev pub HeadAsked : Type 0
HeadAsked = AsksOnce (λ out. (head_write_of out).row)

-- ---- record_asked: so is a record
abbrev pub RecordAsked : Type 0
RecordAsked = (d t : ℕ) (p : List ℕ) → AsksOnce (λ out. (record_write_of d t p out).row)
