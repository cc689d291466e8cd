-- Claims: what each call answers and leaves, and exactly when. PROTOCOL 14.4 to 14.7, 6.12.
use Rattle.std.specs.Prelude.{ℕ, ◌+◌, ◌≤◌, ◌<◌, ◌≡◌, ◌≢◌, ◌⊎◌, true, List, [], ◌∷◌, ◌++◌, Result, Ok, Err, length}
use Rattle.std.specs.Prelude.{get_or, drop}
use Rattle.base.specs.Asking.{AsksOnce}
use Rattle.base.specs.Keys.{among}
use Rattle.base.specs.Rows.{row}
use Rattle.base.specs.Outcomes.{Output, output}
use Rattle.base.specs.Runs.{Run}
use Rattle.base.specs.declared.writes.WriteError.TheVariants as unwritten
use Rattle.frame.specs.Wire.{frame_limit}
use Rattle.frame.specs.Ranges.{OutOfRange as ReaderOut}
use Rattle.frame.specs.State.{State as Reader, state_of as reader_state_of}
use Rattle.frame.specs.Calls.{fresh_of as fresh_reader}
use Rattle.listing.specs.Lines.{refusal_text}
use Rattle.capture.specs.EachCall.{OutOfRange as CursorOut}
use Rattle.capture.specs.Reading.{next_of, end_of}
use Rattle.replay.specs.State.{State, state_of, fresh_of, reader_of, with_reader}
use Rattle.replay.specs.Table.{stop_of, closing_row_of}
use Rattle.replay.specs.Playing.{play_of, left_of}
use Rattle.replay.specs.Closing.{end_lines, close_of, Closes}
use Rattle.replay.specs.Window.{kept_of}
use Rattle.replay.specs.declared.closing.CloseError.{CloseError}
use Rattle.replay.specs.declared.closing.CloseError.TheVariants as error
use Rattle.replay.specs.declared.closing.Closing.{Closing}
use Rattle.replay.specs.declared.closing.Closing.TheVariants as closing
use Rattle.replay.specs.declared.playing.Played.{Played}
use Rattle.replay.specs.declared.state.Replay.{Replay}
use Rattle.replay.specs.declared.steps.Stop.TheVariants as stop
use Rattle.capture.specs.declared.reading.Refusal.TheVariants as refusal

-- ---- states_injective: the specification's state says all of the code's record
abbrev pub StatesInjective : Type 0
StatesInjective = (a b : Replay) → state_of a ≡ state_of b → a ≡ b

-- ---- named_states: which field of the specification's state each field of the record is; and a fresh one
pub record NamedStates (r : Replay) (s : State) (q : Reader) (place fed : ℕ) : Type 0 where
  pub place_is : (state_of r).place ≡ r.cursor.place
  pub fed_is : (state_of r).fed ≡ r.fed
  pub from_module_is : (state_of r).reader0 ≡ reader_state_of r.from_module
  pub from_box_is : (state_of r).reader1 ≡ reader_state_of r.from_box
  pub fresh : fresh_of frame_limit ≡ record {
    place = 0;
    fed = 0;
    reader0 = fresh_reader frame_limit;
    reader1 = fresh_reader frame_limit;
  }
  -- direction 0 has the first reader, direction 1 the second
  pub reader_of_0 : reader_of 0 s ≡ s.reader0
  pub reader_of_1 : reader_of 1 s ≡ s.reader1
  pub with_0 : with_reader 0 q place fed s ≡ record { place = place; fed = fed; reader0 = q; reader1 = s.reader1 }
  pub with_1 : with_reader 1 q place fed s ≡ record { place = place; fed = fed; reader0 = s.reader0; reader1 = q }

-- of all
abbrev pub AllNamedStates : Type 0
AllNamedStates = (r : Replay) (s : State) (q : Reader) (place fed : ℕ) → NamedStates r s q place fed

-- ---- answer_rows: the number and the values of each answer of finish: PROTOCOL 14.5
pub record AnswerRows (count place : ℕ) : Type 0 where
  pub more : closing_row_of (Ok closing.More) ≡ row 0 (0 ∷ [])
  pub whole : closing_row_of (Ok (closing.Whole count)) ≡ row 2 (count ∷ [])
  pub mark : closing_row_of (Ok (closing.Refused count refusal.Mark place)) ≡ row 51 (count ∷ place ∷ [])
  pub version : closing_row_of (Ok (closing.Refused count refusal.Version place)) ≡ row 52 (count ∷ place ∷ [])
  pub direction : closing_row_of (Ok (closing.Refused count refusal.Direction place)) ≡ row 53 (count ∷ place ∷ [])
  pub ended : closing_row_of (Ok (closing.Refused count refusal.Ended place)) ≡ row 54 (count ∷ place ∷ [])
  pub payload : closing_row_of (Err (error.Unwritten unwritten.Payload)) ≡ row 21 (0 ∷ [])
  pub room : closing_row_of (Err (error.Unwritten (unwritten.Room count))) ≡ row 22 (count ∷ [])
  pub state : closing_row_of (Err error.State) ≡ row 17 (0 ∷ [])
  pub used : closing_row_of (Err error.Used) ≡ row 18 (0 ∷ [])

-- of all values
abbrev pub AllAnswerRows : Type 0
AllAnswerRows = (count place : ℕ) → AnswerRows count place

-- ---- rows_injective: two answers of finish never have the same number and values
abbrev pub RowsInjective : Type 0
RowsInjective = (a b : Result Closing CloseError) → closing_row_of a ≡ closing_row_of b → a ≡ b

-- ---- stop_numbers_lem: the number of each stop: PROTOCOL 14.4
pub record StopNumbers : Type 0 where
  pub done : stop_of stop.Done ≡ 0
  pub room : stop_of stop.Room ≡ 22
  pub state : stop_of stop.State ≡ 17
  pub used : stop_of stop.Used ≡ 18
  pub mark : stop_of (stop.Refused refusal.Mark) ≡ 51
  pub version : stop_of (stop.Refused refusal.Version) ≡ 52
  pub direction : stop_of (stop.Refused refusal.Direction) ≡ 53
  pub ended : stop_of (stop.Refused refusal.Ended) ≡ 54

-- ---- left_fields: what the contract's equation says of each field that the code returns, and of what it leaves
pub record LeftFields (l : Played × Replay) (after : List ℕ) : Type 0 where
  pub state : (left_of l after).state ≡ state_of l.1
  pub used : (left_of l after).used ≡ l.0.used
  pub written : (left_of l after).written ≡ l.0.written
  pub stop : (left_of l after).stop ≡ stop_of l.0.stop
  pub out : (left_of l after).out ≡ after

-- of everything that it may return
abbrev pub LeftFieldsAlways : Type 0
LeftFieldsAlways = (l : Played × Replay) (after : List ℕ) → LeftFields l after

-- ---- replay_ranges: STATE exactly when the cursor or a reader is out of range, before all others, and nothing changes
abbrev pub OutOfRange : State → Type 0
OutOfRange s = CursorOut s.place ⊎ (ReaderOut s.reader0 ⊎ ReaderOut s.reader1)

-- of both calls
pub record ReplayRange (s : State) (b out : List ℕ) (room : ℕ) : Type 0 where
  pub played : OutOfRange s → play_of frame_limit s b room ≡ record { state = s; used = 0; text = []; stop = 17 }
  pub played_only : (OutOfRange s → ⊥) → (play_of frame_limit s b room).stop ≢ 17
  pub closed : OutOfRange s → close_of frame_limit s b out ≡ output (row 17 (0 ∷ [])) out
  pub closed_only : (OutOfRange s → ⊥) → (close_of frame_limit s b out).row.number ≢ 17

-- of all states
abbrev pub ReplayRanges : Type 0
ReplayRanges = (s : State) (b out : List ℕ) (room : ℕ) → ReplayRange s b out room

-- ---- play_stops: one call of `play`: how far it comes, and what each stop says
pub record PlayStops (s : State) (b : List ℕ) (room : ℕ) (run : Run State) : Type 0 where
  pub within : run.used ≤ length b
  pub moves : run.state.place ≡ s.place + run.used
  pub stops : among run.stop (0 ∷ 17 ∷ 18 ∷ 22 ∷ 51 ∷ 52 ∷ 53 ∷ []) ≡ true
  -- nothing more can be taken from the window: every complete record in it is listed
  pub done : run.stop ≡ 0 → (next_of run.state.place (drop run.used b)).row ≡ row 0 (0 ∷ [])
  -- a record is there that is not listed to its end, and less room is left than a line may need
  pub room_left : run.stop ≡ 22
      → ((next_of run.state.place (drop run.used b)).row.number ≡ 1) × (room < length run.text + 134)
  -- the window ends beyond 2^62, or the reader of a record that is there has come so far
  pub used : run.stop ≡ 18
      → ((next_of run.state.place (drop run.used b)).row.number ≡ 18)
      ⊎ ((next_of run.state.place (drop run.used b)).row.number ≡ 1)
  pub refused : 50 < run.stop → (next_of run.state.place (drop run.used b)).row ≡ row run.stop
      (get_or (next_of run.state.place (drop run.used b)).row.values 0 0 ∷ [])

-- of all states, windows and rooms
abbrev pub PlayStopsAlways : Type 0
PlayStopsAlways =
    (limit : ℕ) (s : State) (b : List ℕ) (room : ℕ) → PlayStops s b room (play_of limit s b room)

-- ---- closes_exactly: what `finish` answers and leaves, by the capture's end; ROOM says the length of the text:
-- PROTOCOL 14.5
pub record ClosesExactly (s : State) (b out : List ℕ) : Type 0 where
  -- both end lines, at the front of the buffer, whose rest stays
  pub whole : (place : ℕ) → end_of s.place b ≡ row 2 (place ∷ []) → length (end_lines frame_limit s) ≤ length out
      → close_of frame_limit s b out ≡ output (row 2 (length (end_lines frame_limit s) ∷ []))
      (end_lines frame_limit s ++ drop (length (end_lines frame_limit s)) out)
  pub whole_room : (place : ℕ) → end_of s.place b ≡ row 2 (place ∷ []) → length out < length (end_lines frame_limit s)
      → close_of frame_limit s b out ≡ output (row 22 (length (end_lines frame_limit s) ∷ [])) out
  -- the line of the refusal
  pub refused : (number place : ℕ) → end_of s.place b ≡ row number (place ∷ []) → 50 < number
      → length (refusal_text number place) ≤ length out
      → close_of frame_limit s b out ≡ output (row number (length (refusal_text number place) ∷ place ∷ []))
      (refusal_text number place ++ drop (length (refusal_text number place)) out)
  pub refused_room : (number place : ℕ) → end_of s.place b ≡ row number (place ∷ []) → 50 < number
      → length out < length (refusal_text number place)
      → close_of frame_limit s b out ≡ output (row 22 (length (refusal_text number place) ∷ [])) out
  -- something is left to play, or more than 2^62 bytes came
  pub more : end_of s.place b ≡ row 0 (0 ∷ []) → close_of frame_limit s b out ≡ output (row 0 (0 ∷ [])) out
  pub used : end_of s.place b ≡ row 18 (0 ∷ []) → close_of frame_limit s b out ≡ output (row 18 (0 ∷ [])) out

-- of every replay in range
abbrev pub ClosesExactlyAlways : Type 0
ClosesExactlyAlways = (s : State) (b out : List ℕ) → (OutOfRange s → ⊥) → ClosesExactly s b out

-- ---- finish_asked: a text that met ROOM once is written into every output of the length that it said
abbrev pub FinishAsked : Type 0
FinishAsked = (limit : ℕ) (s : State) (b : List ℕ) → AsksOnce (λ out. (close_of limit s b out).row)

-- ---- no_payload: finish never answers PAYLOAD, which its type has
abbrev pub NoPayload : Type 0
NoPayload = (limit : ℕ) (s : State) (b out : List ℕ) → (close_of limit s b out).row.number ≢ 21

-- ---- closing_whole: what the contract of `finish` fixes: the answer's row, and the whole buffer
abbrev pub ClosingWhole : Type 0
ClosingWhole =
    (r : Result Closing CloseError) (after : List ℕ) (w : Output) → Closes r after w
    → (closing_row_of r ≡ w.row) × (after ≡ w.out)

-- ---- keeps_exactly: the bytes kept, one by one: PROTOCOL 14.7
pub record KeepsExactly (start end : ℕ) (b : List ℕ) : Type 0 where
  pub count : start ≤ end → end ≤ length b → length (kept_of start end b) + start ≡ end
  pub none : end ≤ start → kept_of start end b ≡ []
  pub each : (i : ℕ) → start + i < end → end ≤ length b → get_or (kept_of start end b) i 0 ≡ get_or b (start + i) 0
  pub beyond : length b ≤ end → kept_of start end b ≡ drop start b

-- of all places and buffers
abbrev pub KeepsExactlyAlways : Type 0
KeepsExactlyAlways = (start end : ℕ) (b : List ℕ) → KeepsExactly start end b
