-- Model: the state of a replay, held to the code's record by states_injective. PROTOCOL 14.1, 14.6.
-- docs/STATES.md has the range of each field.
use Rattle.std.specs.Prelude.{ℕ, Bool, cond, ◌&&◌, eqb}
use Rattle.frame.specs.State.{State as Reader, state_of as reader_state_of}
use Rattle.frame.specs.Rules.{in_range_of as reader_in_range}
use Rattle.frame.specs.Calls.{fresh_of as fresh_reader}
use Rattle.capture.specs.Reading.{in_range_of as cursor_in_range}
use Rattle.replay.specs.declared.state.Replay.{Replay}

-- the place in the capture, how many bytes of the record there are fed, and the reader of direction 0 and of 1
pub record State : Type 0 where
  pub place : ℕ
  pub fed : ℕ
  pub reader0 : Reader
  pub reader1 : Reader

-- the code's record
abbrev pub state_of : Replay → State
state_of r =
    record {
      place = r.cursor.place;
      fed = r.fed;
      reader0 = reader_state_of r.from_module;
      reader1 = reader_state_of r.from_box;
    }

-- at the beginning of a capture
abbrev pub fresh_of : ℕ → State
fresh_of limit = record { place = 0; fed = 0; reader0 = fresh_reader limit; reader1 = fresh_reader limit }

-- the cursor and both readers are in range
abbrev pub in_range_of : ℕ → State → Bool
in_range_of limit s =
    cursor_in_range s.place
    && (reader_in_range limit s.reader0.scan && reader_in_range limit s.reader1.scan)

-- the reader of a direction
abbrev pub reader_of : ℕ → State → Reader
reader_of direction s = cond (eqb direction 0) s.reader0 s.reader1

-- the state with another reader of a direction, at this place, with so many bytes fed
abbrev pub with_reader : ℕ → Reader → ℕ → ℕ → State → State
with_reader direction r place fed s =
    record {
      place = place;
      fed = fed;
      reader0 = cond (eqb direction 0) r s.reader0;
      reader1 = cond (eqb direction 0) s.reader1 r;
    }
