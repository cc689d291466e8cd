-- Model: the loop over the records of a window, held to `IsReplay` by turns_replay. PROTOCOL 14.2 to 14.4, 14.6.
-- A record that the listing's loop does not finish for lack of room is continued in the next call.
use Rattle.std.specs.Prelude.{ℕ, zero, suc, ◌+◌, ◌-◌, cond, List, [], Option, Some, None, length, get_or, drop}
use Rattle.std.specs.Prelude.{eqb}
use Rattle.base.specs.Outcomes.{Outcome}
use Rattle.base.specs.Runs.{Run, stopped, onward, Left}
use Rattle.frame.specs.State.{State as Reader}
use Rattle.listing.specs.Feeding.{list_of}
use Rattle.listing.specs.Table.{stop_of as list_stop_of}
use Rattle.listing.specs.declared.feeding.Listed.{Listed}
use Rattle.capture.specs.Format.{payload_of}
use Rattle.capture.specs.Reading.{next_of}
use Rattle.replay.specs.Lines.{prefix_of}
use Rattle.replay.specs.State.{State, state_of, in_range_of, reader_of, with_reader}
use Rattle.replay.specs.Table.{stop_of}
use Rattle.replay.specs.declared.playing.Played.{Played}
use Rattle.replay.specs.declared.state.Replay.{Replay}
use Rattle.replay.specs.declared.steps.Step.{Step}
use Rattle.replay.specs.declared.steps.Stop.{Stop}

-- the stop of a step that is not the last
abbrev pub goes_on : ℕ
goes_on = 1

-- the bytes of the record at the front that are not fed yet
abbrev pub part_of : State → List ℕ → List ℕ
part_of s b = drop s.fed (payload_of b)

-- the listing's loop over them
abbrev pub record_run : ℕ → ℕ → State → List ℕ → ℕ → Run Reader
record_run limit direction s b room = list_of limit (prefix_of direction) (reader_of direction s) (part_of s b) room

-- the record is finished, and its bytes are used; or it is not
abbrev pub record_in : Run Reader → ℕ → ℕ → ℕ → State → Run State
record_in run direction count place s =
    cond (eqb run.stop 0)
    (record {
      state = with_reader direction run.state place 0 s;
      used = count;
      text = run.text;
      stop = goes_on;
    })
    (record {
      state = with_reader direction run.state s.place (s.fed + run.used) s;
      used = 0;
      text = run.text;
      stop = run.stop;
    })

-- the head is taken
abbrev pub head_in : ℕ → ℕ → State → Run State
head_in count place s =
    record {
      state = record { place = place; fed = s.fed; reader0 = s.reader0; reader1 = s.reader1 };
      used = count;
      text = [];
      stop = goes_on;
    }

-- one step, by what is at the front
abbrev pub step_in : ℕ → Outcome ℕ → State → List ℕ → ℕ → Run State
step_in limit next s b room =
    cond (eqb next.row.number 0)
    (cond (eqb (get_or next.row.values 0 0) 0) (stopped s 0)
    (head_in (get_or next.row.values 0 0) next.state s))
    (cond (eqb next.row.number 1)
    (record_in (record_run limit (get_or next.row.values 1 0) s b room) (get_or next.row.values 1 0)
    (get_or next.row.values 0 0) next.state s)
    (stopped s next.row.number))

-- one step
abbrev pub step_of : ℕ → State → List ℕ → ℕ → Run State
step_of limit s b room = step_in limit (next_of s.place b) s b room

-- at most n steps, each of what is left, with so much room left
unfoldable pub play_in : ℕ → ℕ → State → List ℕ → ℕ → Run State
play_in limit zero s b room = stopped s 0
play_in limit (suc n) s b room =
    cond (eqb (step_of limit s b room).stop goes_on)
    (onward (step_of limit s b room).used (step_of limit s b room).text
    (play_in limit n (step_of limit s b room).state (drop (step_of limit s b room).used b)
    (room - length (step_of limit s b room).text)))
    (step_of limit s b room)

-- one step more than there are bytes is enough: each uses one at least, or is the last
abbrev pub loop_of : ℕ → State → List ℕ → ℕ → Run State
loop_of limit s b room = play_in limit (suc (length b)) s b room

-- a call of `play`: STATE comes first
abbrev pub play_of : ℕ → State → List ℕ → ℕ → Run State
play_of limit s b room = cond (in_range_of limit s) (loop_of limit s b room) (stopped s 17)

-- what the listing's loop returns over bytes of a direction, its reader, and the buffer after it
abbrev pub part_left : ℕ → Listed → State → List ℕ → Left Reader
part_left direction l s after =
    record {
      state = reader_of direction s;
      used = l.used;
      written = l.written;
      stop = list_stop_of l.stop;
      out = after;
    }

-- the stop of the code's step
abbrev pub step_stop : Option Stop → ℕ
step_stop None = goes_on
step_stop (Some why) = stop_of why

-- what the code's step returns, the replay that it leaves, and the buffer after it
abbrev pub step_left : Step × Replay → List ℕ → Left State
step_left l after =
    record {
      state = state_of l.1;
      used = l.0.used;
      written = l.0.written;
      stop = step_stop l.0.stop;
      out = after;
    }

-- the same of the code's play
abbrev pub left_of : Played × Replay → List ℕ → Left State
left_of l after =
    record {
      state = state_of l.1;
      used = l.0.used;
      written = l.0.written;
      stop = stop_of l.0.stop;
      out = after;
    }
