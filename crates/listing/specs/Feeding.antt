-- Model: the loop that feeds bytes and makes lines, held to what lists of calls gave by loop_lists and left_whole.
-- What a feed leaves is fed again, and the line of each answer follows the previous ones. PROTOCOL 10.9, 10.10.
use Rattle.std.specs.Prelude.{ℕ, zero, suc, ◌+◌, ◌-◌, Bool, cond, ◌||◌, List, [], length, drop, eqb, ltb}
use Rattle.base.specs.Outcomes.{Outcome}
use Rattle.base.specs.Runs.{Run, stopped, onward, Left}
use Rattle.frame.specs.Table.{count_of}
use Rattle.frame.specs.State.{State, state_of}
use Rattle.frame.specs.Calls.{feed_of}
use Rattle.listing.specs.Lines.{answer_text, line_room}
use Rattle.listing.specs.Table.{stop_of}
use Rattle.frame.specs.declared.reader.Reader.{Reader}
use Rattle.listing.specs.declared.feeding.Listed.{Listed}

-- the buffer might lack room for the next line
abbrev pub full : State → Run State
full r = stopped r 22

-- STATE and USED consume nothing, and would be given again for ever
abbrev pub refuses : ℕ → Bool
refuses number = eqb number 17 || eqb number 18

-- the line of a feed: of its answer, and of the body that the reader then holds
abbrev pub line_after : List ℕ → Outcome State → List ℕ
line_after prefix y = answer_text prefix y.row y.state.body

-- at most n feeds, each of what is left, with so much room left
unfoldable pub list_in : ℕ → List ℕ → ℕ → State → List ℕ → ℕ → Run State
list_in limit prefix zero r bytes room = stopped r 0
list_in limit prefix (suc n) r bytes room =
    cond (eqb (length bytes) 0) (stopped r 0)
    (cond (ltb room (length prefix + line_room)) (full r)
    (cond (refuses (feed_of limit r bytes).row.number)
    (stopped (feed_of limit r bytes).state (feed_of limit r bytes).row.number)
    (onward (count_of (feed_of limit r bytes).row) (line_after prefix (feed_of limit r bytes))
    (list_in limit prefix n (feed_of limit r bytes).state (drop (count_of (feed_of limit r bytes).row) bytes)
    (room - length (line_after prefix (feed_of limit r bytes)))))))

-- as many feeds as there are bytes are enough: each consumes one at least
abbrev pub loop_of : ℕ → List ℕ → State → List ℕ → ℕ → Run State
loop_of limit prefix r bytes room = list_in limit prefix (length bytes) r bytes room

-- a feed with no data comes first, so that a reader out of range stops it even with no room and no bytes
abbrev pub list_of : ℕ → List ℕ → State → List ℕ → ℕ → Run State
list_of limit prefix r bytes room =
    cond (refuses (feed_of limit r []).row.number) (stopped r (feed_of limit r []).row.number)
    (loop_of limit prefix r bytes room)

-- what the code's loop returns, the reader that it leaves, and the buffer after it
abbrev pub left_of : Listed × Reader → List ℕ → Left State
left_of l after =
    record {
      state = state_of l.1;
      used = l.0.used;
      written = l.0.written;
      stop = stop_of l.0.stop;
      out = after;
    }
