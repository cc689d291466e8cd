-- Statement: what an example asks of the definitions of the three layers, and what they answer. PROTOCOL 11.
-- Each definition is one that the contract of a public call states, at the limit of 1,024 (`read_of` is the row of
-- one).
-- They are of the models, held by stream_correct, writer_exact, reads_exactly and send_exactly.
use Rattle.std.specs.Prelude.{ℕ, Bool, cond, ◌||◌, List, eqb}
use Rattle.frame.specs.Wire.{frame_limit, command_of, number_of, flags_of, payload_of}
use Rattle.frame.specs.Frames.{front_body}
use Rattle.base.specs.Rows.{Row}
use Rattle.frame.specs.State.{State}
use Rattle.frame.specs.Calls.{fresh_of, feed_of, write_of}
use Rattle.base.specs.Outcomes.{Outcome, Output}
use Rattle.message.specs.Reading.{read_of}
use Rattle.message.specs.Writing.{send_of}
use Rattle.message.specs.declared.values.Message.{Message}
use Rattle.link.specs.Clock.{elapsed_of, is_due}

-- what an example asks
pub data Question : Type 0 where
  -- frame: bytes fed to a fresh reader; where the answer counts them all, it is the reader's last one
  bytes_fed : (bytes : List ℕ) → Question
  -- frame: a frame written into a buffer
  frame_written : (command number flags : ℕ) (payload out : List ℕ) → Question
  -- message: a message written into a buffer
  message_written : (m : Message) (number flags : ℕ) (opaque out : List ℕ) → Question
  -- message: a command and its payload, read
  message_read : (command : ℕ) (payload : List ℕ) → Question
  -- link: the time elapsed at a reading of the clock, since an earlier one
  time_elapsed : (clock since : ℕ) → Question
  -- link: whether a tick is due, after a sending
  tick_due : (clock sent : ℕ) → Question

-- what an example states, and a definition answers
pub data Answer : Type 0 where
  -- a number and values
  answered : (r : Row) → Answer
  -- the same of FRAME and SUM, with the body held (PROTOCOL 4.13) and its fields
  held : (r : Row) (body : List ℕ) (command number flags : ℕ) (payload : List ℕ) → Answer
  -- a writer's number and values, and the buffer afterwards
  output : (r : Row) (out : List ℕ) → Answer
  -- a time
  milliseconds : (time : ℕ) → Answer
  -- due or not
  due : (yes : Bool) → Answer

-- the reader's answer; FRAME is 1 and SUM 15
abbrev pub reader_answer : Outcome State → Answer
reader_answer a =
    cond (eqb a.row.number 1 || eqb a.row.number 15)
    (held a.row (front_body a.state.body) (command_of a.state.body) (number_of a.state.body)
    (flags_of a.state.body) (payload_of a.state.body))
    (answered a.row)

-- a writer's answer
abbrev pub writer_answer : Output → Answer
writer_answer w = output w.row w.out

-- the answer to each question
abbrev pub answer_to : Question → Answer
answer_to (bytes_fed bytes) = reader_answer (feed_of frame_limit (fresh_of frame_limit) bytes)
answer_to (frame_written command number flags payload out) =
    writer_answer (write_of frame_limit command number flags payload out)
answer_to (message_written m number flags opaque out) = writer_answer (send_of frame_limit m number flags opaque out)
answer_to (message_read command payload) = answered (read_of command payload)
answer_to (time_elapsed clock since) = milliseconds (elapsed_of clock since)
answer_to (tick_due clock sent) = due (is_due clock sent)
