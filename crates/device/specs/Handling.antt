-- Model: what the box does with an answer of the reader, composed from the models of `message`, `link` and `transfer`,
-- and held to the rules by handle_exact, ended_exact, state_first, refused-kept and worked_frames. `limit` bounds the
-- length of a frame; `first` and `max` are the link's. PROTOCOL 16.
use Rattle.std.specs.Prelude.{ℕ, Bool, cond, ◌&&◌, List, [], ◌∷◌, eqb, length, get_or, Option, Result}
use Rattle.base.specs.Rows.{Row, row}
use Rattle.base.specs.Outcomes.{Outcome, outcome, Output, output}
use Rattle.frame.specs.Wire.{command_of, number_of, flags_of, payload_of}
use Rattle.message.specs.Replies.{reply_of}
use Rattle.link.specs.Calls.{in_range, receive_of}
use Rattle.link.specs.declared.state.Link.{Link}
use Rattle.transfer.specs.Checks.{in_range_of}
use Rattle.transfer.specs.Calls.{Left, Both, Held, begin_of, store_of, stop_of}
use Rattle.transfer.specs.declared.state.Transfer.{Transfer}
use Rattle.device.specs.Table.{handle_row_of, ended_row_of}
use Rattle.device.specs.declared.answers.Handled.{Handled}
use Rattle.device.specs.declared.answers.HandleError.{HandleError}
use Rattle.device.specs.declared.state.Device.{Device}
use Rattle.link.specs.declared.receives.Replied.{Replied}

-- ---- what a call leaves

-- the rows of the answer and of the wait that ended, what the caller holds, and the caller's buffer and output
pub record After : Type 0 where
  pub row : Row
  pub ended : Row
  pub transfer : Transfer
  pub link : Link
  pub buffer : List ℕ
  pub out : List ℕ

-- shorthand for it: what was written; what the link says, its row that of the wait that ended; transfer and buffer
abbrev pub after : Output → Outcome Link → Transfer → List ℕ → After
after w heard t buffer =
    record { row = w.row; ended = heard.row; transfer = t; link = heard.state; buffer = buffer; out = w.out }

-- ---- what the code returns, the wait that ended, and what the caller holds and lends afterwards
abbrev pub handled_of : Result Handled HandleError → Option Replied → Device → List ℕ → List ℕ → After
handled_of answer ended d buffer out =
    after (output (handle_row_of answer) out) (outcome (ended_row_of ended) d.link) d.transfer buffer

-- ---- the link: PROTOCOL 16.2

-- the wait that ended, by the link's row of the received frame; STRAY ends nothing, and is not an answer here
abbrev pub ended_in : Row → Row
ended_in r = cond (eqb r.number 0) r (row 0 [])

-- whether an answer of the reader is given to the link: FRAME 1, and no other
abbrev pub is_frame : Row → Bool
is_frame answer = eqb answer.number 1

-- what the link says of an answer of the reader
abbrev pub heard_of : ℕ → ℕ → Row → List ℕ → Link → Outcome Link
heard_of first max answer body l =
    cond (is_frame answer)
    (outcome (ended_in (receive_of first max l (command_of body) (number_of body)).row)
    (receive_of first max l (command_of body) (number_of body)).state)
    (outcome (row 0 []) l)

-- ---- the reply: PROTOCOL 16.3, 16.4

-- what the transfer leaves of a 19
abbrev pub begun_after : Outcome Link → List ℕ → Left Both → After
begun_after heard buffer y =
    after (output y.row y.out) (outcome heard.row y.state.link) y.state.transfer buffer

-- of a 1D
abbrev pub stored_after : Outcome Link → Left Held → After
stored_after heard y = after (output y.row y.out) heard y.state.transfer y.state.buffer

-- of a 1F
abbrev pub stopped_after : Outcome Link → List ℕ → Left Transfer → After
stopped_after heard buffer y = after (output y.row y.out) heard y.state buffer

-- the command that the caller of `message` is asked to send, by the row of the reply: 1A, 1E and 20 hand a 19, 1D or 1F
-- to the transfer
abbrev pub wanted_in : Row → ℕ
wanted_in r = get_or r.values 1 0

-- and the sequence number
abbrev pub under_in : Row → ℕ
under_in r = get_or r.values 2 0

-- by the reply of `message` and what the link says
unfoldable pub answer_of : ℕ → ℕ → ℕ → Output → Outcome Link → List ℕ → Transfer → ℕ → ℕ → List ℕ → After
answer_of limit first max reply heard body t clock piece buffer =
    cond (eqb (wanted_in reply.row) 0x1A)
    (begun_after heard buffer
    (begin_of limit first max t heard.state clock (under_in reply.row) (payload_of body) piece (length buffer)
    reply.out))
    (cond (eqb (wanted_in reply.row) 0x1E)
    (stored_after heard (store_of limit t (under_in reply.row) (flags_of body) (payload_of body) buffer reply.out))
    (cond (eqb (wanted_in reply.row) 0x20)
    (stopped_after heard buffer (stop_of limit t (under_in reply.row) (payload_of body) reply.out))
    (after reply heard t buffer)))

-- ---- the call

-- STATE of link or transfer before everything: PROTOCOL 16.1. What was written decides nothing for the link: 16.5
unfoldable pub handle_of : ℕ → ℕ → ℕ → Row → List ℕ → Transfer → Link → ℕ → ℕ → List ℕ → List ℕ → After
handle_of limit first max answer body t l clock piece buffer out =
    cond (in_range first max l && in_range_of t)
    (answer_of limit first max (reply_of limit answer body out) (heard_of first max answer body l) body t clock piece
    buffer)
    (after (output (row 17 (0 ∷ [])) out) (outcome (row 0 []) l) t buffer)
