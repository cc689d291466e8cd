-- Model: the reply of the box and the caller's buffer after it (PROTOCOL 8.1 to 8.13), held to the replies owed by
-- replies_exact, silent_else, faults_rejected and replies_are_read.
use Rattle.std.specs.Prelude.{ℕ, cond, List, [], ◌∷◌, eqb}
use Rattle.base.specs.Rows.{Row, row}
use Rattle.base.specs.Outcomes.{Output, output, rowed}
use Rattle.frame.specs.Wire.{command_of, number_of, payload_of}
use Rattle.frame.specs.Calls.{write_of}
use Rattle.message.specs.Layouts.{code_number}
use Rattle.message.specs.Table.{cause_number}
use Rattle.message.specs.Owed.{owed_after, code_for}
use Rattle.message.specs.Reading.{read_of}
use Rattle.message.specs.declared.kind.Cause.{Cause}
use Rattle.message.specs.declared.kind.Cause.TheVariants as cause
use Rattle.message.specs.declared.kind.Owed.{Owed}
use Rattle.message.specs.declared.kind.Owed.TheVariants.{Nothing, AskInformation, AskStatus, Acknowledge, Reject}
use Rattle.message.specs.declared.kind.Owed.TheVariants.{AskBegin, AskStore, AskStop}

-- ---- what is owed

-- to a command and a payload
abbrev pub owed_to : ℕ → List ℕ → Owed
owed_to command p = owed_after command (read_of command p)

-- ---- a rejection

-- the row of a rejection that was written has its command, its code and its cause too
abbrev pub with_cause : Cause → Output → Output
with_cause cause w = rowed (λ count. row 0 (count ∷ 0x12 ∷ code_number (code_for cause) ∷ cause_number cause ∷ [])) w

-- 12 with a code, under the received sequence number
abbrev pub reject_of : ℕ → Cause → ℕ → List ℕ → Output
reject_of limit cause number out =
    with_cause cause (write_of limit 0x12 number 0 (code_number (code_for cause) ∷ []) out)

-- ---- the reply

-- what is owed, done
abbrev pub replied_of : ℕ → Owed → ℕ → List ℕ → Output
replied_of limit Nothing number out = output (row 0 []) out
replied_of limit AskInformation number out = output (row 0 (0 ∷ 0x02 ∷ number ∷ [])) out
replied_of limit AskStatus number out = output (row 0 (0 ∷ 0x04 ∷ number ∷ [])) out
replied_of limit AskBegin number out = output (row 0 (0 ∷ 0x1A ∷ number ∷ [])) out
replied_of limit AskStore number out = output (row 0 (0 ∷ 0x1E ∷ number ∷ [])) out
replied_of limit AskStop number out = output (row 0 (0 ∷ 0x20 ∷ number ∷ [])) out
replied_of limit (Acknowledge command) number out = write_of limit command number 0 [] out
replied_of limit (Reject cause) number out = reject_of limit cause number out

-- to a frame whose payload was read
abbrev pub reply_read_of : ℕ → ℕ → ℕ → Row → List ℕ → Output
reply_read_of limit command number reading out = replied_of limit (owed_after command reading) number out

-- to a received frame
abbrev pub reply_frame_of : ℕ → ℕ → ℕ → List ℕ → List ℕ → Output
reply_frame_of limit command number p out = reply_read_of limit command number (read_of command p) out

-- to an answer of the reader, with the body that it holds: FRAME 1, SUM 15, and nothing to any other
abbrev pub reply_of : ℕ → Row → List ℕ → List ℕ → Output
reply_of limit answer body out =
    cond (eqb answer.number 1) (reply_frame_of limit (command_of body) (number_of body) (payload_of body) out)
    (cond (eqb answer.number 15) (reject_of limit cause.Sum (number_of body) out) (output (row 0 []) out))
