-- Statement: the number and the values of each answer, as a row. PROTOCOL 6.7, 7.4 to 7.6, 7.21, 7.23, 8.13.
use Rattle.std.specs.Prelude.{ℕ, List, [], ◌∷◌, Result, Ok, Err}
use Rattle.base.specs.Rows.{Row, row}
use Rattle.base.specs.Writes.{unwritten_row_of}
use Rattle.base.specs.declared.writes.WriteError.{WriteError}
use Rattle.message.specs.Parts.{no_parts}
use Rattle.message.specs.Layouts.{code_number}
use Rattle.message.specs.Messages.{message_in}
use Rattle.message.specs.declared.kind.Cause.{Cause}
use Rattle.message.specs.declared.kind.Cause.TheVariants as cause
use Rattle.message.specs.declared.parts.Parts.{Parts}
use Rattle.message.specs.declared.reader.Reading.{Reading}
use Rattle.message.specs.declared.reader.ReadError.{ReadError}
use Rattle.message.specs.declared.reader.ReadError.TheVariants as refused
use Rattle.message.specs.declared.answers.Reply.{Reply}
use Rattle.message.specs.declared.answers.Reply.TheVariants as reply
use Rattle.message.specs.declared.writer.SendError.{SendError}
use Rattle.message.specs.declared.writer.SendError.TheVariants as unsent

-- ---- a payload that is read

-- a row, and the places of the parts
pub record Read : Type 0 where
  pub row : Row
  pub parts : Parts

-- a message stands under 0, with its parts
abbrev pub got : List ℕ → Parts → Read
got values parts = record { row = row 0 values; parts = parts }

-- a refused payload has no values and no parts
abbrev pub refusal : ℕ → Read
refusal n = record { row = row n []; parts = no_parts }

-- the message, or COMMAND 31, SIZE 32, FIELD 33
abbrev pub reading_of : Result Reading ReadError → Read
reading_of (Ok r) = got (message_in r.message) r.parts
reading_of (Err refused.Command) = refusal 31
reading_of (Err refused.Size) = refusal 32
reading_of (Err refused.Field) = refusal 33

-- ---- a message that is written

-- the count of the frame; COMMAND 31, SIZE 32, FIELD 33, or why the frame writer wrote nothing
abbrev pub send_row_of : Result ℕ SendError → Row
send_row_of (Ok count) = row 0 (count ∷ [])
send_row_of (Err unsent.Command) = row 31 []
send_row_of (Err unsent.Size) = row 32 []
send_row_of (Err unsent.Field) = row 33 []
send_row_of (Err (unsent.Unwritten why)) = unwritten_row_of why

-- ---- a reply of the box

-- the cause of a rejection: the number of the answer. A command of the box is rejected whatever its reading answers, so
-- its number is 0: PROTOCOL 8.7, 8.13
abbrev pub cause_number : Cause → ℕ
cause_number cause.Sum = 15
cause_number cause.Command = 31
cause_number cause.Size = 32
cause_number cause.Field = 33
cause_number cause.BoxCommand = 0

-- nothing; 0 bytes, the command that the caller is asked to send, and the received sequence number; the count of an
-- acknowledgement; the count of a rejection, its command 12, the code and the cause; why nothing was written. Where 19,
-- 1D or 1F is handed over, the command is that of its reply without a fault
abbrev pub reply_row_of : Result Reply WriteError → Row
reply_row_of (Ok reply.Nothing) = row 0 []
reply_row_of (Ok (reply.InformationWanted number)) = row 0 (0 ∷ 0x02 ∷ number ∷ [])
reply_row_of (Ok (reply.StatusWanted number)) = row 0 (0 ∷ 0x04 ∷ number ∷ [])
reply_row_of (Ok (reply.BeginWanted number)) = row 0 (0 ∷ 0x1A ∷ number ∷ [])
reply_row_of (Ok (reply.StoreWanted number)) = row 0 (0 ∷ 0x1E ∷ number ∷ [])
reply_row_of (Ok (reply.StopWanted number)) = row 0 (0 ∷ 0x20 ∷ number ∷ [])
reply_row_of (Ok (reply.Acknowledged count)) = row 0 (count ∷ [])
reply_row_of (Ok (reply.Rejected count code cause)) =
    row 0 (count ∷ 0x12 ∷ code_number code ∷ cause_number cause ∷ [])
reply_row_of (Err why) = unwritten_row_of why
