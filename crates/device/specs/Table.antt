-- Statement: the number and the values of each answer, and of the wait that the frame ended. PROTOCOL 16.6.
use Rattle.std.specs.Prelude.{[], ◌∷◌, Option, None, Some, Result, Ok, Err}
use Rattle.base.specs.Rows.{Row, row}
use Rattle.base.specs.Writes.{unwritten_row_of}
use Rattle.message.specs.Layouts.{code_number}
use Rattle.message.specs.Table.{cause_number}
use Rattle.transfer.specs.Table.{refusal_number}
use Rattle.link.specs.declared.receives.Replied.{Replied}
use Rattle.device.specs.declared.answers.Handled.{Handled}
use Rattle.device.specs.declared.answers.Handled.TheVariants as done
use Rattle.device.specs.declared.answers.HandleError.{HandleError}
use Rattle.device.specs.declared.answers.HandleError.TheVariants as error

-- what is not a refusal stands under 0, which here is not MORE: nothing; 0 bytes, the command that the caller is asked
-- to send, and the received sequence number; the count of what was written, then more of it. A refusal of a 19, 1D or
-- 1F stands under its own number, with the size of the 12
abbrev pub done_row_of : Handled → Row
done_row_of done.Nothing = row 0 []
done_row_of (done.InformationWanted number) = row 0 (0 ∷ 0x02 ∷ number ∷ [])
done_row_of (done.StatusWanted number) = row 0 (0 ∷ 0x04 ∷ number ∷ [])
done_row_of (done.Acknowledged count) = row 0 (count ∷ [])
done_row_of (done.Rejected count code cause) = row 0 (count ∷ 0x12 ∷ code_number code ∷ cause_number cause ∷ [])
done_row_of (done.Began count ready) = row 0 (count ∷ 0x1A ∷ ready ∷ [])
done_row_of (done.Stored count) = row 0 (count ∷ 0x1E ∷ [])
done_row_of (done.Stopped count) = row 0 (count ∷ 0x20 ∷ [])
done_row_of (done.Refused count why) = row (refusal_number why) (count ∷ [])

-- where nothing was written
abbrev pub error_row_of : HandleError → Row
error_row_of error.State = row 17 (0 ∷ [])
error_row_of error.Busy = row 41 []
error_row_of (error.Unwritten why) = unwritten_row_of why

-- either
abbrev pub handle_row_of : Result Handled HandleError → Row
handle_row_of (Ok handled) = done_row_of handled
handle_row_of (Err why) = error_row_of why

-- the command that waited, and its number
abbrev pub ended_row_of : Option Replied → Row
ended_row_of None = row 0 []
ended_row_of (Some wait) = row 0 (wait.command ∷ wait.number ∷ [])
