-- Statement: the number and the values of each answer. PROTOCOL 14.4, 14.5.
use Rattle.std.specs.Prelude.{ℕ, [], ◌∷◌, Result, Ok, Err}
use Rattle.base.specs.Rows.{Row, row}
use Rattle.base.specs.Writes.{unwritten_row_of}
use Rattle.capture.specs.Table.{refusal_number}
use Rattle.replay.specs.declared.closing.CloseError.{CloseError}
use Rattle.replay.specs.declared.closing.CloseError.TheVariants as error
use Rattle.replay.specs.declared.closing.Closing.{Closing}
use Rattle.replay.specs.declared.closing.Closing.TheVariants as closing
use Rattle.replay.specs.declared.steps.Stop.{Stop}
use Rattle.replay.specs.declared.steps.Stop.TheVariants as stop

-- why a play stops: PROTOCOL 14.4
abbrev pub stop_of : Stop → ℕ
stop_of stop.Done = 0
stop_of stop.Room = 22
stop_of (stop.Refused r) = refusal_number r
stop_of stop.State = 17
stop_of stop.Used = 18

-- why a replay is not ended
abbrev pub close_error_row_of : CloseError → Row
close_error_row_of error.State = row 17 (0 ∷ [])
close_error_row_of error.Used = row 18 (0 ∷ [])
close_error_row_of (error.Unwritten why) = unwritten_row_of why

-- the answers to `finish`: the count of text under 2, or under the refusal's number with its place: PROTOCOL 14.5
abbrev pub closing_row_of : Result Closing CloseError → Row
closing_row_of (Ok closing.More) = row 0 (0 ∷ [])
closing_row_of (Ok (closing.Whole count)) = row 2 (count ∷ [])
closing_row_of (Ok (closing.Refused count r place)) = row (refusal_number r) (count ∷ place ∷ [])
closing_row_of (Err e) = close_error_row_of e
