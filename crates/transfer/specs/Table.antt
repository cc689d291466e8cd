-- Statement: the number and the values of each answer. PROTOCOL 15.6 to 15.12.
use Rattle.std.specs.Prelude.{ℕ, [], ◌∷◌, Option, Some, None, Result, Ok, Err}
use Rattle.base.specs.Rows.{Row, row}
use Rattle.base.specs.Writes.{unwritten_row_of}
use Rattle.base.specs.declared.writes.WriteError.{WriteError}
use Rattle.transfer.specs.declared.answers.Refusal.{Refusal}
use Rattle.transfer.specs.declared.answers.Refusal.TheVariants as refusal
use Rattle.transfer.specs.declared.answers.Arrival.{Arrival}
use Rattle.transfer.specs.declared.answers.Arrival.TheVariants as arrived
use Rattle.transfer.specs.declared.answers.ArriveError.{ArriveError}
use Rattle.transfer.specs.declared.answers.ArriveError.TheVariants as refused
use Rattle.transfer.specs.declared.answers.Denial.{Denial}
use Rattle.transfer.specs.declared.answers.Denial.TheVariants as denied
use Rattle.base.specs.declared.writes.StateError.{StateError}
use Rattle.transfer.specs.declared.state.Progress.{Progress}
use Rattle.transfer.specs.declared.writes.Pair.{Pair}

-- ---- the rows: what is not a refusal stands under 0, which here is not MORE

-- STATE: PROTOCOL 4.10
abbrev pub state_row : Row
state_row = row 17 (0 ∷ [])

-- BUSY: PROTOCOL 9.10
abbrev pub busy_row : Row
busy_row = row 41 []

-- PAYLOAD: PROTOCOL 6.3
abbrev pub payload_row : Row
payload_row = row 21 (0 ∷ [])

-- a command was written: how many bytes, and which command
abbrev pub wrote_row : ℕ → ℕ → Row
wrote_row command count = row 0 (count ∷ command ∷ [])

-- a 1A and a 1B were written: how many bytes, 1A, and where the 1B begins
abbrev pub began_row : ℕ → ℕ → Row
began_row count ready = row 0 (count ∷ 0x1A ∷ ready ∷ [])

-- ---- the refusals

-- SIZE 32, EMPTY 61, TOOBIG 62, HEXLINES 64, PIECES 63, TURN 65, PIECE 66
abbrev pub refusal_number : Refusal → ℕ
refusal_number refusal.Size = 32
refusal_number refusal.Empty = 61
refusal_number refusal.TooBig = 62
refusal_number refusal.HexLines = 64
refusal_number refusal.Pieces = 63
refusal_number refusal.Turn = 65
refusal_number refusal.Piece = 66

-- the number of what the tests of a call refuse
abbrev pub denial_number : Denial → ℕ
denial_number (denied.Refused why) = refusal_number why
denial_number denied.State = 17
denial_number denied.Busy = 41

-- the number of what the tests of a call decide; 0 where they refuse nothing
abbrev pub check_number : {A : Type 0} → Result A Denial → ℕ
check_number (Ok found) = 0
check_number (Err why) = denial_number why

-- ---- the code's answers

-- where neither the call's answer nor a 12 was written
abbrev pub error_row_of : ArriveError → Row
error_row_of refused.State = state_row
error_row_of refused.Busy = busy_row
error_row_of (refused.Unwritten why) = unwritten_row_of why

-- to a received 19, 1D or 1F; a refusal has the size of the 12 beside its number
abbrev pub arrive_row_of : Result Arrival ArriveError → Row
arrive_row_of (Ok (arrived.Began count ready)) = began_row count ready
arrive_row_of (Ok (arrived.Stored count)) = wrote_row 0x1E count
arrive_row_of (Ok (arrived.Stopped count)) = wrote_row 0x20 count
arrive_row_of (Ok (arrived.Refused count why)) = row (refusal_number why) (count ∷ [])
arrive_row_of (Err why) = error_row_of why

-- to a cancel
abbrev pub cancel_row_of : Result ℕ ArriveError → Row
cancel_row_of (Ok count) = wrote_row 0x27 count
cancel_row_of (Err why) = error_row_of why

-- to a question for the progress: the bytes stored, and the bytes announced
abbrev pub progress_row_of : Result (Option Progress) StateError → Row
progress_row_of (Ok None) = row 0 []
progress_row_of (Ok (Some p)) = row 0 (p.stored ∷ p.size ∷ [])
progress_row_of (Err e) = state_row

-- of the inner call that writes a pair
abbrev pub pair_row_of : Result Pair WriteError → Row
pair_row_of (Ok p) = began_row p.count p.ready
pair_row_of (Err why) = unwritten_row_of why
