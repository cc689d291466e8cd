-- Statement: the reply that the box owes to each frame, and the code of a rejection. PROTOCOL 8.2 to 8.10.
use Rattle.std.specs.Prelude.{ℕ, Bool, true, false, cond, ◌&&◌, List, get_or, eqb}
use Rattle.base.specs.Rows.{Row}
use Rattle.message.specs.Commands.{from_box, owed_of}
use Rattle.message.specs.declared.kind.Cause.{Cause}
use Rattle.message.specs.declared.kind.Cause.TheVariants as cause
use Rattle.message.specs.declared.kind.Owed.{Owed}
use Rattle.message.specs.declared.kind.Owed.TheVariants.{Nothing, AskInformation, AskStatus, Acknowledge, Reject}
use Rattle.message.specs.declared.kind.Owed.TheVariants.{AskBegin, AskStore, AskStop}
use Rattle.message.specs.declared.values.Code.{Code}
use Rattle.message.specs.declared.values.Code.TheVariants as code

-- an owed reply is a term of ours. To a message without fault, by its values, the command first: the reply in the
-- table, and for a query the status
abbrev pub owed_for : List ℕ → Owed
owed_for values =
    cond (eqb (get_or values 0 0) 0x03 && eqb (get_or values 1 0) 2) AskStatus (owed_of (get_or values 0 0))

-- whether a command that is owed this is handed to the caller whatever its payload is: 19, 1D and 1F, PROTOCOL 8.9
abbrev pub handed : Owed → Bool
handed Nothing = false
handed AskInformation = false
handed AskStatus = false
handed AskBegin = true
handed AskStore = true
handed AskStop = true
handed (Acknowledge command) = false
handed (Reject cause) = false

-- to a frame, by the row of its reading: PROTOCOL 8.7, then 8.9, before 8.6 and 8.8
abbrev pub owed_after : ℕ → Row → Owed
owed_after command reading =
    cond (from_box command) (Reject cause.BoxCommand)
    (cond (handed (owed_of command)) (owed_of command)
    (cond (eqb reading.number 31) (Reject cause.Command)
    (cond (eqb reading.number 32) (Reject cause.Size)
    (cond (eqb reading.number 33) (Reject cause.Field) (owed_for reading.values)))))

-- the code of a rejection: PROTOCOL 8.5 to 8.8
abbrev pub code_for : Cause → Code
code_for cause.Sum = code.Sum
code_for cause.Command = code.Command
code_for cause.Size = code.Other
code_for cause.Field = code.Other
code_for cause.BoxCommand = code.Command
