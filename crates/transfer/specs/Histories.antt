-- Claims: the history of every list of calls. PROTOCOL 15.1 to 15.14.
use Rattle.std.specs.Prelude.{ℕ, List}
use Rattle.transfer.specs.Logs.{Call}
use Rattle.transfer.specs.LogsComputed.{log_of}
use Rattle.transfer.specs.History.{History}
use Rattle.transfer.specs.Transfers.{absent}

-- ---- transfer_history: every list of calls of a fresh transfer, refused ones included, each with the transfer last
-- returned and the same buffer; under any limit, first number and bound of repeats
abbrev pub TransferHistory : Type 0
TransferHistory =
    (limit first max : ℕ) (buffer : List ℕ) (calls : List Call)
    → History first max buffer (log_of limit first max absent buffer calls)
