-- Claims: the history of every list of calls, and that its two cases, idle and waiting, leave out no entry.
-- PROTOCOL 9.1 to 9.13, 9.15.
use Rattle.std.specs.Prelude.{◌≡◌, ℕ, ◌≤◌, true, false, List}
use Rattle.link.specs.Calls.{fresh_of}
use Rattle.link.specs.Logs.{Call, Entry, waits_after}
use Rattle.link.specs.LogsComputed.{log_of}
use Rattle.link.specs.History.{OpenWait, History}

-- ---- link_history: every list of calls of a link that began fresh, for every first number up to 255 and any bound
-- of the repeats; the code's are `first_number` and `max_repeats`
abbrev pub LinkHistory : Type 0
LinkHistory =
    (first max : ℕ) → first ≤ 255 → (calls : List Call) → History first max (log_of first max (fresh_of first) calls)

-- ---- wait_found: where a command waits after a log, the log has the offer that was accepted;
-- so `idle` and `waiting` of a history speak of every entry
abbrev pub WaitFound : Type 0
WaitFound = (log : List Entry) → waits_after false log ≡ true → OpenWait log
