-- Worked runs of a link, by computation. Assumes nothing.
use Rattle.std.proofs.Common.{refl}
use Rattle.base.specs.Keys.{among}
use Rattle.link.specs.Logs.{rows_in, numbers_used, waits_after, none_ends, repeats_in, last_sent, due_ticks}
use Rattle.link.specs.LogsComputed.{log_of}
use Rattle.link.specs.WorkedRuns.{WorkedRun, WorkedWait, Example11}

pub worked_run : WorkedRun
unfolding among log_of rows_in numbers_used
worked_run = record { rows = refl; used = refl; first = refl; last = refl; round = refl }

pub worked_wait : WorkedWait
unfolding among log_of waits_after none_ends repeats_in last_sent due_ticks
worked_wait =
    record { lasts = refl; waits = refl; due = refl; repeats = refl; last = refl; ends = refl; freed = refl }

pub example_11 : Example11
unfolding among
example_11 = record { elapsed = refl; due = refl; not_due = refl; again = refl; nothing = refl }
