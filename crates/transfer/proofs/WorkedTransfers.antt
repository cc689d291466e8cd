-- Worked transfers, by computation. Assumes nothing.
use mathlib.Core.Path.{refl}
use Rattle.base.specs.Keys.{among}
use Rattle.base.specs.Same.{same_bytes}
use Rattle.base.specs.Sums.{total}
use Rattle.frame.specs.Wire.{stuff, body_of}
use Rattle.message.specs.Commands.{table, profile_in}
use Rattle.message.specs.Layouts.{fits, size_fits}
use Rattle.transfer.specs.Logs.{transfer_after, buffer_after, account_after, summed, joined, count_from}
use Rattle.transfer.specs.LogsComputed.{log_of}
use Rattle.transfer.specs.WorkedTransfers.{WorkedTransfers}

pub worked_transfers : WorkedTransfers
unfolding among same_bytes total stuff body_of table profile_in fits size_fits transfer_after buffer_after log_of
    account_after
    summed joined count_from
worked_transfers =
    record {
      whole_told = refl;
      again_told = refl;
      none_told = refl;
      begun_told = refl;
      sums = refl;
      joins = refl;
      counts = refl;
      whole = record { rows_are = refl; progress_is = refl; transfer_is = refl; buffer_is = refl };
      faulty = record { rows_are = refl; progress_is = refl; transfer_is = refl; buffer_is = refl };
      again = record { rows_are = refl; progress_is = refl; transfer_is = refl; buffer_is = refl };
      cancelled = record { rows_are = refl; progress_is = refl; transfer_is = refl; buffer_is = refl };
      pair = refl;
      pair_short = refl;
      rejection_short = refl;
      pair_asked = refl;
      one_piece = refl;
      a_rejection = refl;
      a_stop = refl;
      a_cancel = refl;
      a_busy = refl;
    }
