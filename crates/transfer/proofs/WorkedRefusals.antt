-- Refusals that compete, by computation. Assumes nothing.
use mathlib.Core.Path.{refl}
use Rattle.base.specs.Keys.{among}
use Rattle.base.specs.Same.{same_bytes}
use Rattle.base.specs.Sums.{total}
use Rattle.frame.specs.Wire.{stuff, body_of}
use Rattle.message.specs.Commands.{table, profile_in}
use Rattle.message.specs.Layouts.{fits, size_fits}
use Rattle.transfer.specs.WorkedRefusals.{WorkedRefusals}

pub worked_refusals : WorkedRefusals
unfolding among same_bytes total stuff body_of table profile_in fits size_fits
worked_refusals =
    record {
      begins = refl;
      begins_roomless = refl;
      begins_nothing = refl;
      begins_long = refl;
      stores = refl;
      stores_roomless = refl;
      stores_again = refl;
      stores_none = refl;
      stops = refl;
      cancels = refl;
    }
