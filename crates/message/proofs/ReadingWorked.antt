-- Literal payloads and their rows, each table by one computation. Assumes nothing.
use mathlib.Core.Path.{refl}
use Rattle.base.specs.Keys.{among}
use Rattle.message.specs.Commands.{table, profile_in}
use Rattle.message.specs.Layouts.{fits, size_fits}
use Rattle.message.specs.ReadingWorked.{WorkedPayloads, WorkedReadings}

pub worked_payloads : WorkedPayloads
unfolding among table profile_in size_fits fits
worked_payloads =
    record {
      time = refl;
      piece = refl;
      status = refl;
      query = refl;
      control = refl;
      information = refl;
      eight_read = refl;
      eight_written = refl;
    }

pub worked_readings : WorkedReadings
unfolding among table profile_in size_fits fits
worked_readings =
    record {
      empty = refl;
      status = refl;
      report = refl;
      control = refl;
      network = refl;
      numbers = refl;
      single_bytes = refl;
      competing = refl;
    }
