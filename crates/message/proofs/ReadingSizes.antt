-- The tables of commands and sizes, each by one computation. Assumes nothing.
use mathlib.Core.Path.{refl}
use Rattle.base.specs.Keys.{among}
use Rattle.message.specs.Commands.{table, profile_in}
use Rattle.message.specs.Layouts.{fits, size_fits}
use Rattle.message.specs.ReadingSizes.{WorkedCommands, sizes_among, WorkedSizes}

pub worked_commands : WorkedCommands
unfolding among table profile_in size_fits fits
worked_commands = record { no_byte = refl; one_byte = refl }

pub worked_sizes : WorkedSizes
unfolding among table profile_in size_fits fits sizes_among
worked_sizes =
    record {
      information = refl;
      control = refl;
      query = refl;
      other_action = refl;
      status = refl;
      other_status = refl;
      report = refl;
      other_report = refl;
      onboarding = refl;
      network = refl;
      module_reject = refl;
      box_reject = refl;
      time = refl;
      announcement = refl;
      announcement_counts = refl;
      ready = refl;
      ready_counts = refl;
      piece = refl;
    }
