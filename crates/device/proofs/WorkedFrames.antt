-- Worked frames, by computation. Assumes nothing.
use mathlib.Core.Path.{refl}
use Rattle.base.specs.Keys.{among}
use Rattle.base.specs.Sums.{total}
use Rattle.frame.specs.Wire.{stuff, body_of}
use Rattle.message.specs.Commands.{table, profile_in}
use Rattle.message.specs.Layouts.{fits, size_fits}
use Rattle.device.specs.Handling.{answer_of, handle_of}
use Rattle.device.specs.WorkedFrames.{play, FramesWorked}

pub worked_frames : FramesWorked
unfolding handle_of answer_of play among stuff total body_of table profile_in size_fits fits
worked_frames v =
    record {
      whole_table = refl;
      replied = refl;
      faulty = refl;
      no_room = refl;
      again = refl;
      pair_short = refl;
      pair_fits = refl;
      stray = refl;
      wrong_sum_lem = refl;
      short = refl;
      state = refl;
    }
