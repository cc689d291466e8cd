-- Messages that are refused, by computation. Assumes nothing.
use mathlib.Core.Path.{refl}
use Rattle.base.specs.Keys.{among}
use Rattle.base.specs.Sums.{total}
use Rattle.frame.specs.Wire.{stuff, body_of}
use Rattle.message.specs.Commands.{table, profile_in}
use Rattle.message.specs.Layouts.{fits, size_fits}
use Rattle.message.specs.SendingWorked.{opaque_sizes, WorkedRefusals}

pub worked_refusals : WorkedRefusals
unfolding stuff total body_of among table profile_in size_fits fits opaque_sizes
worked_refusals =
    record {
      information = refl;
      attributes = refl;
      secret = refl;
      announcement = refl;
      ready = refl;
      piece = refl;
      bare = refl;
      empty = refl;
      fields = refl;
      strength = refl;
      unlisted_first = refl;
      size_before_field = refl;
      field_before_room = refl;
      room_last = refl;
      report_short = refl;
      report_stuffed = refl;
      too_many_texts = λ opaque h. rw h;
      too_long_code = λ opaque h. rw h;
    }
