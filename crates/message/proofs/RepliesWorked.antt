-- Literal replies, by computation. Assumes nothing.
use mathlib.Core.Path.{refl}
use native.Mathlib.Omega.{arith}
use borrow.Author.Tests.{le-ltb}
use lib.ListN.{length}
use Rattle.base.specs.Sums.{total}
use Rattle.base.specs.Keys.{among}
use Rattle.frame.specs.Wire.{stuff, body_of}
use Rattle.message.specs.Commands.{table, profile_in}
use Rattle.message.specs.Layouts.{fits, size_fits}
use Rattle.message.specs.RepliesWorked.{WorkedDecisions, WorkedReplies, WorkedRooms, RepliesTabled}

pub worked_decisions : WorkedDecisions
unfolding among table profile_in size_fits fits
worked_decisions limit number v body out =
    record {
      wants_information = refl;
      wants_status = refl;
      wants_begin = refl;
      wants_store = refl;
      wants_stop = refl;
      wrong_sum_lem = refl;
      silent_short = refl;
      silent_long = refl;
      silent_stuff = refl;
      silent_stuff_late = refl;
      silent_cut = refl;
    }

pub worked_replies : WorkedReplies
unfolding stuff total body_of among table profile_in size_fits fits
worked_replies limit l v out h =
    record {
      acknowledged = rw (le-ltb limit 5 (omega (arith, l)), le-ltb (length out) 9 (omega (arith, h)));
      wrong_sum_lem = rw (le-ltb limit 6 l, le-ltb (length out) 10 h);
    }

pub worked_rooms : WorkedRooms
unfolding stuff total body_of among table profile_in size_fits fits
worked_rooms =
    record {
      acknowledged = refl;
      acknowledged_ff = refl;
      rejected = refl;
      rejected_ff = refl;
      nothing_lent = refl;
    }

pub replies_tabled : RepliesTabled
unfolding stuff total body_of among table profile_in size_fits fits
replies_tabled = record { no_byte = refl; one_byte = refl; wrong_sum_lem = refl; payloads = refl }
