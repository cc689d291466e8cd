-- Worked listings, by computation. Assumes nothing.
use Prim.Native.Nat.{ℕ}
use mathlib.Core.Path.{◌≡◌, refl, ap}
use mathlib.Core.List.{[], head-eq_of_cons-eq, tail-eq_of_cons-eq}
use native.Mathlib.Omega.{arith}
use lib.ListN.{length, length-append}
use Rattle.frame.specs.Calls.{zeros, run_of}
use Rattle.frame.specs.LogsComputed.{log_of, offer}
use Rattle.listing.specs.Digits.{decimal_of, digits_in}
use Rattle.listing.specs.Lines.{columns_of}
use Rattle.listing.specs.CallTexts.{texts_of}
use Rattle.listing.specs.Feeding.{list_in}
use Rattle.listing.specs.Turns.{turns_of, OfferedFront}
use Rattle.listing.specs.WorkedListings.{ExampleListing, EachKind, WorkedColumns, WorkedPrefix, WorkedRoom}
use Rattle.listing.specs.WorkedListings.{WorkedLoop, WorkedTurns, example_stream}

pub example_listing : ExampleListing
unfolding log_of offer run_of zeros texts_of columns_of decimal_of digits_in
example_listing = refl

pub each_kind : EachKind
unfolding log_of run_of zeros texts_of columns_of decimal_of digits_in
each_kind = record { short = refl; long = refl; stuff = refl; stuff_late = refl; sum = refl; left_open = refl }

pub worked_columns : WorkedColumns
unfolding log_of run_of zeros texts_of columns_of decimal_of digits_in
worked_columns = record { columns = refl }

pub worked_prefix : WorkedPrefix
unfolding log_of offer run_of zeros texts_of columns_of decimal_of digits_in
worked_prefix = record { example = refl; quiet = refl }

pub worked_room : WorkedRoom
unfolding columns_of decimal_of digits_in
worked_room =
    record {
      heading_short = refl;
      prefix_short = refl;
      line_short = refl;
      last_short = refl;
      refusal_short = refl;
      heading_fits = refl;
      no_line = refl;
    }

pub worked_loop : WorkedLoop
unfolding list_in run_of zeros columns_of decimal_of digits_in
worked_loop =
    record {
      whole = record { used_is = refl; stop_is = refl; text_is = refl };
      none = record { used_is = refl; stop_is = refl; text_is = refl };
      first = record { used_is = refl; stop_is = refl; text_is = refl };
      column_none = record { used_is = refl; stop_is = refl; text_is = refl };
      column_first = record { used_is = refl; stop_is = refl; text_is = refl };
    }

pub worked_turns : WorkedTurns
unfolding turns_of OfferedFront list_in run_of zeros columns_of decimal_of digits_in
worked_turns =
    record {
      consumed_is = refl;
      text_is = refl;
      written_is = refl;
      offered = (([], refl), (([], refl), tt));
      not_again = λ o. omega (arith, ap length o.1.0.1, length-append example_stream o.1.0.0);
      not_kept = λ o.
          let z : ◌≡◌ {A = ℕ} 0xFF 0x00 = head-eq_of_cons-eq (tail-eq_of_cons-eq o.1.0.1) in omega arith;
    }
