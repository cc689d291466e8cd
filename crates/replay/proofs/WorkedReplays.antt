-- Worked replays, by computation. Assumes nothing.
use Prim.Native.Nat.{ℕ, ◌<◌}
use mathlib.Core.Path.{◌≡◌, refl, ap, ◌∙◌}
use mathlib.Core.Logic.{◌⊎◌, inl, inr}
use mathlib.Core.List.{List, [], head-eq_of_cons-eq}
use native.Mathlib.Omega.{arith}
use lib.ListN.{length, get_or, drop}
use Rattle.frame.specs.Calls.{zeros, run_of}
use Rattle.listing.specs.Digits.{decimal_of, digits_in}
use Rattle.listing.specs.Feeding.{list_in}
use Rattle.listing.specs.Lines.{columns_of}
use Rattle.capture.specs.Reading.{agrees}
use Rattle.replay.specs.Playing.{play_in}
use Rattle.replay.specs.Turns.{state_by, text_by, left_by, AreWindows}
use Rattle.replay.specs.WorkedReplays.{example_capture, WorkedReplay, WorkedRefusals, WorkedEmpty, WorkedRoom}
use Rattle.replay.specs.WorkedReplays.{WorkedLines}

pub worked_empty : WorkedEmpty
unfolding state_by text_by left_by play_in agrees list_in run_of zeros columns_of decimal_of digits_in
worked_empty = refl

pub worked_refusals : WorkedRefusals
unfolding state_by text_by left_by play_in agrees list_in run_of zeros columns_of decimal_of digits_in
worked_refusals =
    record {
      nothing = refl;
      mark_cut = refl;
      mark_wrong = refl;
      version_none = refl;
      version_cut = refl;
      version_wrong = refl;
      direction_wrong = refl;
      record_cut = refl;
      after_record = refl;
      frame_in_cut = refl;
    }

-- bytes are left, and none that is there is refused
early : {rest : List ℕ} → drop 5 example_capture ≡ rest → (rest ≡ []) ⊎ (50 < 0) → ⊥
early e (inl z) = let none : ◌≡◌ {A = ℕ} 54 0 = ap length (e ∙ z) in omega arith
early e (inr h) = omega arith

pub worked_replay : WorkedReplay
unfolding state_by text_by left_by AreWindows play_in agrees list_in run_of zeros columns_of decimal_of digits_in
worked_replay =
    record {
      whole = refl;
      whole_windows = (([], refl), tt);
      whole_left = refl;
      whole_finishes = record { rest = []; front = refl; decided = inl refl; nothing_to_play = λ z. omega arith };
      small = refl;
      small_windows = (
        (drop 3 example_capture, refl),
        (
          (drop 12 example_capture, refl),
          (
            (drop 36 example_capture, refl),
            (
              (drop 37 example_capture, refl),
              (
                (drop 37 example_capture, refl),
                (
                  (drop 44 example_capture, refl),
                  (([], refl), (([], refl), (([], refl), tt))),
                ),
              ),
            ),
          ),
        ),
      );
      small_left = refl;
      small_finishes = record { rest = []; front = refl; decided = inl refl; nothing_to_play = λ z. omega arith };
      not_again = λ o. let z : ◌≡◌ {A = ℕ} 0x00 0x4C = head-eq_of_cons-eq o.1.0.1 in omega arith;
      not_kept = λ o. let z : ◌≡◌ {A = ℕ} 0x00 0x05 = ap (λ (l : List ℕ). get_or l 5 0) o.1.0.1 in omega arith;
      not_early = λ f. early f.front f.decided;
    }

pub worked_room : WorkedRoom
unfolding state_by play_in agrees zeros columns_of decimal_of digits_in
worked_room =
    record { heading_short = refl; ends_short = refl; ends_fit = refl; refusal_short = refl; refusal_fits = refl }

pub worked_lines : WorkedLines
unfolding state_by text_by left_by play_in agrees list_in run_of zeros columns_of decimal_of digits_in
worked_lines = record { ends = refl; kinds = refl }
