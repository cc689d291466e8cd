-- Worked captures, by computation. Assumes nothing.
use Prim.Native.Nat.{ℕ, ◌<◌}
use mathlib.Core.Path.{◌≡◌, refl, ap}
use mathlib.Core.Logic.{◌⊎◌, inl, inr}
use mathlib.Core.List.{List, [], ◌∷◌}
use native.Mathlib.Omega.{arith}
use lib.ListN.{length, get_or, drop}
use Rattle.capture.specs.Reading.{agrees, next_of}
use Rattle.capture.specs.Windows.{records_by, place_by, left_by, AreWindows}
use Rattle.capture.specs.WorkedCaptures.{WorkedRefusals, WorkedCapture, WorkedRoom, WorkedWindows}
use Rattle.capture.specs.WorkedCaptures.{box_record, worked_bytes}

pub worked_refusals : WorkedRefusals
unfolding agrees
worked_refusals =
    record {
      nothing = refl;
      half_mark = refl;
      wrong_mark = refl;
      first_wrong = refl;
      mark_alone = refl;
      half_version = refl;
      wrong_version = refl;
      swapped_version = refl;
      wrong_direction = refl;
      direction_first = refl;
      half_record = refl;
      half_payload = refl;
      no_record = refl;
      no_such_place = refl;
      no_such_end = refl;
      too_far = refl;
    }

pub worked_capture : WorkedCapture
unfolding agrees records_by place_by
worked_capture =
    record {
      head_taken = refl;
      box_taken = refl;
      empty_taken = refl;
      box_lacks = refl;
      long_taken = refl;
      records = refl;
      place = refl;
      end = refl;
      written = refl;
    }

pub worked_room : WorkedRoom
worked_room =
    record {
      head_short = refl;
      head_fits = refl;
      record_short = refl;
      record_fits = refl;
      longest = refl;
      too_long = refl;
    }

-- a front that decides nothing is not all that is left
early : {rest : List ℕ} → box_record ≡ 0x01 ∷ rest → (rest ≡ []) ⊎ (50 < (next_of 5 (0x01 ∷ [])).row.number) → ⊥
early front (inl none) = omega (arith, ap length front, ap length none)
early front (inr refused) = omega (arith, refused)

pub worked_windows_lem : WorkedWindows
unfolding agrees records_by left_by AreWindows
worked_windows_lem =
    record {
      are = (
        (drop 6 worked_bytes, refl),
        ((drop 15 worked_bytes, refl), ((drop 15 worked_bytes, refl), (([], refl), tt))),
      );
      left = refl;
      taken = refl;
      closes = record { rest = []; front = refl; decided = inl refl };
      closes_refused = record { rest = 0x00 ∷ []; front = refl; decided = inr (omega arith) };
      not_early = λ c. early c.front c.decided;
      not_again = λ a. let z : ◌≡◌ {A = ℕ} 0x01 0x4C = ap (λ (l : List ℕ). get_or l 0 0) a.1.0.1 in omega arith;
      not_left_out = λ a. let z : ◌≡◌ {A = ℕ} 0x01 0x02 = ap (λ (l : List ℕ). get_or l 1 0) a.1.0.1 in omega arith;
    }
