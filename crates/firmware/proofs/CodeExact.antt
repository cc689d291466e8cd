-- What a C caller relies on, from frame's claims `made_good` and `stuffed_form`. Assumes nothing.
use Prim.Native.Nat.{ℕ, suc, ◌+◌, ◌-◌, ◌*◌, ◌≤◌, ◌<◌}
use mathlib.Core.Path.{◌≡◌, refl, sym, ap, ◌∙◌}
use mathlib.Core.Bool.{Bool, true, false}
use mathlib.Core.List.{List, [], ◌∷◌}
use native.Mathlib.Omega.{arith}
use borrow.Author.Tests.{ltb-true, ltb-false, lt-ltb, le-ltb}
use lib.Dec.{eqb, ltb}
use lib.ListN.{length}
use Rattle.base.specs.Rows.{row}
use Rattle.base.specs.Outcomes.{Output, output, onto, written_in, needed_in}
use Rattle.base.specs.Sums.{total}
use Rattle.base.proofs.Tests.{by_test}
use Rattle.frame.specs.Wire.{stuff_after, stuff, body_of, frame_limit}
use Rattle.frame.proofs.Stuffing.{stuffed_form}
use Rattle.frame.proofs.RoundTrip.{made_good}
use Rattle.firmware.specs.Code.{returned_number, needed_from, row_from, Returned, returned, returned_of}
use Rattle.firmware.specs.CodeExact.{Arguments, with_buffer, output_of, number_for, wire_for, SmallLimit, CountsBelow}
use Rattle.firmware.specs.CodeExact.{LengthsBelow, CodesInjective, ToldApart, ToldApartAlways, RefusalUnchanged}
use Rattle.firmware.specs.CodeExact.{CodeWhen, CodesWhen, LengthReadBack, AskedThenWrittenAlways}
use Rattle.firmware.specs.CodeExact.{AskedWithNoneAlways, RoomSuffices, CGetsAlways, WorkedCodes}

-- ---- the three answers

module _ (limit : ℕ) (g : Arguments) where
  -- the greatest frame on the wire
  longest : length g.payload + 5 ≤ limit → length (wire_for g) ≤ 2 + 2 * (limit + 2)
  longest h =
      let made = (made_good limit g.command g.number g.flags g.payload h).good in
      omega (
        arith,
        made.true_length,
        made.longest,
        (stuffed_form (body_of g.command g.number g.flags g.payload)).at_most_twice,
      )

  -- what holds of the writer's three answers, each with what it comes of
  each : (P : Output → Type 0) → (limit < length g.payload + 5 → P (output (row 21 (0 ∷ [])) g.out))
      → (length g.payload + 5 ≤ limit → length g.out < length (wire_for g)
      → P (output (row 22 (length (wire_for g) ∷ [])) g.out))
      → (length g.payload + 5 ≤ limit → length (wire_for g) ≤ length g.out
      → P (output (row 0 (length (wire_for g) ∷ [])) (onto (wire_for g) g.out))) → P (output_of limit g)
  each P too_long no_room written =
      by_test P (ltb limit (length g.payload + 5)) (λ t. too_long (ltb-true limit (length g.payload + 5) t))
      λ t.
      let fits = ltb-false limit (length g.payload + 5) t in
      by_test P (ltb (length g.out) (length (wire_for g)))
      (λ s. no_room fits (ltb-true (length g.out) (length (wire_for g)) s))
      λ s. written fits (ltb-false (length g.out) (length (wire_for g)) s)

written_below : (limit : ℕ) (g : Arguments) → written_in (output_of limit g).row ≤ 2 + 2 * (limit + 2)
written_below limit g =
    each limit g (λ (w : Output). written_in w.row ≤ 2 + 2 * (limit + 2)) (λ h. omega arith) (λ h r. omega arith)
    (λ h r. longest limit g h)

pub counts_below : CountsBelow
counts_below = record { any = written_below; ours = written_below frame_limit; small = omega arith }

needed_below : (limit : ℕ) (g : Arguments) → needed_in (output_of limit g).row ≤ 2 + 2 * (limit + 2)
needed_below limit g =
    each limit g (λ (w : Output). needed_in w.row ≤ 2 + 2 * (limit + 2)) (λ h. omega arith)
    (λ h r. longest limit g h) (λ h r. omega arith)

pub lengths_below : LengthsBelow
lengths_below =
    record {
      any = needed_below;
      ours = needed_below frame_limit;
      number = λ g. each frame_limit g (λ (w : Output). returned_number w.row ≤ 133126) (λ h. omega arith)
          (λ h r. omega (arith, longest frame_limit g h)) (λ h r. omega (arith, longest frame_limit g h));
    }

-- ---- the number read back

module _ (limit : ℕ) (small : SmallLimit limit) where
  apart : (g : Arguments) → ToldApart limit g
  apart g =
      record {
        count = each limit g
            (λ (w : Output). returned_number w.row < 65536 → w.row ≡ row 0 (returned_number w.row ∷ []))
            (λ h n. absurd (omega arith)) (λ h r n. absurd (omega arith)) (λ h r n. refl);
        payload = each limit g
            (λ (w : Output). 65536 ≤ returned_number w.row → returned_number w.row < 131072
            → (returned_number w.row ≡ 65557) × (w.row ≡ row 21 (0 ∷ [])))
            (λ h n m. (refl, refl)) (λ h r n m. absurd (omega arith))
            (λ h r n m. absurd (omega (arith, longest limit g h)));
        room = each limit g
            (λ (w : Output). 131072 ≤ returned_number w.row
            → w.row ≡ row 22 ((returned_number w.row - 131072) ∷ []))
            (λ h n. absurd (omega arith))
            (λ h r n. ap (λ (k : ℕ). row 22 (k ∷ [])) (omega arith))
            (λ h r n. absurd (omega (arith, longest limit g h)));
      }

  decoded : (g : Arguments) → row_from (number_for limit g) ≡ (output_of limit g).row
  decoded g =
      each limit g (λ (w : Output). row_from (returned_number w.row) ≡ w.row) (λ h. refl)
      (λ h r.
      rw (
        le-ltb (131072 + length (wire_for g)) 65536 (omega arith),
        le-ltb (131072 + length (wire_for g)) 131072 (omega arith),
      )
      (ap (λ (k : ℕ). row 22 (k ∷ [])) (omega arith)))
      (λ h r. rw (lt-ltb (length (wire_for g)) 65536 (omega (arith, longest limit g h))))

pub told_apart : ToldApartAlways
told_apart = apart

pub code_injective : CodesInjective
code_injective limit small =
    record {
      decoded = decoded limit small;
      injective = λ g h e. sym (decoded limit small g) ∙ ap row_from e ∙ decoded limit small h;
    }

pub refusal_unchanged : RefusalUnchanged
refusal_unchanged limit small g =
    each limit g (λ (w : Output). 65536 ≤ returned_number w.row → w.out ≡ g.out) (λ h n. refl) (λ h r n. refl)
    (λ h r n. absurd (omega (arith, longest limit g h)))

-- ---- when each number comes

when : (limit : ℕ) (g : Arguments) → CodeWhen limit g
when limit g =
    record {
      payload = λ h. rw (lt-ltb limit (length g.payload + 5) h);
      room = λ h r. rw (le-ltb limit (length g.payload + 5) h, lt-ltb (length g.out) (length (wire_for g)) r);
      written = λ h r. rw (le-ltb limit (length g.payload + 5) h, le-ltb (length g.out) (length (wire_for g)) r);
    }

-- what the arguments are, by a number in one of the three ranges
module _ (g : Arguments) where
  only_payload : number_for frame_limit g ≡ 65557 → 1019 < length g.payload
  only_payload =
      each frame_limit g (λ (w : Output). returned_number w.row ≡ 65557 → 1019 < length g.payload)
      (λ h n. omega arith) (λ h r n. absurd (omega arith)) (λ h r n. absurd (omega (arith, longest frame_limit g h)))

  only_room : 131072 ≤ number_for frame_limit g → (length g.payload ≤ 1019) × (length g.out < length (wire_for g))
  only_room =
      each frame_limit g
      (λ (w : Output). 131072 ≤ returned_number w.row
      → (length g.payload ≤ 1019) × (length g.out < length (wire_for g)))
      (λ h n. absurd (omega arith)) (λ h r n. (omega arith, r))
      (λ h r n. absurd (omega (arith, longest frame_limit g h)))

  only_written : number_for frame_limit g < 65536 → (length g.payload ≤ 1019) × (length (wire_for g) ≤ length g.out)
  only_written =
      each frame_limit g
      (λ (w : Output). returned_number w.row < 65536
      → (length g.payload ≤ 1019) × (length (wire_for g) ≤ length g.out))
      (λ h n. absurd (omega arith)) (λ h r n. absurd (omega arith)) (λ h r n. (omega arith, r))

pub code_when : CodesWhen
code_when =
    record {
      any = when;
      payload = λ g h. (when frame_limit g).payload (omega arith);
      payload_only = only_payload;
      room = λ g h. (when frame_limit g).room (omega arith);
      room_only = only_room;
      written = λ g h. (when frame_limit g).written (omega arith);
      written_only = only_written;
    }

pub room_suffices : RoomSuffices
room_suffices g h r = code_when.written g h (omega (arith, longest frame_limit g (omega arith)))

-- ---- the length

-- stuffing takes nothing away
stuff_least : (b : List ℕ) → length b ≤ length (stuff b)
unfolding stuff
stuff_least [] = omega arith
stuff_least (x ∷ xs) = go (eqb x 255) (stuff_least xs)
  where
    go : (t : Bool) → length xs ≤ length (stuff xs) → suc (length xs) ≤ suc (length (stuff_after t (stuff xs)))
    go true h = omega arith
    go false h = omega arith

shortest : (g : Arguments) → 9 ≤ length (wire_for g)
shortest g =
    let limit : ℕ = length g.payload + 5 in
    let made = (made_good limit g.command g.number g.flags g.payload (omega arith)).good in
    omega (
      arith,
      made.true_length,
      made.shortest,
      stuff_least (body_of g.command g.number g.flags g.payload),
    )

none_below : (n : ℕ) → n < 131072 → needed_from n ≡ 0
none_below n h = rw (lt-ltb n 131072 h)

rest_above : (n : ℕ) → needed_from (131072 + n) ≡ n
rest_above n = rw (le-ltb (131072 + n) 131072 (omega arith)) (omega arith)

pub length-read_back : LengthReadBack
length-read_back =
    record {
      below = none_below;
      above = rest_above;
      room = λ g h r. ap needed_from (code_when.room g h r) ∙ rest_above (length (wire_for g));
      payload = λ g h. ap needed_from (code_when.payload g h);
      written = λ g r. each frame_limit g (λ (w : Output). needed_from (returned_number w.row) ≡ 0) (λ h. refl)
          (λ h s. absurd (omega arith))
          (λ h s. none_below (length (wire_for g)) (omega (arith, longest frame_limit g h)));
      least = shortest;
    }

-- ---- asking first

module _ (limit : ℕ) (small : SmallLimit limit) (g : Arguments) (asked : 131072 ≤ number_for limit g) where
  fits : length g.payload + 5 ≤ limit
  fits =
      each limit g (λ (w : Output). 131072 ≤ returned_number w.row → length g.payload + 5 ≤ limit)
      (λ h n. absurd (omega arith)) (λ h r n. h) (λ h r n. h) asked

  number_is : number_for limit g ≡ 131072 + length (wire_for g)
  number_is =
      each limit g
      (λ (w : Output). 131072 ≤ returned_number w.row → returned_number w.row ≡ 131072 + length (wire_for g))
      (λ h n. absurd (omega arith)) (λ h r n. refl) (λ h r n. absurd (omega (arith, longest limit g h))) asked

pub asked_then_written : AskedThenWrittenAlways
asked_then_written limit small g asked =
    let length-is = number_is limit small g asked in
    let short = fits limit small g asked in
    record {
      enough = λ o h.
          let room : length (wire_for g) ≤ length o = omega (arith, length-is) in (
            (when limit (with_buffer g o)).written short room ∙ omega (arith, length-is),
            rw (le-ltb limit (length g.payload + 5) short, le-ltb (length o) (length (wire_for g)) room),
          );
      shorter = λ o h. (when limit (with_buffer g o)).room short (omega (arith, length-is)) ∙ sym length-is;
    }

pub asked_with_none : AskedWithNoneAlways
asked_with_none g =
    record {
      payload = λ h. code_when.payload (with_buffer g []) h;
      room = λ h. code_when.room (with_buffer g []) h (omega (arith, shortest g));
    }

-- ---- the contract's equation

-- its two sides
gets : (code : ℕ) (after : List ℕ) (w : Output) → returned code after ≡ returned_of w
    → (code ≡ returned_number w.row) × (after ≡ w.out)
gets code after w e = (ap (λ (r : Returned). r.code) e, ap (λ (r : Returned). r.out) e)

pub c_gets : CGetsAlways
c_gets g code after e =
    let got = gets code after (output_of frame_limit g) e in
    record {
      payload = λ h. (
        got.0 ∙ code_when.payload g h,
        got.1 ∙ rw (lt-ltb 1024 (length g.payload + 5) (omega arith)),
      );
      room = λ h r. (
        got.0 ∙ code_when.room g h r,
        got.1 ∙ rw (
          le-ltb 1024 (length g.payload + 5) (omega arith),
          lt-ltb (length g.out) (length (wire_for g)) r,
        ),
      );
      written = λ h r. (
        got.0 ∙ code_when.written g h r,
        got.1 ∙ rw (
          le-ltb 1024 (length g.payload + 5) (omega arith),
          le-ltb (length g.out) (length (wire_for g)) r,
        ),
      );
    }

pub worked_codes : WorkedCodes
unfolding body_of total stuff
worked_codes =
    record {
      none = refl;
      one_short = refl;
      just_right = refl;
      ones_short = refl;
      ones_fit = refl;
      longest = refl;
      too_long = refl;
      read = refl;
      read_payload = refl;
      read_count = refl;
    }
