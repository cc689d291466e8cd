-- writer_exact, write_asked, payload_limit, worked_frame and worked_room, from the definition of the writer.
-- Assumes nothing.
use Rattle.std.proofs.Common.{◌≡◌, ℕ, ◌+◌, ◌/◌, ◌%◌, ◌<◌, ◌≤◌, ltb, List, [], ◌∷◌, ◌++◌, length, sym, refl, ap, subst}
use Rattle.std.proofs.Common.{arith, ltb-false, ltb-true, le-ltb, lt-ltb}
use Rattle.base.specs.Rows.{Row, row}
use Rattle.base.specs.Sums.{total}
use Rattle.base.specs.Outcomes.{Output, output, onto}
use Rattle.base.proofs.Tests.{either_way}
use Rattle.base.proofs.OutcomesExact.{placed_whole_or_not}
use Rattle.base.proofs.Asking.{asks_never, asks_as, asks_by}
use Rattle.frame.specs.Wire.{stuff, wire, body_of, frame_limit}
use Rattle.frame.specs.Calls.{zeros, run_of, write_of}
use Rattle.frame.specs.WriterExact.{form_of, WritesExactly, WriterExact, WriteAsked, PayloadLimits, WorkedFrame}
use Rattle.frame.specs.WriterExact.{WorkedRoom}

-- the two ways to write a frame down
form_is : (command number flags : ℕ) (payload : List ℕ)
    → wire (body_of command number flags payload) ≡ form_of (length payload + 5) command number flags payload
unfolding body_of total
form_is command number flags payload =
    let l : ℕ = length payload + 5 in
    let left : l / 256 + (l % 256 + (command + (number + (flags / 256 + (flags % 256 + total payload)))))
    ≡ l / 256 + l % 256 + command + number + flags / 256 + flags % 256 + total payload = omega arith in
    ap (λ (n : ℕ). wire (l / 256 ∷ l % 256 ∷ command ∷ number ∷ flags / 256 ∷ flags % 256 ∷ (payload ++ n % 256 ∷ [])))
    left

-- ---- the definition's three cases

module _ (limit command number flags : ℕ) (payload : List ℕ) where
  abbrev size : ℕ
  size = length payload + 5

  abbrev form : List ℕ
  form = wire (body_of command number flags payload)

  module _ (out : List ℕ) where
    abbrev written : Output
    written = write_of limit command number flags payload out

    is_long : limit < size → written ≡ output (row 21 (0 ∷ [])) out
    is_long h = rw (lt-ltb limit size h)

    module _ (h : size ≤ limit) where
      has_no_room : length out < length form → written ≡ output (row 22 (length form ∷ [])) out
      has_no_room g = rw (le-ltb limit size h, lt-ltb (length out) (length form) g)

      is_written : length form ≤ length out → written ≡ output (row 0 (length form ∷ [])) (onto form out)
      is_written g = rw (le-ltb limit size h, le-ltb (length out) (length form) g)

pub writer_exact : WriterExact
writer_exact limit command number flags payload out =
    let l : ℕ = length payload + 5 in
    let w : List ℕ = wire (body_of command number flags payload) in
    let p = placed_whole_or_not w out in
    let by : (o : Output) → write_of limit command number flags payload out ≡ o → WritesExactly limit l w out o
    → WritesExactly limit l w out (write_of limit command number flags payload out) =
    λ o e x. subst (WritesExactly limit l w out) (sym e) x in
    subst (λ (f : List ℕ). WritesExactly limit l f out (write_of limit command number flags payload out))
    (form_is command number flags payload)
    (either_way (ltb limit l)
    (λ t.
    let over = ltb-true limit l t in
    by _ (is_long limit command number flags payload out over)
    (record {
      too_long = λ h. refl;
      too_long_only = λ e. over;
      no_room = λ h g. absurd (omega arith);
      no_room_only = λ e. absurd (omega arith);
      fits = λ h g. absurd (omega arith);
      fits_only = λ e. absurd (omega arith);
      refused_kept = λ n. refl;
      front = λ e. absurd (omega arith);
      rest_kept = λ e i k. refl;
      same_length = refl;
    }))
    (λ t.
    let within = ltb-false limit l t in
    either_way (ltb (length out) (length w))
    (λ s.
    let small = ltb-true (length out) (length w) s in
    by _ (has_no_room limit command number flags payload out within small)
    (record {
      too_long = λ g. absurd (omega arith);
      too_long_only = λ e. absurd (omega arith);
      no_room = λ g k. refl;
      no_room_only = λ e. (within, small);
      fits = λ g k. absurd (omega arith);
      fits_only = λ e. absurd (omega arith);
      refused_kept = λ n. refl;
      front = λ e. absurd (omega arith);
      rest_kept = λ e i k. refl;
      same_length = refl;
    }))
    (λ s.
    let room = ltb-false (length out) (length w) s in
    by _ (is_written limit command number flags payload out within room)
    (record {
      too_long = λ g. absurd (omega arith);
      too_long_only = λ e. absurd (omega arith);
      no_room = λ g k. absurd (omega arith);
      no_room_only = λ e. absurd (omega arith);
      fits = λ g k. refl;
      fits_only = λ e. (within, room);
      refused_kept = λ n. absurd (n refl);
      front = λ q. rw s at (p.front room);
      rest_kept = λ q i k. rw s at (p.stays i k);
      same_length = rw s at p.same_length;
    }))))

-- PAYLOAD does not depend on the output; the rest is ROOM or written by the size of the frame
pub write_asked : WriteAsked
write_asked limit command number flags payload =
    let l : ℕ = length payload + 5 in
    let w : List ℕ = form_of l command number flags payload in
    let exact : (out : List ℕ) → _ = λ out. writer_exact limit command number flags payload out in
    let answer : List ℕ → Row = λ out. (write_of limit command number flags payload out).row in
    either_way (ltb limit l)
    (λ t. asks_as (λ out. row 21 (0 ∷ [])) answer (λ out. (exact out).too_long (ltb-true limit l t))
    (asks_never (row 21 (0 ∷ [])) (λ e. omega arith)))
    (λ t. let within = ltb-false limit l t in
    asks_by w answer (row 0 (length w ∷ [])) (λ out g. (exact out).no_room within g)
    (λ out g. (exact out).fits within g) (λ e. omega arith) refl)

pub payload_limit : PayloadLimits
payload_limit command number flags payload out =
    let w = writer_exact frame_limit command number flags payload out in
    record { above = λ h. w.too_long (omega arith); only = λ e. omega (arith, w.too_long_only e) }

pub worked_frame : WorkedFrame
unfolding body_of total stuff zeros run_of
worked_frame =
    record {
      written = refl;
      no_room = refl;
      too_long = refl;
      read_row = refl;
      read_body = (refl, refl, refl, refl, refl);
    }

pub worked_room : WorkedRoom
unfolding body_of total stuff
worked_room =
    record {
      shortest = refl;
      sum_stuffed = refl;
      number_stuffed = refl;
      all_ff_short = refl;
      all_ff_fits = refl;
      longest_payload = refl;
      longest = refl;
      too_long = refl;
    }
