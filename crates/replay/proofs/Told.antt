-- What a replay has told of a capture, after any turns: the loop's invariant over its records. Assumes nothing.
use Prim.Native.Nat.{ℕ, zero, suc, ◌+◌, ◌-◌, ◌^◌, ◌≤◌}
use mathlib.Core.Path.{◌≡◌, refl, sym, ap, subst, ◌∙◌}
use mathlib.Core.Bool.{Bool, true, false, cond}
use mathlib.Core.Logic.{◌≢◌, ◌⊎◌, inl, inr}
use mathlib.Core.List.{List, [], ◌∷◌, ◌++◌, append-nil, append_assoc}
use native.Mathlib.Omega.{arith}
use borrow.Author.Tests.{eqb-true, eqb-false, eq-eqb, ne_eqb, le-leb}
use lib.ListN.{length, get_or, take, drop, length-append, length-take, length-drop, take-append-drop}
use lib.Seq.{take-add, take_all, drop-drop, take-append-le, drop-append-le}
use lib.Dec.{eqb}
use Rattle.base.specs.Rows.{Row, row}
use Rattle.base.specs.Outcomes.{Outcome, outcome}
use Rattle.base.specs.Runs.{Run, stopped, onward}
use Rattle.base.proofs.Tests.{by_test, either_way, cond_same}
use Rattle.frame.specs.Wire.{widest}
use Rattle.frame.specs.State.{State as Reader}
use Rattle.frame.specs.Decisions.{Decision}
use Rattle.listing.specs.Listing.{decisions_text}
use Rattle.listing.specs.TurnListings.{TurnStops as ListStops}
use Rattle.listing.proofs.LoopRuns.{loop_lists}
use Rattle.listing.proofs.RunAdds.{lines_joined}
use Rattle.capture.specs.Format.{head, direction_of, milliseconds_of, payload_size_of, payload_of, size_of}
use Rattle.frame.specs.Offers.{joined}
use Rattle.capture.specs.Captures.{AllRecords, Begins}
use Rattle.capture.specs.EachCall.{OutOfRange, RecordSaid}
use Rattle.capture.specs.Reading.{next_of, in_range_of as cursor_in_range}
use Rattle.capture.specs.Windows.{count_of, add_record, records_by, place_by, left_by, AreWindows}
use Rattle.capture.proofs.EachCall.{cursor_ranges, more_later}
use Rattle.capture.proofs.NextSays.{next_says}
use Rattle.replay.specs.Lines.{Printed, printed_text, lines_of, prefix_of}
use Rattle.replay.specs.State.{State, fresh_of, in_range_of, reader_of, with_reader}
use Rattle.replay.specs.Replays.{heard_of, Adds, AreLines}
use Rattle.replay.specs.Playing.{goes_on, record_run, head_in, step_in, step_of, play_in, play_of}
use Rattle.replay.specs.TurnReplays.{TurnStops}
use Rattle.replay.specs.Turns.{Turn, state_by, text_by, left_by as turns_left, AreWindows as TurnWindows}
use Rattle.replay.proofs.LineLaws.{heard_more, adds_join, lines_of_text, printed_both, lines_more}
use Rattle.replay.proofs.Sides.{Side, fresh_side, adds_none, Fed, feed_side, side_stops, side_range}
use Rattle.replay.proofs.WindowLaws.{records_more, place_more, left_more, windows_more, SameRecord, same_record}
use Rattle.replay.proofs.WindowLaws.{taken_record, joined_more, all_more}

-- the bytes of the record at the front that are fed, where it is of this direction
abbrev pub fed_in : ℕ → ℕ → List ℕ → List ℕ
fed_in e fed left = cond (eqb (direction_of left) e) (take fed (payload_of left)) []

-- nothing of the next record is fed; or some bytes are, and these decisions are told of it
abbrev pub Within : ℕ → List (List ℕ) → State → List ℕ → List Decision → Type 0
Within limit past s left new =
    ((s.fed ≡ 0) × (new ≡ []))
    ⊎ (((next_of s.place left).row.number ≡ 1)
    × Adds limit (heard_of (direction_of left) past) (take s.fed (payload_of left)) new)

-- nothing is taken of a capture; or its head and these records are, and this is left
abbrev pub SplitAt : List ℕ → List (List ℕ) → List ℕ → Type 0
SplitAt capture past left =
    ((past ≡ []) × (left ≡ capture)) ⊎ ((capture ≡ head ++ (joined past ++ left)) × AllRecords past)

-- what is told of a capture, of which this is left
pub record Told (limit : ℕ) (capture : List ℕ) (s : State) (left text : List ℕ) : Type 0 where
  pub windows : List (List ℕ)
  pub are : AreWindows 0 capture windows
  pub place_is : place_by 0 windows ≡ s.place
  pub left_is : left_by 0 capture windows ≡ left
  pub size_is : s.place + length left ≡ length capture
  pub at : (s.place ≡ 0) ⊎ (5 ≤ s.place)
  pub split : SplitAt capture (records_by 0 windows) left
  pub heard : (e : ℕ) → length (heard_of e (records_by 0 windows)) ≤ s.place
  pub lines : List Printed
  pub are_lines : AreLines limit [] (records_by 0 windows) lines
  pub new : List Decision
  pub within : Within limit (records_by 0 windows) s left new
  pub text_is : text ≡ printed_text lines ++ decisions_text (prefix_of (direction_of left)) new
  pub side0 : Side limit (prefix_of 0) (heard_of 0 (records_by 0 windows) ++ fed_in 0 s.fed left) s.reader0
  pub side1 : Side limit (prefix_of 1) (heard_of 1 (records_by 0 windows) ++ fed_in 1 s.fed left) s.reader1

-- with nothing fed, no bytes are
pub none_fed : (e : ℕ) (left : List ℕ) → fed_in e 0 left ≡ []
none_fed e left = cond_same (eqb (direction_of left) e) []

-- nothing is told yet
pub told_nothing : (limit : ℕ) (capture : List ℕ) → Told limit capture (fresh_of limit) capture []
unfolding records_by place_by left_by AreWindows AreLines heard_of printed_text decisions_text
told_nothing limit capture =
    record {
      windows = [];
      are = tt;
      place_is = refl;
      left_is = refl;
      size_is = omega arith;
      at = inl refl;
      split = inl (refl, refl);
      heard = λ e. omega arith;
      lines = [];
      are_lines = refl;
      new = [];
      within = inl (refl, refl);
      text_is = refl;
      side0 = rw (none_fed 0 capture) (fresh_side limit (prefix_of 0));
      side1 = rw (none_fed 1 capture) (fresh_side limit (prefix_of 1));
    }

-- ---- the sides after a step of one direction

module _ (limit d place fed : ℕ) (r : Reader) (s : State) (own other0 other1 : List ℕ) where
  -- the reader of that direction is another one
  record Both : Type 0 where
    side0 : Side limit (prefix_of 0) (cond (eqb d 0) own other0) (with_reader d r place fed s).reader0
    side1 : Side limit (prefix_of 1) (cond (eqb d 1) own other1) (with_reader d r place fed s).reader1

  both_sides : d ≤ 1 → Side limit (prefix_of d) own r → Side limit (prefix_of 0) other0 s.reader0
      → Side limit (prefix_of 1) other1 s.reader1 → Both
  both_sides low a b c =
      either_way (eqb d 0)
      (λ t.
      let zero : d ≡ 0 = eqb-true d 0 t in
      let own0 = subst (λ (k : ℕ). Side limit (prefix_of k) own r) zero a in
      record { side0 = rw t own0; side1 = rw (t, ne_eqb d 1 (λ e. omega arith)) c })
      (λ t.
      let other = eqb-false d 0 t in
      let one : d ≡ 1 = omega (arith, other) in
      let own1 = subst (λ (k : ℕ). Side limit (prefix_of k) own r) one a in
      record { side0 = rw t b; side1 = rw (t, eq-eqb d 1 one) own1 })

-- ---- a step

-- what is told after a run, of which the window was a front of what was left
pub record Stepped (limit : ℕ) (capture left text w : List ℕ) (run : Run State) : Type 0 where
  pub within : run.used ≤ length w
  pub told : Told limit capture run.state (drop run.used left) (text ++ run.text)
  pub stops : TurnStops run.stop

goes_on_lem : TurnStops goes_on
goes_on_lem = record { never_state = λ e. omega arith; never_used = λ e. omega arith }

done_stops : TurnStops 0
done_stops = record { never_state = λ e. omega arith; never_used = λ e. omega arith }

module _ (limit : ℕ) (small : limit ≤ widest) (capture : List ℕ) (size : length capture ≤ 4611686018427387904)
    (s : State) (left text : List ℕ) (t : Told limit capture s left text) (w rest : List ℕ)
    (front : left ≡ w ++ rest) where
  abbrev past : List (List ℕ)
  past = records_by 0 t.windows

  -- nothing is done
  stays : (number : ℕ) → TurnStops number → Stepped limit capture left text w (stopped s number)
  stays number stops = record { within = omega arith; told = rw (append-nil text) t; stops = stops }

  -- the cursor is in range, and what is left is within 2^62 bytes
  pub next_stops : TurnStops (next_of s.place w).row.number
  next_stops =
      let bound : s.place + length w ≤ 4611686018427387904 =
      omega (arith, t.size_is, ap length front, length-append w rest) in
      record {
        never_state = λ e. never_out t.at ((cursor_ranges s.place w).state_only e);
        never_used = λ e. omega (arith, (cursor_ranges s.place w).used_only e);
      }
    where
      never_out : (s.place ≡ 0) ⊎ (5 ≤ s.place) → OutOfRange s.place → ⊥
      never_out (inl h) (inl k) = omega arith
      never_out (inl h) (inr k) = omega arith
      never_out (inr h) (inl k) = omega arith
      never_out (inr h) (inr k) = omega (arith, t.size_is)

  -- what is taken from a window is taken from all that is left
  same_next : ((next_of s.place w).row ≡ row 0 (0 ∷ []) → ⊥) → next_of s.place left ≡ next_of s.place w
  same_next h =
      ap (λ (l : List ℕ). next_of s.place l) front
      ∙ more_later s.place w rest (omega (arith, t.size_is, ap length front)) h

  -- ---- the head

  module _ (zero : (next_of s.place w).row.number ≡ 0) (some : 1 ≤ get_or (next_of s.place w).row.values 0 0) where
    said : (s.place ≡ 0) × Begins head w × (next_of s.place w ≡ outcome (row 0 (5 ∷ [])) 5)
    said = (next_says s.place w).head_said zero some

    five : 5 ≤ length w
    five = omega (arith, ap length said.1.1, length-append head said.1.0)

    -- nothing of a record is fed
    idle : (s.fed ≡ 0) × (t.new ≡ [])
    idle = go t.within
      where
        go : Within limit past s left t.new → (s.fed ≡ 0) × (t.new ≡ [])
        go (inl h) = h
        go (inr h) =
            let other : next_of s.place left ≡ outcome (row 0 (5 ∷ [])) 5 =
            same_next (λ e. absurd (omega (
              arith,
              ap (λ (r : Row). get_or r.values 0 0)
                  (sym (ap (λ (y : Outcome ℕ). y.row) said.2) ∙ e),
            ))) ∙ said.2 in
            absurd (omega (arith, h.0, ap (λ (y : Outcome ℕ). y.row.number) other))

    -- nothing was taken before the head
    head_split : SplitAt capture past left → (capture ≡ head ++ (joined past ++ drop 5 left)) × AllRecords past
    unfolding joined
    head_split (inl h) =
        let begins : left ≡ head ++ drop 5 left =
        front
        ∙ (ap (λ (l : List ℕ). l ++ rest) said.1.1
        ∙ (append_assoc head said.1.0 rest
        ∙ ap (λ (l : List ℕ). head ++ l)
        (sym (ap (λ (l : List ℕ). drop 5 l) (front ∙ ap (λ (l : List ℕ). l ++ rest) said.1.1))))) in
        rw h.0 (sym h.1 ∙ begins, tt)
    head_split (inr h) =
        absurd (omega (
          arith,
          t.size_is,
          said.0,
          ap length h.0,
          length-append head (joined past ++ left),
          length-append (joined past) left,
        ))

    head_stepped : Stepped limit capture left text w (head_in 5 5 s)
    unfolding decisions_text
    head_stepped =
        let at : next_of (place_by 0 t.windows) w ≡ outcome (row 0 (5 ∷ [])) 5 =
        ap (λ (p : ℕ). next_of p w) t.place_is ∙ said.2 in
        let records : records_by 0 (t.windows ++ w ∷ []) ≡ past =
        records_more 0 t.windows w ∙ rw at (append-nil past) in
        record {
          within = five;
          told = record {
            windows = t.windows ++ w ∷ [];
            are = windows_more 0 capture t.windows w rest t.are (t.left_is ∙ front);
            place_is = place_more 0 t.windows w ∙ ap (λ (y : Outcome ℕ). y.state) at;
            left_is = left_more 0 capture t.windows w
                ∙ (ap (λ (y : Outcome ℕ). drop (count_of y.row) (left_by 0 capture t.windows)) at
                ∙ ap (λ (l : List ℕ). drop 5 l) t.left_is);
            size_is = omega (
              arith,
              t.size_is,
              said.0,
              length-drop 5 left,
              five,
              ap length front,
              length-append w rest,
            );
            at = inr (omega arith);
            split = rw records (inr (head_split t.split));
            heard = λ e. rw records (omega (arith, t.heard e, said.0));
            lines = t.lines;
            are_lines = rw records t.are_lines;
            new = [];
            within = inl (idle.0, refl);
            text_is = rw (append-nil text) (t.text_is ∙ rw idle.1);
            side0 = rw (records, idle.0, none_fed 0 (drop 5 left)) (rw (idle.0, none_fed 0 left) at t.side0);
            side1 = rw (records, idle.0, none_fed 1 (drop 5 left)) (rw (idle.0, none_fed 1 left) at t.side1);
          };
          stops = goes_on_lem;
        }

  -- ---- a record

  -- the side of a direction
  side_of : (e : ℕ) → e ≤ 1 → Side limit (prefix_of e) (heard_of e past ++ fed_in e s.fed left) (reader_of e s)
  side_of e low =
      either_way (eqb e 0) (λ z. rw (z, eqb-true e 0 z) t.side0)
      (λ z. rw (z, one_is e low (eqb-false e 0 z)) t.side1)
    where
      one_is : (e : ℕ) → e ≤ 1 → e ≢ 0 → e ≡ 1
      one_is e low other = omega (arith, other)

  module _ (e : (next_of s.place w).row.number ≡ 1) (room : ℕ) where
    abbrev said_of : RecordSaid s.place w
    said_of = (next_says s.place w).record_said e

    abbrev d : ℕ
    d = direction_of w

    abbrev payload : List ℕ
    payload = payload_of w

    abbrev raw : List ℕ
    raw = take (size_of w) w

    abbrev run : Run Reader
    run = record_run limit d s w room

    low : d ≤ 1
    low = rw (← raw_same.direction) at said_of.is_record.direction
      where
        raw_same : SameRecord w raw
        raw_same = taken_record w said_of.is_record

    -- the same record is at the front of all that is left
    left_same : SameRecord left w
    left_same = subst (λ (l : List ℕ). SameRecord l w) (sym front) (same_record w rest said_of.within)

    -- its bytes that are fed
    own_fed : (fed : ℕ) → fed_in d fed left ≡ take fed payload
    own_fed fed = rw (left_same.direction, eq-eqb d d refl, left_same.payload)

    other_fed : (k fed : ℕ) → d ≢ k → fed_in k fed left ≡ []
    other_fed k fed h = rw (left_same.direction, ne_eqb d k h)

    own : Side limit (prefix_of d) (heard_of d past ++ take s.fed payload) (reader_of d s)
    own = rw (own_fed s.fed) at (side_of d low)

    fed : Fed limit small (prefix_of d) (heard_of d past ++ take s.fed payload) (drop s.fed payload) run
    fed = feed_side limit small (prefix_of d) _ (drop s.fed payload) (reader_of d s) room own

    -- what is told of the record before
    told_before : Adds limit (heard_of d past) (take s.fed payload) t.new
    told_before = go t.within
      where
        go : Within limit past s left t.new → Adds limit (heard_of d past) (take s.fed payload) t.new
        go (inl h) =
            rw (h.0, h.1) (adds_none limit small (rw (h.0, append-nil (heard_of d past)) at own))
        go (inr h) = rw (left_same.direction, left_same.payload) at h.1

    -- and then
    abbrev bytes : List ℕ
    bytes = take s.fed payload ++ take run.used (drop s.fed payload)

    abbrev new : List Decision
    new = t.new ++ fed.new

    told_of : Adds limit (heard_of d past) bytes new
    told_of = adds_join told_before fed.adds

    told_text : text ++ run.text ≡ printed_text t.lines ++ decisions_text (prefix_of d) new
    told_text =
        let lines : List ℕ = printed_text t.lines in
        let early : List ℕ = decisions_text (prefix_of d) t.new in
        let late : List ℕ = decisions_text (prefix_of d) fed.new in
        let first : text ≡ lines ++ early =
        t.text_is ∙ ap (λ (k : ℕ). lines ++ decisions_text (prefix_of k) t.new) left_same.direction in
        ap (λ (l : List ℕ). l ++ run.text) first
        ∙ (ap (λ (l : List ℕ). (lines ++ early) ++ l) fed.text_is
        ∙ (append_assoc lines early late
        ∙ ap (λ (l : List ℕ). lines ++ l) (sym (lines_joined (prefix_of d) t.new fed.new))))

    -- the bytes of each direction, where those of the record are told so far
    abbrev after : ℕ → List ℕ
    after k = cond (eqb d k) (heard_of d past ++ bytes) (heard_of k past ++ fed_in k s.fed left)

    both : (place n : ℕ) → Both limit d place n run.state s (heard_of d past ++ bytes)
        (heard_of 0 past ++ fed_in 0 s.fed left) (heard_of 1 past ++ fed_in 1 s.fed left)
    both place n =
        both_sides limit d place n run.state s _ _ _ low
        (rw (append_assoc (heard_of d past) (take s.fed payload) (take run.used (drop s.fed payload))) at fed.side)
        t.side0 t.side1

    -- the record is taken from what is left
    raw_left : left ≡ raw ++ drop (size_of w) left
    raw_left =
        sym (take-append-drop (size_of w) left)
        ∙ ap (λ (l : List ℕ). l ++ drop (size_of w) left)
        (ap (λ (l : List ℕ). take (size_of w) l) front ∙ take-append-le (size_of w) w rest said_of.within)

    record_split : SplitAt capture past left
        → (capture ≡ head ++ (joined (past ++ raw ∷ []) ++ drop (size_of w) left)) × AllRecords (past ++ raw ∷ [])
    record_split (inl h) = absurd (omega (arith, said_of.after_head, t.size_is, ap length h.1))
    record_split (inr h) = (
      h.0
          ∙ ap (λ (l : List ℕ). head ++ l) (ap (λ (l : List ℕ). joined past ++ l) raw_left
          ∙ (sym (append_assoc (joined past) raw (drop (size_of w) left))
          ∙ ap (λ (l : List ℕ). l ++ drop (size_of w) left) (sym (joined_more past raw)))),
      all_more past raw h.1 said_of.is_record,
    )

    payload_within : length payload + 7 ≤ size_of w
    payload_within = omega (arith, length-take (payload_size_of w) (drop 7 w))

    -- some of it is told
    partly : Stepped limit capture left text w (record {
      state = with_reader d run.state s.place (s.fed + run.used) s;
      used = 0;
      text = run.text;
      stop = run.stop;
    })
    partly =
        let all : bytes ≡ take (s.fed + run.used) payload = sym (take-add s.fed run.used payload) in
        let heard : (k : ℕ) → heard_of k past ++ fed_in k (s.fed + run.used) left ≡ after k =
        λ k. either_way (eqb d k)
        (λ z. let same : d ≡ k = eqb-true d k z in
        rw (z, ← same) (rw (own_fed (s.fed + run.used), all)))
        (λ z. let other = eqb-false d k z in
        rw (z, other_fed k (s.fed + run.used) other, other_fed k s.fed other)) in
        let next : (next_of s.place left).row.number ≡ 1 =
        ap (λ (y : Outcome ℕ). y.row.number)
        (same_next (λ h. absurd (omega (arith, e, ap (λ (r : Row). r.number) h)))) ∙ e in
        record {
          within = omega arith;
          told = record {
            windows = t.windows;
            are = t.are;
            place_is = t.place_is;
            left_is = t.left_is;
            size_is = t.size_is;
            at = t.at;
            split = t.split;
            heard = t.heard;
            lines = t.lines;
            are_lines = t.are_lines;
            new = new;
            within = inr (next, rw (left_same.direction, left_same.payload, ← all) told_of);
            text_is = rw left_same.direction told_text;
            side0 = rw (heard 0) (both s.place (s.fed + run.used)).side0;
            side1 = rw (heard 1) (both s.place (s.fed + run.used)).side1;
          };
          stops = record {
            never_state = stops.never_state;
            never_used = λ z. omega (arith, stops.used_late z, whole);
          };
        }
      where
        stops : ListStops (heard_of d past ++ take s.fed payload) (drop s.fed payload) run
        stops = side_stops limit small (prefix_of d) _ (drop s.fed payload) (reader_of d s) room own

        -- no more bytes than the capture has
        whole : length (heard_of d past ++ take s.fed payload) + length (drop s.fed payload) ≤ 4611686018427387904
        whole =
            omega (
              arith,
              length-append (heard_of d past) (take s.fed payload),
              length-append (take s.fed payload) (drop s.fed payload),
              ap length (take-append-drop s.fed payload),
              payload_within,
              t.heard d,
              t.size_is,
              ap length front,
              length-append w rest,
              said_of.within,
            )

    -- all of it is told
    finished : run.stop ≡ 0 → Stepped limit capture left text w (record {
      state = with_reader d run.state (s.place + size_of w) 0 s;
      used = size_of w;
      text = run.text;
      stop = goes_on;
    })
    unfolding decisions_text
    finished done =
        let whole : bytes ≡ payload =
        ap (λ (l : List ℕ). take s.fed payload ++ l)
        (take_all run.used (drop s.fed payload)
        (omega (arith, (loop_lists limit (prefix_of d) (reader_of d s) (drop s.fed payload) room).done done)))
        ∙ take-append-drop s.fed payload in
        let raw_same : SameRecord w raw = taken_record w said_of.is_record in
        let at : next_of (place_by 0 t.windows) w
        ≡ outcome (row 1 (size_of w ∷ d ∷ milliseconds_of w ∷ [])) (s.place + size_of w) =
        ap (λ (p : ℕ). next_of p w) t.place_is ∙ said_of.answer in
        let records : records_by 0 (t.windows ++ w ∷ []) ≡ past ++ raw ∷ [] =
        records_more 0 t.windows w
        ∙ ap (λ (y : Outcome ℕ). past ++ add_record y.row w []) at in
        let gone : List ℕ = drop (size_of w) left in
        let heard : (k : ℕ) → heard_of k (past ++ raw ∷ []) ++ fed_in k 0 gone ≡ after k =
        λ k. rw (heard_more k past raw, none_fed k gone, append-nil, ← raw_same.direction, ← raw_same.payload)
        (either_way (eqb d k)
        (λ z. let same : d ≡ k = eqb-true d k z in rw (z, ← same, whole))
        (λ z. let other = eqb-false d k z in rw (z, other_fed k s.fed other))) in
        let adds : Adds limit (heard_of (direction_of raw) past) (payload_of raw) new =
        rw (← raw_same.direction, ← raw_same.payload) (rw whole at told_of) in
        record {
          within = said_of.within;
          told = record {
            windows = t.windows ++ w ∷ [];
            are = windows_more 0 capture t.windows w rest t.are (t.left_is ∙ front);
            place_is = place_more 0 t.windows w ∙ ap (λ (y : Outcome ℕ). y.state) at;
            left_is = left_more 0 capture t.windows w
                ∙ (ap (λ (y : Outcome ℕ). drop (count_of y.row) (left_by 0 capture t.windows)) at
                ∙ ap (λ (l : List ℕ). drop (size_of w) l) t.left_is);
            size_is = omega (
              arith,
              t.size_is,
              length-drop (size_of w) left,
              said_of.within,
              ap length front,
              length-append w rest,
            );
            at = inr (omega (arith, said_of.after_head));
            split = rw records (inr (record_split t.split));
            heard = λ k. rw (records, heard_more k past raw) (omega (
              arith,
              length-append (heard_of k past) (cond (eqb (direction_of raw) k) (payload_of raw) []),
              t.heard k,
              picked_size (eqb (direction_of raw) k) (payload_of raw),
              ap length raw_same.payload,
              payload_within,
            ));
            lines = t.lines ++ lines_of (direction_of raw) new;
            are_lines = rw records (lines_more limit [] past t.lines raw new t.are_lines adds);
            new = [];
            within = inl (refl, refl);
            text_is = told_text
                ∙ sym (ap (λ (l : List ℕ). l ++ []) (printed_both t.lines (lines_of (direction_of raw) new)
                ∙ ap (λ (l : List ℕ). printed_text t.lines ++ l) (lines_text raw_same))
                ∙ append-nil (printed_text t.lines ++ decisions_text (prefix_of d) new));
            side0 = rw (records, heard 0) (both (s.place + size_of w) 0).side0;
            side1 = rw (records, heard 1) (both (s.place + size_of w) 0).side1;
          };
          stops = goes_on_lem;
        }
      where
        picked_size : (b : Bool) (l : List ℕ) → length (cond b l []) ≤ length l
        picked_size true l = omega arith
        picked_size false l = omega arith

        lines_text : SameRecord w raw → printed_text (lines_of (direction_of raw) new)
            ≡ decisions_text (prefix_of d) new
        lines_text same =
            lines_of_text (direction_of raw) new ∙ ap (λ (k : ℕ). decisions_text (prefix_of k) new) (sym same.direction)

  -- ---- any step

  stepped : (room : ℕ) → Stepped limit capture left text w (step_of limit s w room)
  stepped room =
      let y : Outcome ℕ = next_of s.place w in
      either_way (eqb y.row.number 0)
      (λ z. either_way (eqb (get_or y.row.values 0 0) 0)
      (λ v. rw (z, v) (stays 0 done_stops))
      (λ v.
      let some : 1 ≤ get_or y.row.values 0 0 = omega (arith, eqb-false (get_or y.row.values 0 0) 0 v) in
      let zero : y.row.number ≡ 0 = eqb-true y.row.number 0 z in
      subst (λ (q : Outcome ℕ). Stepped limit capture left text w (step_in limit q s w room))
      (sym (said zero some).2) (head_stepped zero some)))
      (λ z. either_way (eqb y.row.number 1)
      (λ o.
      let one : y.row.number ≡ 1 = eqb-true y.row.number 1 o in
      subst (λ (q : Outcome ℕ). Stepped limit capture left text w (step_in limit q s w room))
      (sym (said_of one room).answer)
      (by_test (Stepped limit capture left text w) (eqb (record_run limit (direction_of w) s w room).stop 0)
      (λ f. finished one room (eqb-true _ 0 f)) (λ f. partly one room)))
      (λ o. rw (z, o) (stays y.row.number next_stops)))

-- ---- a run of steps, a call, and turns

module _ (limit : ℕ) (small : limit ≤ widest) (capture : List ℕ) (size : length capture ≤ 4611686018427387904) where
  -- two runs, one after the other
  stepped_both : (left text w : List ℕ) (count : ℕ) (line : List ℕ) (run : Run State) → count ≤ length w
      → Stepped limit capture (drop count left) (text ++ line) (drop count w) run
      → Stepped limit capture left text w (onward count line run)
  stepped_both left text w count line run h later =
      record {
        within = omega (arith, later.within, length-drop count w);
        told = rw (drop-drop, append_assoc) at later.told;
        stops = later.stops;
      }

  played : (n : ℕ) (s : State) (left text w rest : List ℕ) (room : ℕ)
      → Told limit capture s left text → left ≡ w ++ rest
      → Stepped limit capture left text w (play_in limit n s w room)
  unfolding play_in
  played zero s left text w rest room t front =
      record { within = omega arith; told = rw (append-nil text) t; stops = done_stops }
  played (suc n) s left text w rest room t front =
      let step : Run State = step_of limit s w room in
      let first = stepped limit small capture size s left text t w rest front room in
      by_test (Stepped limit capture left text w) (eqb step.stop goes_on)
      (λ _. stepped_both left text w step.used step.text _ first.within
      (played n step.state (drop step.used left) (text ++ step.text) (drop step.used w) rest
      (room - length step.text) first.told
      (ap (λ (l : List ℕ). drop step.used l) front ∙ drop-append-le step.used w rest first.within)))
      (λ _. first)

  -- the replay is in range
  pub is_in_range : (s : State) (left text : List ℕ) → Told limit capture s left text → in_range_of limit s ≡ true
  is_in_range s left text t =
      rw (cursor t.at, side_range limit small t.side0, side_range limit small t.side1)
    where
      cursor : (s.place ≡ 0) ⊎ (5 ≤ s.place) → cursor_in_range s.place ≡ true
      cursor (inl h) = rw (eq-eqb s.place 0 h)
      cursor (inr h) =
          rw (
            ne_eqb s.place 0 (λ e. omega arith),
            le-leb 5 s.place h,
            le-leb s.place (2 ^ 62) (omega (arith, t.size_is)),
          )

  -- a call of `play`
  pub told_more : (s : State) (left text w rest : List ℕ) (room : ℕ)
      → Told limit capture s left text → left ≡ w ++ rest
      → Stepped limit capture left text w (play_of limit s w room)
  told_more s left text w rest room t front =
      rw (is_in_range s left text t) (played (suc (length w)) s left text w rest room t front)

  -- turns
  pub told_turns : (turns : List Turn) (s : State) (left text : List ℕ)
      → Told limit capture s left text → TurnWindows limit s left turns
      → Told limit capture (state_by limit s turns) (turns_left limit s left turns) (text ++ text_by limit s turns)
  unfolding state_by text_by turns_left TurnWindows
  told_turns [] s left text t a = rw (append-nil text) t
  told_turns (u ∷ us) s left text t a =
      let run : Run State = play_of limit s u.window u.room in
      let first = told_more s left text u.window a.0.0 u.room t a.0.1 in
      rw append_assoc at (told_turns us run.state (drop run.used left) (text ++ run.text) first.told a.1)
