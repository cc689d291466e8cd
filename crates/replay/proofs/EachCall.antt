-- What each call answers and leaves. Assumes nothing.
use Prim.Native.Nat.{ℕ, suc, ◌+◌, ◌≤◌}
use mathlib.Core.Path.{◌≡◌, refl, sym, ap, ◌∙◌}
use mathlib.Core.Bool.{true, false, cond, true≢false}
use mathlib.Core.Logic.{◌≢◌}
use mathlib.Core.List.{List, [], ◌∷◌}
use native.Mathlib.Omega.{arith, min_cases}
use borrow.Author.Tests.{ne_eqb, eqb-false, le-ltb, lt-ltb, ltb-false}
use lib.ListN.{length, take, drop_of_length-le, length-take, length-drop}
use lib.Seq.{get_or-take, get_or-drop, length-take-le, take_all}
use lib.Dec.{eqb, ltb}
use Rattle.std.specs.Prelude.{Result, Ok, Err}
use Rattle.base.specs.Keys.{among}
use Rattle.base.specs.Outcomes.{Outcome, Output, output, rowed}
use Rattle.base.specs.Rows.{Row, row}
use Rattle.base.specs.declared.writes.WriteError.TheVariants as unwritten
use Rattle.base.proofs.Asking.{asks_never, asks_either, asks_by}
use Rattle.base.proofs.Rows.{injective_by, under, value}
use Rattle.base.proofs.Tests.{by_test, either_way}
use Rattle.base.proofs.WritesExact.{unwritten_from}
use Rattle.frame.specs.Wire.{frame_limit}
use Rattle.frame.specs.declared.reader.Reader.{Reader as CodeReader}
use Rattle.frame.proofs.Injective.{states_injective as readers-injective}
use Rattle.listing.specs.Lines.{refusal_text}
use Rattle.capture.specs.Reading.{end_in, end_of, in_range_of as cursor_in_range}
use Rattle.capture.specs.declared.reading.Refusal.{Refusal}
use Rattle.capture.specs.declared.reading.Refusal.TheVariants as refusal
use Rattle.replay.specs.Closing.{end_lines, closing_text, closing_row, closed}
use Rattle.replay.specs.State.{State, in_range_of}
use Rattle.replay.specs.Table.{closing_row_of}
use Rattle.replay.specs.EachCall.{StatesInjective, RowsInjective, StopNumbers, LeftFieldsAlways}
use Rattle.replay.specs.EachCall.{ReplayRanges, PlayStops, PlayStopsAlways}
use Rattle.replay.specs.EachCall.{ClosesExactlyAlways, KeepsExactlyAlways, AllNamedStates, AllAnswerRows}
use Rattle.replay.specs.EachCall.{ClosingWhole, FinishAsked, NoPayload}
use Rattle.replay.specs.declared.closing.CloseError.{CloseError}
use Rattle.replay.specs.declared.closing.CloseError.TheVariants as error
use Rattle.replay.specs.declared.closing.Closing.{Closing}
use Rattle.replay.specs.declared.closing.Closing.TheVariants as closing
use Rattle.replay.specs.declared.state.Replay.{Replay}
use Rattle.replay.proofs.NextAnswers.{next_cases, replay_outside, replay_inside, each_inside}
use Rattle.replay.proofs.StopLaws.{loop_stops}
use Rattle.replay.proofs.RangeLaws.{loop_goes}

pub named_states : AllNamedStates
named_states r s q place fed =
    record {
      place_is = refl;
      fed_is = refl;
      from_module_is = refl;
      from_box_is = refl;
      fresh = refl;
      reader_of_0 = refl;
      reader_of_1 = refl;
      with_0 = refl;
      with_1 = refl;
    }

pub answer_rows : AllAnswerRows
answer_rows count place =
    record {
      more = refl;
      whole = refl;
      mark = refl;
      version = refl;
      direction = refl;
      ended = refl;
      payload = refl;
      room = refl;
      state = refl;
      used = refl;
    }

-- ---- states_injective

-- of its four fields
abbrev replay_from : ℕ → ℕ → CodeReader → CodeReader → Replay
replay_from place fed first second =
    record {
      cursor = record { place = place };
      fed = fed;
      from_module = first;
      from_box = second;
    }

pub states_injective : StatesInjective
states_injective a b e =
    let place : a.cursor.place ≡ b.cursor.place = ap (λ (s : State). s.place) e in
    let fed : a.fed ≡ b.fed = ap (λ (s : State). s.fed) e in
    let first : a.from_module ≡ b.from_module =
    readers-injective a.from_module b.from_module (ap (λ (s : State). s.reader0) e) in
    let second : a.from_box ≡ b.from_box =
    readers-injective a.from_box b.from_box (ap (λ (s : State). s.reader1) e) in
    let whole : replay_from a.cursor.place a.fed a.from_module a.from_box
    ≡ replay_from b.cursor.place b.fed b.from_module b.from_box = cc in
    whole

-- ---- rows_injective

abbrev refusal_from : Row → Refusal
refusal_from r =
    under r 51 refusal.Mark (under r 52 refusal.Version (under r 53 refusal.Direction refusal.Ended))

abbrev closing_from : Row → Result Closing CloseError
closing_from r =
    under r 0 (Ok closing.More) (under r 2 (Ok (closing.Whole (value r 0))) (under r 17 (Err error.State)
    (under r 18 (Err error.Used)
    (cond (ltb 50 r.number) (Ok (closing.Refused (value r 0) (refusal_from r) (value r 1)))
    (Err (error.Unwritten (unwritten_from r)))))))

closing_back : (a : Result Closing CloseError) → closing_from (closing_row_of a) ≡ a
closing_back (Ok closing.More) = refl
closing_back (Ok (closing.Whole count)) = refl
closing_back (Ok (closing.Refused count refusal.Mark place)) = refl
closing_back (Ok (closing.Refused count refusal.Version place)) = refl
closing_back (Ok (closing.Refused count refusal.Direction place)) = refl
closing_back (Ok (closing.Refused count refusal.Ended place)) = refl
closing_back (Err (error.Unwritten unwritten.Payload)) = refl
closing_back (Err (error.Unwritten (unwritten.Room needed))) = refl
closing_back (Err error.State) = refl
closing_back (Err error.Used) = refl

pub rows_injective : RowsInjective
rows_injective = injective_by closing_row_of closing_from closing_back

-- ---- stop_numbers_lem and left_fields

pub stop_numbers_lem : StopNumbers
stop_numbers_lem =
    record {
      done = refl;
      room = refl;
      state = refl;
      used = refl;
      mark = refl;
      version = refl;
      direction = refl;
      ended = refl;
    }

pub left_fields : LeftFieldsAlways
left_fields l after = record { state = refl; used = refl; written = refl; stop = refl; out = refl }

-- ---- replay_ranges

-- the end of a capture is never STATE for a cursor in range
end_goes : (place : ℕ) (b : List ℕ) → cursor_in_range place ≡ true → (end_of place b).number ≢ 17
end_goes place b i =
    let Goes : Row → Type 0 = λ (r : Row). r.number ≢ 17 in
    next_cases place b (λ (y : Outcome ℕ). Goes (end_in y.row place b))
    (λ o. absurd (true≢false (sym i ∙ o)))
    (λ z. omega arith)
    (λ z. omega arith)
    (λ z. omega arith)
    (λ z. omega arith)
    (λ p. by_test Goes (eqb place 0) (λ e. by_test Goes (ltb (length b) 3) (λ f z. omega arith) (λ f z. omega arith))
    (λ e. by_test Goes (eqb (length b) 0) (λ f z. omega arith) (λ f z. omega arith)))
    (λ e h z. omega arith)
    (λ low fits h z. omega arith)

-- a number other than 2 is the answer's only where it is the end's
closing_goes : (n : ℕ) → n ≢ 2 → (end : Row) (count : ℕ) → end.number ≢ n → (closing_row end count).number ≢ n
closing_goes n other end count h =
    by_test (λ (r : Row). r.number ≢ n) (eqb end.number 2) (λ e z. other (sym z))
    (λ e. by_test (λ (r : Row). r.number ≢ n) (ltb 50 end.number) (λ f. h) (λ f. h))

pub replay_ranges : ReplayRanges
replay_ranges s b out room =
    record {
      played = λ o. rw (replay_outside s o);
      played_only = λ k. rw (replay_inside s k) (loop_goes (suc (length b)) s b room (each_inside s k));
      closed = λ o. rw (replay_outside s o);
      closed_only = λ k. rw (replay_inside s k)
          (by_test (λ (w : Output). (rowed (closing_row (end_of s.place b)) w).row.number ≢ 17)
          (ltb (length out) (length (closing_text frame_limit s (end_of s.place b))))
          (λ e z. omega arith)
          (λ e. closing_goes 17 (λ z. omega arith) (end_of s.place b) _
          (end_goes s.place b (each_inside s k).cursor)));
    }

-- ---- play_stops

pub play_stops : PlayStopsAlways
unfolding among
play_stops limit s b room =
    by_test (PlayStops s b room) (in_range_of limit s) (λ i. loop_stops limit s b room)
    (λ i. record {
      within = omega arith;
      moves = omega arith;
      stops = refl;
      done = λ z. absurd (omega arith);
      room_left = λ z. absurd (omega arith);
      used = λ z. absurd (omega arith);
      refused = λ z. absurd (omega arith);
    })

-- ---- closes_exactly

pub closes_exactly : ClosesExactlyAlways
closes_exactly s b out k =
    let i : in_range_of frame_limit s ≡ true = replay_inside s k in
    let lines : ℕ = length (end_lines frame_limit s) in
    record {
      whole = λ place e h. rw (i, e, le-ltb (length out) lines h);
      whole_room = λ place e h. rw (i, e, lt-ltb (length out) lines h);
      refused = λ number place e g h.
          rw (
            i,
            e,
            ne_eqb number 2 (λ z. omega arith),
            lt-ltb 50 number g,
            le-ltb (length out) (length (refusal_text number place)) h,
          );
      refused_room = λ number place e g h.
          rw (
            i,
            e,
            ne_eqb number 2 (λ z. omega arith),
            lt-ltb 50 number g,
            lt-ltb (length out) (length (refusal_text number place)) h,
          );
      more = λ e. rw (i, e, le-ltb (length out) 0 (omega arith));
      used = λ e. rw (i, e, le-ltb (length out) 0 (omega arith));
    }

-- ---- finish_asked and no_payload

-- the numbers of a capture's end
abbrev end_numbers : List ℕ
end_numbers = 0 ∷ 2 ∷ 17 ∷ 18 ∷ 51 ∷ 52 ∷ 53 ∷ 54 ∷ []

-- an end has one of them, and no count where it has no text
abbrev EndSays : Row → Type 0
EndSays r = (among r.number end_numbers ≡ true) × (r.number ≢ 2 → r.number ≤ 50 → value r 0 ≡ 0)

end_says : (place : ℕ) (b : List ℕ) → EndSays (end_of place b)
unfolding among
end_says place b =
    next_cases place b (λ (y : Outcome ℕ). EndSays (end_in y.row place b))
    (λ o. (refl, λ n h. refl))
    (refl, λ n h. refl)
    (refl, λ n h. refl)
    (refl, λ n h. absurd (omega arith))
    (refl, λ n h. absurd (omega arith))
    (λ p. by_test EndSays (eqb place 0)
    (λ e. by_test EndSays (ltb (length b) 3) (λ f. (refl, λ n h. refl)) (λ f. (refl, λ n h. absurd (omega arith))))
    (λ e. by_test EndSays (eqb (length b) 0) (λ f. (refl, λ n h. absurd (n refl)))
    (λ f. (refl, λ n h. absurd (omega arith)))))
    (λ e h. (refl, λ n g. refl))
    (λ low fits h. (refl, λ n g. refl))

-- no answer of a written text has another number
closing_known : (place : ℕ) (b : List ℕ) (n : ℕ) → among n end_numbers ≡ false → (count : ℕ)
    → (closing_row (end_of place b) count).number ≢ n
unfolding among
closing_known place b n none count =
    closing_goes n (λ e. true≢false (sym (ap (λ (k : ℕ). among k end_numbers) e) ∙ none)) (end_of place b) count
    (λ e. true≢false (sym (end_says place b).0 ∙ ap (λ (k : ℕ). among k end_numbers) e ∙ none))

-- where its text is written, the first value of the answer is the text's length
counted : (limit : ℕ) (s : State) (end : Row) → EndSays end
    → value (closing_row end (length (closing_text limit s end))) 0 ≡ length (closing_text limit s end)
counted limit s end says =
    either_way (eqb end.number 2) (λ e. rw e)
    (λ e. either_way (ltb 50 end.number) (λ f. rw (e, f))
    (λ f. rw (e, f) (says.1 (eqb-false end.number 2 e) (ltb-false 50 end.number f))))

pub finish_asked : FinishAsked
unfolding among
finish_asked limit s b =
    let end : Row = end_of s.place b in
    let text = closing_text limit s end in
    asks_either (λ (w : Output). w.row) (in_range_of limit s) (λ out. closed end text out)
    (λ out. output (row 17 (0 ∷ [])) out)
    (asks_by text (λ out. (closed end text out).row) (closing_row end (length text))
    (λ out h. rw (lt-ltb (length out) (length text) h)) (λ out h. rw (le-ltb (length out) (length text) h))
    (closing_known s.place b 22 refl _) (counted limit s end (end_says s.place b)))
    (asks_never (row 17 (0 ∷ [])) (λ e. omega arith))

pub no_payload : NoPayload
unfolding among
no_payload limit s b out =
    by_test (λ (w : Output). w.row.number ≢ 21) (in_range_of limit s)
    (λ i. by_test (λ (w : Output). (rowed (closing_row (end_of s.place b)) w).row.number ≢ 21)
    (ltb (length out) (length (closing_text limit s (end_of s.place b)))) (λ e z. omega arith)
    (λ e. closing_known s.place b 21 refl _))
    (λ i z. omega arith)

-- ---- keeps_exactly

pub keeps_exactly : KeepsExactlyAlways
keeps_exactly start end b =
    let cut : end ≤ length b → length (take end b) ≡ end = λ h. length-take-le end b h in
    record {
      count = λ h g. omega (arith, length-drop start (take end b), cut g);
      none = λ h.
          let size = length-take end b in
          let short : length (take end b) ≤ start =
          min_cases end (length b) _ (λ g e. omega (arith, size)) (λ g e. omega (arith, size)) in
          drop_of_length-le (take end b) short;
      each = λ i h g. get_or-drop start (take end b) i 0 ∙ get_or-take end b (start + i) 0 h;
      beyond = λ h. rw (take_all end b h);
    }

-- ---- closing_whole

pub closing_whole : ClosingWhole
closing_whole r after w e = (ap (λ (o : Output). o.row) e, ap (λ (o : Output). o.out) e)
