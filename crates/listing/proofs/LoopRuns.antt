-- One call of the loop. Assumes nothing.
use Prim.Native.Nat.{ℕ, zero, suc, ◌+◌, ◌-◌, ◌^◌, ◌≤◌, ◌<◌}
use mathlib.Core.Path.{◌≡◌, refl, sym, ap, ◌∙◌}
use mathlib.Core.Bool.{Bool, true, false, true≢false}
use mathlib.Core.Logic.{◌≢◌}
use mathlib.Core.List.{List, [], ◌∷◌, ◌++◌}
use native.Mathlib.Omega.{arith}
use borrow.Author.Tests.{eqb-true, eqb-false, ltb-true, leb-true, leb-false, ne_eqb}
use lib.ListN.{length, take, drop, length-append, length-drop}
use lib.Seq.{take-add, drop-drop}
use lib.Dec.{eqb, ltb, leb}
use Rattle.base.specs.Runs.{Run, stopped, onward}
use Rattle.base.specs.Rows.{row}
use Rattle.base.specs.Outcomes.{Outcome, outcome}
use Rattle.base.specs.Keys.{among}
use Rattle.frame.specs.Rules.{in_range_of, advance_of, decides_of}
use Rattle.frame.specs.State.{State, Event, Quiet, Decided}
use Rattle.frame.specs.Table.{event_row, count_of}
use Rattle.frame.specs.Calls.{next_of, run_of, feed_of}
use Rattle.frame.specs.LogsComputed.{log_of, state_after, offer}
use Rattle.frame.specs.Logs.{stream}
use Rattle.frame.proofs.EachCall.{within}
use Rattle.base.proofs.Tests.{by_test, either_way, both}
use Rattle.listing.specs.Lines.{line_room}
use Rattle.listing.specs.CallTexts.{feed_text}
use Rattle.listing.specs.Feeding.{full, refuses, line_after, list_in}
use Rattle.listing.specs.LoopRuns.{StopNumbers, LeftFieldsAlways, RunOfFeeds, LoopLists}
use Rattle.listing.specs.LoopRuns.{StateFirst, LoopProgress}
use Rattle.listing.proofs.LoopLaws.{verdict_continues, nonzero, consumes_one, step_refused, step_onward}

pub stop_numbers_lem : StopNumbers
stop_numbers_lem = record { done = refl; room = refl; state = refl; used = refl }

pub left_fields : LeftFieldsAlways
left_fields l after = record { state = refl; used = refl; written = refl; stop = refl; out = refl }

-- ---- what a refused feed leaves

-- a byte that is consumed refuses nothing
event_continues : (e : Event) (n s p : ℕ) → refuses (event_row e n s p).number ≡ false
event_continues Quiet n s p = refl
event_continues (Decided v) n s p = verdict_continues v

pub run_continues : (limit : ℕ) (bs : List ℕ) (n : ℕ) (r : State) → refuses (run_of limit bs n r).row.number ≡ false
unfolding run_of
run_continues limit [] n r = refl
run_continues limit (x ∷ xs) n r =
    by_test (λ (y : Outcome State). refuses y.row.number ≡ false) (decides_of (advance_of limit r.scan x).event)
    (λ d. event_continues (advance_of limit r.scan x).event (n + 1) r.scan.start
    (next_of limit r x).scan.consumed)
    (λ d. run_continues limit xs (n + 1) (next_of limit r x))

-- STATE and USED count nothing and leave the reader as it was
refused_kept : (limit : ℕ) (r : State) (bs : List ℕ)
    → refuses (feed_of limit r bs).row.number ≡ true
    → feed_of limit r bs ≡ outcome (row (feed_of limit r bs).row.number (0 ∷ [])) r
refused_kept limit r bs =
    by_test (λ (y : Outcome State). refuses y.row.number ≡ true → y ≡ outcome (row y.row.number (0 ∷ [])) r)
    (in_range_of limit r.scan)
    (λ a. by_test
    (λ (y : Outcome State). refuses y.row.number ≡ true → y ≡ outcome (row y.row.number (0 ∷ [])) r)
    (leb (r.scan.consumed + length bs) (2 ^ 62))
    (λ b f. absurd (true≢false (sym f ∙ run_continues limit bs 0 r))) (λ b f. refl))
    (λ a f. refl)

-- a feed of a reader in range is refused for USED alone, and only past 2^62
refused_late : (limit : ℕ) (s : State) (bs : List ℕ) (n : ℕ) → in_range_of limit s.scan ≡ true → refuses n ≡ true
    → (feed_of limit s bs).row.number ≡ n → (n ≢ 17) × (2 ^ 62 < s.scan.consumed + length bs)
refused_late limit s bs n i f =
    rw i (either_way (leb (s.scan.consumed + length bs) (2 ^ 62))
    (λ b. rw b (λ e. absurd (true≢false (sym f ∙ (ap refuses (sym e) ∙ run_continues limit bs 0 s)))))
    (λ b. rw b (λ e. (λ z. omega (arith, e, z), leb-false _ _ b))))

-- a feed with no data is refused only where the reader is out of range
out_of_range : (limit : ℕ) (r : State)
    → refuses (feed_of limit r []).row.number ≡ true → in_range_of limit r.scan ≡ false
out_of_range limit r =
    either_way (in_range_of limit r.scan)
    (λ a f.
    let late = (refused_late limit r [] (feed_of limit r []).row.number a f refl).1 in
    absurd (omega (arith, late, leb-true r.scan.consumed (2 ^ 62) (both (leb r.scan.consumed (2 ^ 62)) a).0)))
    (λ a f. a)

-- ---- loop_lists

-- a refusal is one of the four stops
refusal_stops : (n : ℕ) → refuses n ≡ true → among n (0 ∷ 17 ∷ 18 ∷ 22 ∷ []) ≡ true
unfolding among
refusal_stops n f =
    by_test (λ (t : Bool). t ≡ true) (eqb n 0) (λ e. refl)
    (λ e. by_test (λ (t : Bool). t ≡ true) (eqb n 17) (λ g. refl)
    (λ g. by_test (λ (t : Bool). t ≡ true) (eqb n 18) (λ h. refl) (λ h. absurd (true≢false (sym f ∙ rw (g, h))))))

module _ (limit : ℕ) (prefix : List ℕ) where
  -- no feed was made, and why
  module _ (r : State) (bs : List ℕ) (room : ℕ) where
    abbrev y : Outcome State
    y = feed_of limit r bs

    none_left : length bs ≡ 0 → RunOfFeeds limit prefix r bs room (stopped r 0)
    unfolding among feed_text log_of state_after stream offer
    none_left h =
        record {
          calls = 0;
          text_is = refl;
          state_is = refl;
          consumed_is = refl;
          within = omega arith;
          stops = refl;
          done = λ e. sym h;
          room_left = λ e. absurd (omega arith);
          at_state = λ e. absurd (omega arith);
          at_used = λ e. absurd (omega arith);
        }

    no_room : 1 ≤ length bs → room < length prefix + line_room → RunOfFeeds limit prefix r bs room (full r)
    unfolding among feed_text log_of state_after stream offer
    no_room h g =
        record {
          calls = 0;
          text_is = refl;
          state_is = refl;
          consumed_is = refl;
          within = omega arith;
          stops = refl;
          done = λ e. absurd (omega arith);
          room_left = λ e. (omega arith, omega arith);
          at_state = λ e. absurd (omega arith);
          at_used = λ e. absurd (omega arith);
        }

    -- a refused feed does not count: it consumes nothing and leaves the reader as it was
    no_more : refuses y.row.number ≡ true → RunOfFeeds limit prefix r bs room (stopped y.state y.row.number)
    unfolding feed_text log_of state_after stream offer
    no_more f =
        let same : y ≡ outcome (row y.row.number (0 ∷ [])) r = refused_kept limit r bs f in
        let kept : y.state ≡ r = ap (λ (z : Outcome State). z.state) same in
        let again : (n : ℕ) → y.row.number ≡ n → (feed_of limit y.state bs).row ≡ row n (0 ∷ []) =
        λ n z. rw kept (ap (λ (w : Outcome State). w.row) same ∙ ap (λ (m : ℕ). row m (0 ∷ [])) z) in
        record {
          calls = 0;
          text_is = refl;
          state_is = kept;
          consumed_is = refl;
          within = omega arith;
          stops = refusal_stops y.row.number f;
          done = λ z. absurd (true≢false (sym f ∙ rw z));
          room_left = λ z. absurd (true≢false (sym f ∙ rw z));
          at_state = again 17;
          at_used = again 18;
        }

    -- a feed more
    one_more : (run : Run State)
        → RunOfFeeds limit prefix y.state (drop (count_of y.row) bs) (room - length (line_after prefix y)) run
        → RunOfFeeds limit prefix r bs room (onward (count_of y.row) (line_after prefix y) run)
    unfolding feed_text log_of state_after stream offer
    one_more run l =
        let few : count_of y.row ≤ length bs = within limit r bs in
        let left = length-drop (count_of y.row) bs in
        let long = length-append (line_after prefix y) run.text in
        record {
          calls = suc l.calls;
          text_is = ap (λ (t : List ℕ). line_after prefix y ++ t) l.text_is;
          state_is = l.state_is;
          consumed_is = ap (λ (t : List ℕ). take (count_of y.row) bs ++ t) l.consumed_is
              ∙ sym (take-add (count_of y.row) run.used bs);
          within = omega (arith, l.within);
          stops = l.stops;
          done = λ z. omega (arith, l.done z);
          room_left = λ z. (omega (arith, (l.room_left z).0), omega (arith, (l.room_left z).1));
          at_state = λ z. rw drop-drop at (l.at_state z);
          at_used = λ z. rw drop-drop at (l.at_used z);
        }

  lists : (n : ℕ) (r : State) (bs : List ℕ) (room : ℕ)
      → length bs ≤ n → RunOfFeeds limit prefix r bs room (list_in limit prefix n r bs room)
  unfolding list_in
  lists zero r bs room h = none_left r bs room (omega arith)
  lists (suc n) r bs room h =
      by_test (RunOfFeeds limit prefix r bs room) (eqb (length bs) 0)
      (λ e. none_left r bs room (eqb-true (length bs) 0 e))
      (λ e.
      let some : 1 ≤ length bs = nonzero (length bs) (eqb-false (length bs) 0 e) in
      by_test (RunOfFeeds limit prefix r bs room) (ltb room (length prefix + line_room))
      (λ f. no_room r bs room some (ltb-true room (length prefix + line_room) f))
      (λ f. by_test (RunOfFeeds limit prefix r bs room) (refuses (feed_of limit r bs).row.number)
      (λ g. no_more r bs room g)
      (λ g.
      let fewer : length (drop (count_of (feed_of limit r bs).row) bs) ≤ n =
      omega (arith, length-drop (count_of (feed_of limit r bs).row) bs, consumes_one limit r bs g some) in
      one_more r bs room _
      (lists n (feed_of limit r bs).state (drop (count_of (feed_of limit r bs).row) bs)
      (room - length (line_after prefix (feed_of limit r bs))) fewer))))

pub loop_lists : LoopLists
loop_lists limit prefix r bytes room =
    by_test (RunOfFeeds limit prefix r bytes room) (refuses (feed_of limit r []).row.number)
    (λ f. let a = out_of_range limit r f in rw a (rw a at (no_more limit prefix r bytes room (rw a))))
    (λ f. lists limit prefix (length bytes) r bytes room (omega arith))

-- ---- state_first

pub state_first : StateFirst
state_first limit prefix r bytes room =
    either_way (in_range_of limit r.scan)
    (λ a e. absurd ((refused_late limit r bytes 17 a refl e).0 refl))
    (λ a e. rw a)

-- ---- loop_progress

pub loop_progress : LoopProgress
loop_progress limit prefix r bytes room some h =
    either_way (refuses (feed_of limit r []).row.number)
    (λ e. rw e (λ g k. absurd (true≢false (sym e ∙ rw (ne_eqb _ 17 g, ne_eqb _ 18 k)))))
    (λ e. rw e (either_way (refuses (feed_of limit r bytes).row.number)
    (λ f. rw (step_refused limit prefix r bytes room some h (feed_of limit r bytes) refl f)
    (λ g k. absurd (true≢false (sym f ∙ rw (ne_eqb _ 17 g, ne_eqb _ 18 k)))))
    (λ f. rw (step_onward limit prefix r bytes room some h (feed_of limit r bytes) refl f)
    (λ g k. omega (arith, consumes_one limit r bytes f some)))))
