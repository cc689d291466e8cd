-- Laws of the loop over bytes: its steps, and its invariant. Assumes nothing.
use Prim.Native.Nat.{ℕ, zero, suc, ◌+◌, ◌-◌, ◌^◌, ◌≤◌, ◌<◌}
use mathlib.Core.Path.{◌≡◌, refl, ap, ◌∙◌}
use mathlib.Core.Bool.{true, false, true≢false}
use mathlib.Core.Logic.{◌≢◌}
use mathlib.Core.List.{List, []}
use native.Mathlib.Nat.{sub-zero}
use native.Mathlib.Omega.{arith}
use borrow.Author.Tests.{eq-eqb, ne_eqb, lt-ltb, le-ltb, leb-true, eqb-false}
use lib.ListN.{length, take, drop, length-drop}
use lib.Seq.{sets, length-sets, drop-drop, take_all}
use lib.Dec.{eqb, ltb, leb}
use Rattle.base.specs.Runs.{Run, stopped, onward, left_by}
use Rattle.base.specs.Outcomes.{Outcome}
use Rattle.base.specs.Stores.{PutAt}
use Rattle.frame.specs.Rules.{in_range_of}
use Rattle.frame.specs.State.{State}
use Rattle.frame.specs.Table.{verdict_number, decision_row, row_of, count_of}
use Rattle.frame.specs.Calls.{feed_of, run_of}
use Rattle.frame.specs.declared.reader.Decision.{Decision}
use Rattle.frame.specs.declared.reader.Fed.{Fed}
use Rattle.frame.specs.declared.reader.FeedError.{FeedError}
use Rattle.frame.specs.declared.reader.FeedError.TheVariants.{State as StateRefused, Used}
use Rattle.frame.specs.declared.scan.Verdict.{Verdict}
use Rattle.frame.specs.declared.scan.Verdict.TheVariants.{Frame, Short, Long, Stuff, StuffLate, Cut, Sum}
use Rattle.frame.proofs.EachCall.{within as count_most}
use Rattle.frame.proofs.EachCall.{progress}
use Rattle.std.specs.Prelude.{Option, Some, None, Ok, Err}
use Rattle.base.proofs.Tests.{by_test, either_way, cond_equal}
use Rattle.base.proofs.Runs.{Rest, rest_onward, rest_stopped}
use Rattle.listing.specs.Lines.{line_room}
use Rattle.listing.specs.Feeding.{full, refuses, line_after, list_in, loop_of, list_of}

-- no verdict on a frame refuses the call
pub verdict_continues : (v : Verdict) → refuses (verdict_number v) ≡ false
verdict_continues Frame = refl
verdict_continues Short = refl
verdict_continues Long = refl
verdict_continues (Stuff x) = refl
verdict_continues (StuffLate x) = refl
verdict_continues Cut = refl
verdict_continues (Sum f g) = refl

-- an answer that is not an error refuses nothing, and each error does
decision_continues : (n : ℕ) (d : Option Decision) → refuses (decision_row n d).number ≡ false
decision_continues n None = refl
decision_continues n (Some d) = verdict_continues d.verdict

pub fed_continues : (fed : Fed) → refuses (row_of (Ok fed)).number ≡ false
fed_continues fed = decision_continues fed.count fed.decision

decision_count : (n : ℕ) (d : Option Decision) → count_of (decision_row n d) ≡ n
decision_count n None = refl
decision_count n (Some d) = refl

pub fed_count : (fed : Fed) → count_of (row_of (Ok fed)) ≡ fed.count
fed_count fed = decision_count fed.count fed.decision

pub error_refuses : (e : FeedError) → refuses (row_of (Err e)).number ≡ true
error_refuses StateRefused = refl
error_refuses Used = refl

-- what is not 0 is at least 1
pub nonzero : (n : ℕ) → (n ≡ 0 → ⊥) → 1 ≤ n
nonzero zero f = absurd (f refl)
nonzero (suc n) f = omega arith

-- a feed that is not refused consumes a byte
pub consumes_one : (limit : ℕ) (r : State) (bs : List ℕ)
    → refuses (feed_of limit r bs).row.number ≡ false → 1 ≤ length bs → 1 ≤ count_of (feed_of limit r bs).row
consumes_one limit r bs =
    either_way (in_range_of limit r.scan)
    (λ a. either_way (leb (r.scan.consumed + length bs) (2 ^ 62))
    (λ b f h. progress limit r bs a (leb-true _ _ b) h)
    (λ b. rw (a, b) (λ f h. absurd (true≢false f))))
    (λ a. rw a (λ f h. absurd (true≢false f)))

module _ (limit : ℕ) (prefix : List ℕ) where
  -- ---- the steps of a loop, by what it meets

  -- the run of the next step, in at most n feeds
  abbrev Next : ℕ → State → List ℕ → ℕ → Run State
  Next n r bs room =
      list_in limit prefix n (feed_of limit r bs).state (drop (count_of (feed_of limit r bs).row) bs)
      (room - length (line_after prefix (feed_of limit r bs)))

  -- more feeds than are needed change nothing
  enough : (j k : ℕ) (r : State) (bs : List ℕ) (room : ℕ)
      → length bs ≤ j → length bs ≤ k → list_in limit prefix j r bs room ≡ list_in limit prefix k r bs room
  unfolding list_in
  enough zero zero r bs room h g = refl
  enough zero (suc k) r bs room h g = rw (eq-eqb (length bs) 0 (omega arith))
  enough (suc j) zero r bs room h g = rw (eq-eqb (length bs) 0 (omega arith))
  enough (suc j) (suc k) r bs room h g =
      cond_equal (eqb (length bs) 0) (λ e. refl) (λ e.
      cond_equal (ltb room (length prefix + line_room)) (λ _. refl) (λ _.
      cond_equal (refuses (feed_of limit r bs).row.number) (λ _. refl) (λ f.
      let some : 1 ≤ count_of (feed_of limit r bs).row =
      consumes_one limit r bs f (nonzero (length bs) (eqb-false (length bs) 0 e)) in
      let fewer = length-drop (count_of (feed_of limit r bs).row) bs in
      ap (λ (w : Run State). onward (count_of (feed_of limit r bs).row) (line_after prefix (feed_of limit r bs)) w)
      (enough j k (feed_of limit r bs).state (drop (count_of (feed_of limit r bs).row) bs)
      (room - length (line_after prefix (feed_of limit r bs))) (omega arith) (omega arith)))))

  module _ (r : State) (bs : List ℕ) (room : ℕ) where
    -- one feed more than there are bytes, so that the definition computes
    one_more : loop_of limit prefix r bs room ≡ list_in limit prefix (suc (length bs)) r bs room
    one_more = enough (length bs) (suc (length bs)) r bs room (omega arith) (omega arith)

    pub step_done : length bs ≡ 0 → loop_of limit prefix r bs room ≡ stopped r 0
    unfolding list_in
    step_done h = one_more ∙ rw (eq-eqb (length bs) 0 h)

    module _ (some : 1 ≤ length bs) where
      pub step_room : room < length prefix + line_room → loop_of limit prefix r bs room ≡ full r
      unfolding list_in
      step_room h =
          one_more ∙ rw (ne_eqb (length bs) 0 (λ e. omega arith), lt-ltb room (length prefix + line_room) h)

      -- with room for a line, by what the feed answers
      module _ (h : length prefix + line_room ≤ room) (y : Outcome State) (e : y ≡ feed_of limit r bs) where
        pub step_refused : refuses y.row.number ≡ true
            → loop_of limit prefix r bs room ≡ stopped y.state y.row.number
        unfolding list_in
        step_refused f =
            one_more
            ∙ rw (ne_eqb (length bs) 0 (λ z. omega arith), le-ltb room (length prefix + line_room) h, ← e, f)

        pub step_onward : refuses y.row.number ≡ false
            → loop_of limit prefix r bs room
            ≡ onward (count_of y.row) (line_after prefix y)
            (loop_of limit prefix y.state (drop (count_of y.row) bs) (room - length (line_after prefix y)))
        unfolding list_in
        step_onward f =
            let fewer : length (drop (count_of y.row) bs) ≤ length bs =
            omega (arith, length-drop (count_of y.row) bs) in
            one_more
            ∙ rw (ne_eqb (length bs) 0 (λ z. omega arith), le-ltb room (length prefix + line_room) h, ← e, f)
            (ap (λ (w : Run State). onward (count_of y.row) (line_after prefix y) w)
            (enough (length bs) (length (drop (count_of y.row) bs)) y.state (drop (count_of y.row) bs)
            (room - length (line_after prefix y)) fewer (omega arith)))

-- ---- how far a loop has come

module _ (limit : ℕ) (prefix bytes out₀ : List ℕ) (r₀ : State) where
  -- the loop's invariant
  pub record At (out : List ℕ) (r : State) (used written : ℕ) : Type 0 where
    pub within : used ≤ length bytes
    pub room : written ≤ length out
    pub same_length : length out ≡ length out₀
    pub rest : Rest State (loop_of limit prefix r₀ bytes (length out₀))
        (loop_of limit prefix r (drop used bytes) (length out - written)) used written out₀ out

  pub at_start : At out₀ r₀ 0 0
  at_start =
      record {
        within = omega arith;
        room = omega arith;
        same_length = refl;
        rest = rw sub-zero (record {
          state_is = refl;
          used_is = omega arith;
          stop_is = refl;
          written_is = omega arith;
          out_is = refl;
        });
      }

-- a step that continues: it consumes bytes, and with its line put after the others the invariant holds
pub record Onward (limit : ℕ) (prefix bytes out₀ : List ℕ) (r₀ : State) (out : List ℕ) (used written : ℕ)
    (y : Outcome State) : Type 0 where
  pub within : used + count_of y.row ≤ length bytes
  pub some : 1 ≤ count_of y.row
  pub again : (after : List ℕ) (next : ℕ) → PutAt out written (line_after prefix y) next after → next ≤ length out
      → At limit prefix bytes out₀ r₀ after y.state (used + count_of y.row) next

module _ {limit : ℕ} {prefix bytes out₀ out : List ℕ} {r₀ r : State} {used written : ℕ}
    (at : At limit prefix bytes out₀ r₀ out r used written) where
  left_is : length (drop used bytes) ≡ length bytes - used
  left_is = length-drop used bytes

  -- the loop stops
  pub at_end : (q : State) (number : ℕ)
      → loop_of limit prefix r (drop used bytes) (length out - written) ≡ stopped q number
      → record { state = q; used = used; written = written; stop = number; out = out }
      ≡ left_by (loop_of limit prefix r₀ bytes (length out₀)) out₀
  at_end q number e = rest_stopped q number (rw e at at.rest) (omega (arith, at.room, at.same_length))

  pub at_done : used ≡ length bytes → loop_of limit prefix r (drop used bytes) (length out - written) ≡ stopped r 0
  at_done e = step_done limit prefix r (drop used bytes) (length out - written) (omega (arith, left_is))

  module _ (more : used ≢ length bytes) where
    some_left : 1 ≤ length (drop used bytes)
    some_left = omega (arith, left_is, at.within)

    pub at_room : length out - written < length prefix + line_room
        → loop_of limit prefix r (drop used bytes) (length out - written) ≡ full r
    at_room h = step_room limit prefix r (drop used bytes) (length out - written) some_left h

    module _ (h : length prefix + line_room ≤ length out - written)
        (y : Outcome State) (fed : y ≡ feed_of limit r (take (length bytes - used) (drop used bytes))) where
      -- the feed gets all that is left
      e : y ≡ feed_of limit r (drop used bytes)
      e = rw (take_all (length bytes - used) (drop used bytes) (omega (arith, left_is))) at fed

      pub at_refused : refuses y.row.number ≡ true
          → loop_of limit prefix r (drop used bytes) (length out - written) ≡ stopped y.state y.row.number
      at_refused f = step_refused limit prefix r (drop used bytes) (length out - written) some_left h y e f

      pub at_onward : refuses y.row.number ≡ false → Onward limit prefix bytes out₀ r₀ out used written y
      at_onward f =
          record {
            within = omega (arith, left_is, at.within, rw (← e) at (count_most limit r (drop used bytes)));
            some = rw e (consumes_one limit r (drop used bytes) (rw e at f) some_left);
            again = again;
          }
        where
          again : (after : List ℕ) (next : ℕ) → PutAt out written (line_after prefix y) next after → next ≤ length out
              → At limit prefix bytes out₀ r₀ after y.state (used + count_of y.row) next
          again after next put fits =
              let long : length after ≡ length out =
              ap length put.1 ∙ length-sets out written (line_after prefix y) in
              let step = step_onward limit prefix r (drop used bytes) (length out - written) some_left h y e f in
              let left : length out - written - length (line_after prefix y) ≡ length after - next =
              omega (arith, long, put.0) in
              let rest : Rest State (loop_of limit prefix r₀ bytes (length out₀)) (loop_of limit prefix y.state
              (drop (count_of y.row) (drop used bytes)) (length out - written - length (line_after prefix y)))
              (used + count_of y.row) (written + length (line_after prefix y)) out₀
              (sets out written (line_after prefix y)) =
              rest_onward (count_of y.row) (line_after prefix y) (rw step at at.rest) in
              record {
                within = omega (arith, left_is, at.within, rw (← e) at (count_most limit r (drop used bytes)));
                room = omega (arith, long);
                same_length = long ∙ at.same_length;
                rest = rw (drop-drop, left, ← put.0, ← put.1) at rest;
              }

-- ---- the feed with no data before the loop

-- it leaves the reader as it was
pub none_kept : (limit : ℕ) (r : State) → (feed_of limit r []).state ≡ r
unfolding run_of
none_kept limit r =
    by_test (λ (y : Outcome State). y.state ≡ r) (in_range_of limit r.scan)
    (λ a. by_test (λ (y : Outcome State). y.state ≡ r) (leb (r.scan.consumed + 0) (2 ^ 62)) (λ b. refl) (λ b. refl))
    (λ a. refl)

module _ (limit : ℕ) (prefix bytes out : List ℕ) (r : State) (y : Outcome State) (e : y ≡ feed_of limit r []) where
  -- refused, it ends the call, and nothing changes
  pub none_fed : refuses y.row.number ≡ true
      → record { state = y.state; used = 0; written = 0; stop = y.row.number; out = out }
      ≡ left_by (list_of limit prefix r bytes (length out)) out
  none_fed f = let kept : y.state ≡ r = rw e (none_kept limit r) in rw (← e, f, kept)

  -- otherwise the loop decides
  pub all_fed : refuses y.row.number ≡ false
      → loop_of limit prefix y.state bytes (length out) ≡ list_of limit prefix r bytes (length out)
  all_fed f = let kept : y.state ≡ r = rw e (none_kept limit r) in rw (← e, f, kept)
