-- Laws of the loop over records: what a step uses, and the loop's invariant. Assumes nothing.
use Prim.Native.Nat.{ℕ, zero, suc, ◌+◌, ◌-◌, ◌≤◌, ◌<◌}
use mathlib.Core.Path.{◌≡◌, refl, sym, ap, ◌∙◌}
use mathlib.Core.Logic.{◌≢◌}
use mathlib.Core.List.{List, ◌++◌, append-nil}
use native.Mathlib.Nat.{add-zero, sub-zero}
use native.Mathlib.Omega.{arith}
use borrow.Author.Tests.{eq-eqb, ne_eqb, eqb-true, eqb-false}
use lib.ListN.{length, get_or, take, drop, length-append, length-drop}
use lib.Seq.{sets, length-sets, drop-drop}
use lib.Dec.{eqb}
use Rattle.base.specs.Runs.{Run, stopped, onward, Left, left_by}
use Rattle.base.specs.Outcomes.{Outcome}
use Rattle.base.proofs.Tests.{by_test, cond_equal}
use Rattle.base.proofs.Runs.{Rest, rest_onward, rest_stopped}
use Rattle.base.proofs.Stores.{part_left, put_onto}
use Rattle.capture.specs.Format.{size_of}
use Rattle.capture.specs.Reading.{next_of}
use Rattle.capture.proofs.EachCall.{count_within}
use Rattle.capture.proofs.NextSays.{next_says}
use Rattle.capture.specs.declared.reading.Refusal.TheVariants as refusal
use Rattle.std.specs.Prelude.{Option, Some, None}
use Rattle.replay.specs.State.{State, state_of}
use Rattle.replay.specs.Table.{stop_of}
use Rattle.replay.specs.Playing.{goes_on, record_run, step_of, play_in, loop_of, step_stop, step_left}
use Rattle.replay.specs.declared.state.Replay.{Replay}
use Rattle.replay.specs.declared.steps.Step.{Step}
use Rattle.replay.specs.declared.steps.Stop.{Stop}
use Rattle.replay.specs.declared.steps.Stop.TheVariants as stop
use Rattle.replay.proofs.StepLaws.{run_stops}

-- ---- what a step uses

-- an answer of `next` to n bytes counts no more than them, and a record at least one
abbrev Counts : ℕ → Outcome ℕ → Type 0
Counts n y =
    (y.row.number ≡ 0 → get_or y.row.values 0 0 ≤ n)
    × (y.row.number ≡ 1 → (1 ≤ get_or y.row.values 0 0) × (get_or y.row.values 0 0 ≤ n))

next_counts : (place : ℕ) (b : List ℕ) → Counts (length b) (next_of place b)
next_counts place b = (
  λ z. rw (eq-eqb (next_of place b).row.number 0 z) at (count_within place b).within,
  λ o.
      let said = (next_says place b).record_said o in
      let size : get_or (next_of place b).row.values 0 0 ≡ size_of b =
      ap (λ (y : Outcome ℕ). get_or y.row.values 0 0) said.answer in
      (omega (arith, size), omega (arith, size, said.within)),
)

-- a run of a step over n bytes uses no more than them, and at least one where the loop goes on
abbrev pub Uses : ℕ → Run State → Type 0
Uses n w = (w.used ≤ n) × (w.stop ≡ goes_on → 1 ≤ w.used)

pub step_uses : (limit : ℕ) (s : State) (b : List ℕ) (room : ℕ) → Uses (length b) (step_of limit s b room)
step_uses limit s b room =
    by_test P (eqb y.row.number 0)
    (λ z. by_test P (eqb count 0)
    (λ _. (omega arith, λ e. absurd (omega (arith, e))))
    (λ n. (counts.0 (eqb-true _ _ z), λ e. omega (arith, eqb-false count 0 n))))
    (λ _. by_test P (eqb y.row.number 1)
    (λ o. by_test P (eqb (record_run limit direction s b room).stop 0)
    (λ _. ((counts.1 (eqb-true _ _ o)).1, λ e. (counts.1 (eqb-true _ _ o)).0))
    (λ _. (omega arith, λ e. absurd (run_stops limit direction s b room e))))
    (λ o. (omega arith, λ e. absurd (eqb-false _ _ o e))))
  where
    P : Run State → Type 0
    P = Uses (length b)

    y : Outcome ℕ
    y = next_of s.place b

    count : ℕ
    count = get_or y.row.values 0 0

    direction : ℕ
    direction = get_or y.row.values 1 0

    counts : Counts (length b) y
    counts = next_counts s.place b

-- no stop is the number of a step that goes on
stop_last : (k : Stop) → stop_of k ≢ goes_on
stop_last stop.Done e = omega (arith, e)
stop_last stop.Room e = omega (arith, e)
stop_last (stop.Refused refusal.Mark) e = omega (arith, e)
stop_last (stop.Refused refusal.Version) e = omega (arith, e)
stop_last (stop.Refused refusal.Direction) e = omega (arith, e)
stop_last (stop.Refused refusal.Ended) e = omega (arith, e)
stop_last stop.State e = omega (arith, e)
stop_last stop.Used e = omega (arith, e)

-- ---- the steps of a loop

module _ (limit : ℕ) where
  -- more steps than are needed change nothing
  enough : (j k : ℕ) (s : State) (b : List ℕ) (room : ℕ)
      → length b < j → length b < k → play_in limit j s b room ≡ play_in limit k s b room
  unfolding play_in
  enough zero k s b room h g = absurd (omega arith)
  enough (suc j) zero s b room h g = absurd (omega arith)
  enough (suc j) (suc k) s b room h g =
      cond_equal (eqb (step_of limit s b room).stop goes_on)
      (λ e.
      let uses = step_uses limit s b room in
      let some : 1 ≤ (step_of limit s b room).used = uses.1 (eqb-true _ _ e) in
      let most : (step_of limit s b room).used ≤ length b = uses.0 in
      let fewer = length-drop (step_of limit s b room).used b in
      ap (λ (w : Run State). onward (step_of limit s b room).used (step_of limit s b room).text w)
      (enough j k (step_of limit s b room).state (drop (step_of limit s b room).used b)
      (room - length (step_of limit s b room).text) (omega arith) (omega arith)))
      (λ _. refl)

  module _ (s : State) (b : List ℕ) (room : ℕ) (y : Run State) (e : y ≡ step_of limit s b room) where
    -- a step that does not go on is the whole run
    pub loop_stops : y.stop ≢ goes_on → loop_of limit s b room ≡ y
    unfolding play_in
    loop_stops n = rw (← e, ne_eqb y.stop goes_on n)

    -- after one that does, the loop is over what is left
    pub loop_goes : y.stop ≡ goes_on
        → loop_of limit s b room
        ≡ onward y.used y.text (loop_of limit y.state (drop y.used b) (room - length y.text))
    unfolding play_in
    loop_goes g =
        let uses : Uses (length b) y = rw e (step_uses limit s b room) in
        let some : 1 ≤ y.used = uses.1 g in
        let most : y.used ≤ length b = uses.0 in
        let fewer = length-drop y.used b in
        rw (← e, eq-eqb y.stop goes_on g)
        (ap (λ (w : Run State). onward y.used y.text w)
        (enough (length b) (suc (length (drop y.used b))) y.state (drop y.used b)
        (room - length y.text) (omega arith) (omega arith)))

-- ---- how far a loop has come

module _ (limit : ℕ) (bytes out₀ : List ℕ) (s₀ : State) where
  -- the loop's invariant
  pub record At (out : List ℕ) (s : State) (used written : ℕ) : Type 0 where
    pub within : used ≤ length bytes
    pub room : written ≤ length out
    pub same_length : length out ≡ length out₀
    pub rest : Rest State (loop_of limit s₀ bytes (length out₀))
        (loop_of limit s (drop used bytes) (length out - written)) used written out₀ out

  pub at_start : At out₀ s₀ 0 0
  at_start =
      record {
        within = omega arith;
        room = omega arith;
        same_length = refl;
        rest = rw sub-zero (record {
          state_is = refl;
          used_is = omega arith;
          stop_is = refl;
          written_is = omega arith;
          out_is = refl;
        });
      }

-- what is left of the bytes, or of the buffer
abbrev pub left_from : ℕ → List ℕ → List ℕ
left_from at l = take (length l - at) (drop at l)

-- a buffer whose part from a place on is then `after`
abbrev pub joined_at : ℕ → List ℕ → List ℕ → List ℕ
joined_at at l after = take at l ++ (after ++ drop (length l - at) (drop at l))

-- a step that names no stop
pub not_some : (o : Option Stop) → ((why : Stop) → o ≡ Some why → ⊥) → o ≡ None
not_some None h = refl
not_some (Some why) h = absurd (h why refl)

-- after a step the loop stops, or goes on: r is the replay then, and `joined` the buffer
pub record Stepped (limit : ℕ) (bytes out₀ : List ℕ) (s₀ : State) (out : List ℕ) (used written : ℕ)
    (l : Step) (r : Replay) (joined : List ℕ) : Type 0 where
  pub used_within : used + l.used ≤ length bytes
  pub written_within : written + l.written ≤ length out
  -- it was the last: what the loop leaves is what the whole run leaves
  pub last : (why : Stop) → l.stop ≡ Some why
      → record {
        state = state_of r;
        used = used + l.used;
        written = written + l.written;
        stop = stop_of why;
        out = joined;
      } ≡ left_by (loop_of limit s₀ bytes (length out₀)) out₀
  -- otherwise it used a byte, and the invariant holds after it
  pub some : l.stop ≡ None → 1 ≤ l.used
  pub again : l.stop ≡ None → At limit bytes out₀ s₀ joined (state_of r) (used + l.used) (written + l.written)

-- a step over what is left of both: `after` is the part of the buffer after it
module _ {limit : ℕ} {bytes out₀ out : List ℕ} {s₀ s : State} {used written : ℕ}
    (at : At limit bytes out₀ s₀ out s used written) (l : Step) (r : Replay) (after : List ℕ) (y : Run State)
    (is : y ≡ step_of limit s (left_from used bytes) (length (left_from written out)))
    (left : step_left (l, r) after ≡ left_by y (left_from written out))
    (kept : length after ≡ length (left_from written out)) where
  -- the whole buffer after it
  abbrev joined : List ℕ
  joined = joined_at written out after

  bytes_left : length (drop used bytes) ≡ length bytes - used
  bytes_left = length-drop used bytes

  room_left : length (left_from written out) ≡ length out - written
  room_left = rw (part_left out written) (length-drop written out)

  step_is : y ≡ step_of limit s (drop used bytes) (length out - written)
  step_is = rw (part_left bytes used, room_left) at is

  -- what the code returns
  state_is : state_of r ≡ y.state
  state_is = ap (λ (w : Left State). w.state) left

  used_is : l.used ≡ y.used
  used_is = ap (λ (w : Left State). w.used) left

  written_is : l.written ≡ length y.text
  written_is = ap (λ (w : Left State). w.written) left

  stop_is : step_stop l.stop ≡ y.stop
  stop_is = ap (λ (w : Left State). w.stop) left

  -- the text has room, and is put after the others
  fits : written + length y.text ≤ length out
  fits =
      let put : length after ≡ length y.text + length (drop (length y.text) (left_from written out)) =
      ap (λ (w : Left State). length w.out) left
      ∙ length-append y.text (drop (length y.text) (left_from written out)) in
      let rest = length-drop (length y.text) (left_from written out) in
      omega (arith, put, rest, kept, room_left, at.room)

  put : joined ≡ sets out written y.text
  put = rw (ap (λ (w : Left State). w.out) left) (put_onto out written y.text fits)

  uses : Uses (length (drop used bytes)) y
  uses = rw step_is (step_uses limit s (drop used bytes) (length out - written))

  used_within : used + l.used ≤ length bytes
  used_within = omega (arith, used_is, uses.0, bytes_left, at.within)

  written_within : written + l.written ≤ length out
  written_within = omega (arith, written_is, fits)

  -- it is the last: what the loop leaves is what the whole run leaves
  at_last : (why : Stop) → l.stop ≡ Some why
      → record {
        state = state_of r;
        used = used + l.used;
        written = written + l.written;
        stop = stop_of why;
        out = joined;
      } ≡ left_by (loop_of limit s₀ bytes (length out₀)) out₀
  at_last why t =
      let number : stop_of why ≡ y.stop = rw t at stop_is in
      let stops : loop_of limit s (drop used bytes) (length out - written) ≡ y =
      loop_stops limit s (drop used bytes) (length out - written) y step_is (λ g. stop_last why (number ∙ g)) in
      let one : y ≡ onward y.used y.text (stopped y.state y.stop) = rw (add-zero, append-nil) in
      let rest : Rest State (loop_of limit s₀ bytes (length out₀)) (stopped y.state y.stop) (used + y.used)
      (written + length y.text) out₀ (sets out written y.text) =
      rest_onward y.used y.text (rw (stops ∙ one) at at.rest) in
      rw (state_is, used_is, written_is, number, put)
      (rest_stopped y.state y.stop rest (omega (arith, fits, at.same_length)))

  -- the loop goes on: the step used a byte, and the invariant holds after it
  module _ (f : l.stop ≡ None) where
    goes : y.stop ≡ goes_on
    goes = sym (rw f at stop_is)

    used_some : 1 ≤ l.used
    used_some = omega (arith, used_is, uses.1 goes)

    at_again : At limit bytes out₀ s₀ joined (state_of r) (used + l.used) (written + l.written)
    at_again =
        let long : length joined ≡ length out = ap length put ∙ length-sets out written y.text in
        let room : length out - written - length y.text ≡ length joined - (written + l.written) =
        omega (arith, long, written_is) in
        let rest : Rest State (loop_of limit s₀ bytes (length out₀)) (loop_of limit y.state
        (drop y.used (drop used bytes)) (length out - written - length y.text))
        (used + y.used) (written + length y.text) out₀ (sets out written y.text) =
        rest_onward y.used y.text (rw (loop_goes limit s (drop used bytes) (length out - written) y step_is goes)
        at at.rest) in
        record {
          within = used_within;
          room = omega (arith, long, written_within);
          same_length = long ∙ at.same_length;
          rest = rw (drop-drop, room, ← put, ← state_is, ← used_is, ← written_is) at rest;
        }

  pub at_step : Stepped limit bytes out₀ s₀ out used written l r joined
  at_step =
      record {
        used_within = used_within;
        written_within = written_within;
        last = at_last;
        some = used_some;
        again = at_again;
      }
