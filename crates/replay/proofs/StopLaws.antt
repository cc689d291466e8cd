-- The steps of a play: how far each comes, and why the last one stops. Assumes nothing.
use Prim.Native.Nat.{ℕ, zero, suc, ◌+◌, ◌-◌, ◌≤◌, ◌<◌}
use mathlib.Core.Path.{◌≡◌, refl, sym, ap, ◌∙◌}
use mathlib.Core.Bool.{true}
use mathlib.Core.Logic.{◌≢◌, inl, inr}
use mathlib.Core.List.{List, [], ◌∷◌}
use native.Mathlib.Omega.{arith}
use borrow.Author.Tests.{eqb-true, eqb-false}
use lib.ListN.{length, get_or, drop, length-append, length-drop}
use lib.Seq.{drop-drop}
use lib.Dec.{eqb}
use Rattle.base.specs.Keys.{among}
use Rattle.base.specs.Rows.{Row, row}
use Rattle.base.specs.Outcomes.{Outcome}
use Rattle.base.specs.Runs.{Run, stopped, onward}
use Rattle.base.proofs.Keys.{among_holds}
use Rattle.base.proofs.Tests.{by_test}
use Rattle.frame.specs.State.{State as Reader}
use Rattle.listing.specs.LoopRuns.{RunOfFeeds}
use Rattle.listing.proofs.LoopRuns.{loop_lists}
use Rattle.capture.specs.Format.{direction_of, size_of}
use Rattle.capture.specs.Reading.{next_of}
use Rattle.replay.specs.EachCall.{PlayStops}
use Rattle.replay.specs.Lines.{prefix_of}
use Rattle.replay.specs.Playing.{goes_on, part_of, record_run, record_in, head_in, step_in, step_of, play_in, loop_of}
use Rattle.replay.specs.State.{State, reader_of}
use Rattle.replay.proofs.NextAnswers.{next_cases}

-- ---- one step

-- a step that is not the last uses a byte at least, and the place moves by what it uses
pub record Onward (s : State) (b : List ℕ) (run : Run State) : Type 0 where
  pub some : 1 ≤ run.used
  pub within : run.used ≤ length b
  pub moves : run.state.place ≡ s.place + run.used

pub record Stepped (s : State) (b : List ℕ) (room : ℕ) (run : Run State) : Type 0 where
  pub more : run.stop ≡ goes_on → Onward s b run
  pub last : run.stop ≢ goes_on → PlayStops s b room run

-- the stops of a play
abbrev pub stop_numbers : List ℕ
stop_numbers = 0 ∷ 17 ∷ 18 ∷ 22 ∷ 51 ∷ 52 ∷ 53 ∷ []

-- those of the listing's loop are among them, and none of them is a refusal
pub list_stops : (n : ℕ) → among n (0 ∷ 17 ∷ 18 ∷ 22 ∷ []) ≡ true → (among n stop_numbers ≡ true) × (n ≤ 50) × (n ≢ 1)
unfolding among
list_stops n =
    among_holds (λ (m : ℕ). (among m stop_numbers ≡ true) × (m ≤ 50) × (m ≢ 1)) n (0 ∷ 17 ∷ 18 ∷ 22 ∷ []) (
      (refl, omega arith, λ z. omega arith),
      (
        (refl, omega arith, λ z. omega arith),
        ((refl, omega arith, λ z. omega arith), ((refl, omega arith, λ z. omega arith), tt)),
      ),
    )

module _ (s : State) (b : List ℕ) (room : ℕ) where
  -- nothing is taken
  none : (n v : ℕ) → (next_of s.place b).row ≡ row n (v ∷ []) → among n stop_numbers ≡ true
      → n ≢ 1 → n ≢ 22 → (n ≡ 0 → v ≡ 0) → Stepped s b room (stopped s n)
  none n v e known no_step no_room lacks =
      record {
        more = λ z. absurd (no_step z);
        last = λ g. record {
          within = omega arith;
          moves = omega arith;
          stops = known;
          done = λ z. e ∙ rw (z, lacks z);
          room_left = λ z. absurd (no_room z);
          used = λ z. inl (ap (λ (r : Row). r.number) e ∙ z);
          refused = λ z. e ∙ ap (λ (r : Row). row n (get_or r.values 0 0 ∷ [])) (sym e);
        };
      }

  -- the head
  head_stepped : (place : ℕ) → 5 ≤ length b → place ≡ s.place + 5 → Stepped s b room (head_in 5 place s)
  head_stepped place h e =
      record {
        more = λ z. record { some = omega arith; within = h; moves = e };
        last = λ g. absurd (g refl);
      }

  -- a record
  record_stepped : (limit direction count place : ℕ) → (next_of s.place b).row.number ≡ 1
      → 1 ≤ count → count ≤ length b → place ≡ s.place + count
      → Stepped s b room (record_in (record_run limit direction s b room) direction count place s)
  record_stepped limit direction count place there low high e =
      let run : Run Reader = record_run limit direction s b room in
      let lists : RunOfFeeds limit (prefix_of direction) (reader_of direction s) (part_of s b) room run =
      loop_lists limit (prefix_of direction) (reader_of direction s) (part_of s b) room in
      let known = list_stops run.stop lists.stops in
      by_test (Stepped s b room) (eqb run.stop 0)
      (λ z. record {
        more = λ y. record { some = low; within = high; moves = e };
        last = λ g. absurd (g refl);
      })
      (λ z. record {
        more = λ y. absurd (known.2 y);
        last = λ g. record {
          within = omega arith;
          moves = omega arith;
          stops = known.0;
          done = λ y. absurd (eqb-false run.stop 0 z y);
          room_left = λ y. (there, omega (arith, (lists.room_left y).1));
          used = λ y. inr there;
          refused = λ y. absurd (omega (arith, known.1));
        };
      })

  stepped : (limit : ℕ) → Stepped s b room (step_of limit s b room)
  unfolding among
  stepped limit =
      let is : Row → Type 0 = λ (r : Row). (next_of s.place b).row ≡ r in
      next_cases s.place b
      (λ (y : Outcome ℕ). is y.row → Stepped s b room (step_in limit y s b room))
      (λ o e. none 17 0 e refl (λ z. omega arith) (λ z. omega arith) (λ z. absurd (omega arith)))
      (λ e. none 18 0 e refl (λ z. omega arith) (λ z. omega arith) (λ z. absurd (omega arith)))
      (λ e. none 51 0 e refl (λ z. omega arith) (λ z. omega arith) (λ z. absurd (omega arith)))
      (λ e. none 52 3 e refl (λ z. omega arith) (λ z. omega arith) (λ z. absurd (omega arith)))
      (λ e. none 53 s.place e refl (λ z. omega arith) (λ z. omega arith) (λ z. absurd (omega arith)))
      (λ p e. none 0 0 e refl (λ z. omega arith) (λ z. omega arith) (λ z. refl))
      (λ z h e. head_stepped 5 h (omega arith))
      (λ low fits h e. record_stepped limit (direction_of b) (size_of b) (s.place + size_of b)
      (ap (λ (r : Row). r.number) e) (omega arith) h refl)
      refl

-- ---- all steps

-- a step more
one_more : (s t : State) (b : List ℕ) (room used : ℕ) (text : List ℕ) (run : Run State)
    → used ≤ length b → t.place ≡ s.place + used → PlayStops t (drop used b) (room - length text) run
    → PlayStops s b room (onward used text run)
one_more s t b room used text run h e l =
    let left = length-drop used b in
    let long = length-append text run.text in
    record {
      within = omega (arith, l.within);
      moves = omega (arith, l.moves);
      stops = l.stops;
      done = λ z. rw drop-drop at (l.done z);
      room_left = λ z. (rw drop-drop at (l.room_left z).0, omega (arith, (l.room_left z).1));
      used = λ z. rw drop-drop at (l.used z);
      refused = λ z. rw drop-drop at (l.refused z);
    }

plays : (limit n : ℕ) (s : State) (b : List ℕ) (room : ℕ) → length b < n → PlayStops s b room (play_in limit n s b room)
unfolding play_in
plays limit zero s b room h = absurd (omega arith)
plays limit (suc n) s b room h =
    let step : Run State = step_of limit s b room in
    let facts : Stepped s b room step = stepped s b room limit in
    by_test (PlayStops s b room) (eqb step.stop goes_on)
    (λ e.
    let on : Onward s b step = facts.more (eqb-true step.stop goes_on e) in
    let fewer : length (drop step.used b) < n = omega (arith, length-drop step.used b, on.some, on.within) in
    one_more s step.state b room step.used step.text _ on.within on.moves
    (plays limit n step.state (drop step.used b) (room - length step.text) fewer))
    (λ e. facts.last (eqb-false step.stop goes_on e))

pub loop_stops : (limit : ℕ) (s : State) (b : List ℕ) (room : ℕ) → PlayStops s b room (loop_of limit s b room)
loop_stops limit s b room = plays limit (suc (length b)) s b room (omega arith)
