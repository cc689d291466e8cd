-- A play keeps cursor and readers in range. Assumes nothing.
use Prim.Native.Nat.{ℕ, zero, suc, ◌+◌, ◌-◌, ◌^◌, ◌≤◌}
use mathlib.Core.Path.{◌≡◌, refl, sym, ap, ◌∙◌}
use mathlib.Core.Bool.{true≢false}
use mathlib.Core.Logic.{◌≢◌}
use mathlib.Core.List.{List, []}
use native.Mathlib.Omega.{arith}
use borrow.Author.Tests.{eqb-true}
use lib.ListN.{length, drop}
use lib.Dec.{eqb}
use Rattle.base.specs.Rows.{Row}
use Rattle.base.specs.Outcomes.{Outcome}
use Rattle.base.specs.Runs.{Run}
use Rattle.base.proofs.Tests.{by_test}
use Rattle.frame.specs.Calls.{feed_of}
use Rattle.frame.specs.LogsComputed.{state_after, offer}
use Rattle.frame.specs.Ranges.{OutOfRange as ReaderOut}
use Rattle.frame.specs.State.{State as Reader}
use Rattle.frame.specs.Table.{count_of}
use Rattle.frame.specs.Wire.{frame_limit}
use Rattle.frame.proofs.Ranges.{reader_ranges, range_kept}
use Rattle.listing.specs.Feeding.{list_of}
use Rattle.listing.specs.LoopRuns.{RunOfFeeds}
use Rattle.listing.proofs.LoopRuns.{loop_lists}
use Rattle.capture.specs.Format.{direction_of, size_of}
use Rattle.replay.specs.Lines.{prefix_of}
use Rattle.replay.specs.Playing.{goes_on, part_of, record_run, record_in, step_in, step_of, play_in}
use Rattle.replay.specs.State.{State, reader_of, with_reader}
use Rattle.replay.proofs.NextAnswers.{next_cases, later_inside, Inside}
use Rattle.replay.proofs.StopLaws.{list_stops}

-- ---- the listing's loop

offers_kept : (n : ℕ) (r : Reader) (bytes : List ℕ)
    → (ReaderOut r → ⊥) → ReaderOut (state_after frame_limit r (offer frame_limit n r bytes)) → ⊥
unfolding state_after offer
offers_kept zero r bytes h = h
offers_kept (suc n) r bytes h =
    offers_kept n (feed_of frame_limit r bytes).state (drop (count_of (feed_of frame_limit r bytes).row) bytes)
    (range_kept r bytes h)

module _ (prefix : List ℕ) (r : Reader) (bytes : List ℕ) (room : ℕ) (h : ReaderOut r → ⊥) where
  abbrev run : Run Reader
  run = list_of frame_limit prefix r bytes room

  lists : RunOfFeeds frame_limit prefix r bytes room run
  lists = loop_lists frame_limit prefix r bytes room

  list_kept : ReaderOut run.state → ⊥
  list_kept = rw lists.state_is (offers_kept lists.calls r bytes h)

  list_goes : run.stop ≢ 17
  list_goes z =
      list_kept ((reader_ranges run.state (drop run.used bytes)).fed_only
      (ap (λ (a : Row). a.number) (lists.at_state z)))

-- ---- one step

-- a step that is not the last leaves all in range, and none stops for STATE
pub record Keeps (run : Run State) : Type 0 where
  pub inside : run.stop ≡ goes_on → Inside run.state
  pub goes : run.stop ≢ 17

module _ (s : State) (b : List ℕ) (room : ℕ) (i : Inside s) where
  -- nothing is taken
  stop_keeps : (n : ℕ) → n ≢ goes_on → n ≢ 17 → Keeps (record { state = s; used = 0; text = []; stop = n })
  stop_keeps n no_step no_state = record { inside = λ z. absurd (no_step z); goes = no_state }

  reader_in : (direction : ℕ) → ReaderOut (reader_of direction s) → ⊥
  reader_in direction = by_test (λ (r : Reader). ReaderOut r → ⊥) (eqb direction 0) (λ z. i.reader0) (λ z. i.reader1)

  with_in : (direction : ℕ) (r : Reader) (place fed : ℕ) → (ReaderOut r → ⊥) → 5 ≤ place → place ≤ 2 ^ 62
      → Inside (with_reader direction r place fed s)
  with_in direction r place fed h low high =
      let Out : Reader → Type 0 = λ (q : Reader). ReaderOut q → ⊥ in
      record {
        cursor = later_inside place low high;
        reader0 = by_test Out (eqb direction 0) (λ z. h) (λ z. i.reader0);
        reader1 = by_test Out (eqb direction 0) (λ z. i.reader1) (λ z. h);
      }

  record_keeps : (direction count place : ℕ) → 5 ≤ place → place ≤ 2 ^ 62
      → Keeps (record_in (record_run frame_limit direction s b room) direction count place s)
  record_keeps direction count place low high =
      let run : Run Reader = record_run frame_limit direction s b room in
      let h : ReaderOut (reader_of direction s) → ⊥ = reader_in direction in
      let feeds = lists (prefix_of direction) (reader_of direction s) (part_of s b) room h in
      let known = list_stops run.stop feeds.stops in
      by_test Keeps (eqb run.stop 0)
      (λ z. record {
        inside = λ y. with_in direction run.state place 0
            (list_kept (prefix_of direction) (reader_of direction s) (part_of s b) room h) low high;
        goes = λ y. omega arith;
      })
      (λ z. record {
        inside = λ y. absurd (known.2 y);
        goes = list_goes (prefix_of direction) (reader_of direction s) (part_of s b) room h;
      })

  step_keeps : Keeps (step_of frame_limit s b room)
  step_keeps =
      next_cases s.place b (λ (y : Outcome ℕ). Keeps (step_in frame_limit y s b room))
      (λ o. absurd (true≢false (sym i.cursor ∙ o)))
      (stop_keeps 18 (λ z. omega arith) (λ z. omega arith))
      (stop_keeps 51 (λ z. omega arith) (λ z. omega arith))
      (stop_keeps 52 (λ z. omega arith) (λ z. omega arith))
      (stop_keeps 53 (λ z. omega arith) (λ z. omega arith))
      (λ p. stop_keeps 0 (λ z. omega arith) (λ z. omega arith))
      (λ z h. record {
        inside = λ y. record { cursor = refl; reader0 = i.reader0; reader1 = i.reader1 };
        goes = λ y. omega arith;
      })
      (λ low fits h. record_keeps (direction_of b) (size_of b) (s.place + size_of b) (omega arith) (omega arith))

-- ---- all steps

pub loop_goes : (n : ℕ) (s : State) (b : List ℕ) (room : ℕ) → Inside s → (play_in frame_limit n s b room).stop ≢ 17
unfolding play_in
loop_goes zero s b room i = λ z. omega arith
loop_goes (suc n) s b room i =
    let step : Run State = step_of frame_limit s b room in
    let keeps : Keeps step = step_keeps s b room i in
    by_test (λ (run : Run State). run.stop ≢ 17) (eqb step.stop goes_on)
    (λ e. loop_goes n step.state (drop step.used b) (room - length step.text)
    (keeps.inside (eqb-true step.stop goes_on e)))
    (λ e. keeps.goes)
