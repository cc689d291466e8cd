-- Laws of a step: what a record leaves, by the listing's loop. Assumes nothing.
use Prim.Native.Nat.{ℕ, ◌+◌, ◌-◌, ◌≤◌, ◌<◌, min}
use mathlib.Core.Path.{◌≡◌, refl, sym, ap, ◌∙◌}
use mathlib.Core.Bool.{true, false, true≢false}
use mathlib.Core.Logic.{◌≢◌}
use mathlib.Core.List.{List, [], ◌∷◌}
use native.Mathlib.Omega.{arith, min_cases}
use lib.ListN.{length, get_or, drop, length-take, length-drop}
use lib.Seq.{take_all}
use lib.Dec.{eqb}
use borrow.Author.Tests.{eq-eqb, ne_eqb}
use denote.Ref.{Bor}
use Rattle.base.specs.Runs.{Run, Left, left_by}
use Rattle.base.specs.Keys.{among}
use Rattle.base.specs.Parts.{IsPart}
use Rattle.base.specs.Outcomes.{onto}
use Rattle.base.proofs.Lists.{drop_min}
use Rattle.frame.specs.State.{State as Reader}
use Rattle.listing.specs.Feeding.{list_of}
use Rattle.listing.specs.Table.{stop_of as list_stop_of}
use Rattle.listing.specs.declared.feeding.Listed.{Listed}
use Rattle.listing.specs.declared.feeding.Stop.{Stop as ListStop}
use Rattle.listing.specs.declared.feeding.Stop.TheVariants as stop
use Rattle.listing.proofs.LoopRuns.{loop_lists}
use Rattle.capture.specs.Format.{payload_of, payload_size_of}
use Rattle.replay.specs.Lines.{prefix_of}
use Rattle.replay.specs.State.{State, reader_of, with_reader}
use Rattle.replay.specs.Playing.{goes_on, part_of, record_run, record_in, part_left}

-- ---- a record

-- the code's slice of the payload, from the first byte on that is not fed, is that part
part_is : (s : State) (b : List ℕ) {payload part : Bor (List ℕ)} {fed : ℕ} → payload.now ≡ payload_of b
    → fed ≡ s.fed → IsPart payload part (min fed (length payload.now)) (length payload.now)
    → part.now ≡ part_of s b
part_is s b {payload} e f p =
    p.bytes
    ∙ rw (drop_min, e, f) (take_all (length (payload_of b)) (part_of s b)
    (omega (arith, length-drop s.fed (payload_of b))))

-- a listing that is not done stops for another reason
not_done : (why : ListStop) → (why ≡ stop.Done → ⊥) → list_stop_of why ≢ 0
not_done stop.Done h = absurd (h refl)
not_done stop.Room h = λ e. omega arith
not_done stop.State h = λ e. omega arith
not_done stop.Used h = λ e. omega arith

module _ (limit direction : ℕ) (s : State) (b : List ℕ) (room : ℕ) where
  abbrev run : Run Reader
  run = record_run limit direction s b room

  -- its loop never stops as a step that goes on
  pub run_stops : run.stop ≢ goes_on
  unfolding among
  run_stops e =
      let four : among run.stop (0 ∷ 17 ∷ 18 ∷ 22 ∷ []) ≡ true =
      (loop_lists limit (prefix_of direction) (reader_of direction s) (part_of s b) room).stops in
      true≢false (sym (rw e at four))

  -- what the code's record leaves: q is the state after the listing's loop, in which only that reader changed
  module _ (count place : ℕ) (out after : List ℕ) (l : Listed) (q : State)
      (e : part_left direction l q after ≡ left_by run out)
      (others : q ≡ with_reader direction (reader_of direction q) s.place s.fed s) where
    state : reader_of direction q ≡ run.state
    state = ap (λ (w : Left Reader). w.state) e

    used : l.used ≡ run.used
    used = ap (λ (w : Left Reader). w.used) e

    written : l.written ≡ length run.text
    written = ap (λ (w : Left Reader). w.written) e

    stop_is : list_stop_of l.stop ≡ run.stop
    stop_is = ap (λ (w : Left Reader). w.stop) e

    put : after ≡ onto run.text out
    put = ap (λ (w : Left Reader). w.out) e

    -- the same with another place and count
    moved : (to fed : ℕ) → record { place = to; fed = fed; reader0 = q.reader0; reader1 = q.reader1 }
        ≡ with_reader direction run.state to fed s
    moved to fed =
        rw (← state)
        (ap (λ (w : State). record { place = to; fed = fed; reader0 = w.reader0; reader1 = w.reader1 }) others)

    -- no more bytes are fed than the record has
    fed_within : get_or b 5 0 < 256 → get_or b 6 0 < 256 → s.fed < 65536 → s.fed + l.used < 65536
    fed_within high low fed =
        let few : run.used ≤ length (part_of s b) =
        (loop_lists limit (prefix_of direction) (reader_of direction s) (part_of s b) room).within in
        let part : length (part_of s b) ≡ length (payload_of b) - s.fed = length-drop s.fed (payload_of b) in
        let most : length (payload_of b) ≤ payload_size_of b =
        rw length-take (min_cases (payload_size_of b) (length (drop 7 b)) _ (λ h e. omega (arith, e)) (λ h e. omega
        (arith, e))) in
        omega (arith, used, few, part, most)

    -- all of it is listed
    record_done : list_stop_of l.stop ≡ 0
        → record {
          state = record { place = place; fed = 0; reader0 = q.reader0; reader1 = q.reader1 };
          used = count;
          written = l.written;
          stop = goes_on;
          out = after;
        }
        ≡ left_by (record_in run direction count place s) out
    record_done t =
        let done : eqb run.stop 0 ≡ true = eq-eqb run.stop 0 (sym stop_is ∙ t) in
        rw (done, moved place 0, written, put)

    -- some of it is not
    record_left : list_stop_of l.stop ≢ 0 → (number : ℕ) → number ≡ list_stop_of l.stop
        → record {
          state = record { place = s.place; fed = s.fed + l.used; reader0 = q.reader0; reader1 = q.reader1 };
          used = 0;
          written = l.written;
          stop = number;
          out = after;
        }
        ≡ left_by (record_in run direction count place s) out
    record_left t number told =
        let left : eqb run.stop 0 ≡ false = ne_eqb run.stop 0 (λ z. t (stop_is ∙ z)) in
        rw (left, moved s.place (s.fed + l.used), told, used, written, stop_is, put)

-- ---- the code's record: its part of the payload is listed, which changes one reader

-- what follows where all of it is listed, and where it is not
pub record Leaves (limit direction : ℕ) (s : State) (b out : List ℕ) (count place : ℕ) (l : Listed) (q : State)
    (after : List ℕ) : Type 0 where
  pub within : get_or b 5 0 < 256 → get_or b 6 0 < 256 → s.fed < 65536 → s.fed + l.used < 65536
  pub done : l.stop ≡ stop.Done
      → record {
        state = record { place = place; fed = 0; reader0 = q.reader0; reader1 = q.reader1 };
        used = count;
        written = l.written;
        stop = goes_on;
        out = after;
      }
      ≡ left_by (record_in (record_run limit direction s b (length out)) direction count place s) out
  pub left : (l.stop ≡ stop.Done → ⊥) → (number : ℕ) → number ≡ list_stop_of l.stop
      → record {
        state = record { place = q.place; fed = s.fed + l.used; reader0 = q.reader0; reader1 = q.reader1 };
        used = 0;
        written = l.written;
        stop = number;
        out = after;
      }
      ≡ left_by (record_in (record_run limit direction s b (length out)) direction count place s) out

pub record_leaves : (limit direction : ℕ) (s : State) (b out : List ℕ) (count place : ℕ)
    {payload part : Bor (List ℕ)} {fed : ℕ} {l : Listed} {q : State} {after : List ℕ}
    → payload.now ≡ payload_of b → fed ≡ s.fed
    → IsPart payload part (min fed (length payload.now)) (length payload.now)
    → part_left direction l q after
    ≡ left_by (list_of limit (prefix_of direction) (reader_of direction s) part.now (length out)) out
    → q ≡ with_reader direction (reader_of direction q) s.place s.fed s
    → Leaves limit direction s b out count place l q after
record_leaves limit direction s b out count place {payload} {part} {fed} {l} {q} {after} e f p listed others =
    let run : part_left direction l q after
    ≡ left_by (record_run limit direction s b (length out)) out = rw (part_is s b e f p) at listed in
    let at_place : q.place ≡ s.place = ap (λ (w : State). w.place) others in
    record {
      within = fed_within limit direction s b (length out) count place out after l q run others;
      done = λ d. record_done limit direction s b (length out) count place out after l q run others
          (ap list_stop_of d);
      left = λ n number told. rw at_place (record_left limit direction s b (length out) count place out after l q run
          others (not_done l.stop n) number told);
    }
