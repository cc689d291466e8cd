-- reader_ranges, range_kept, used_exactly, fresh_reader_lem and limits. Assumes nothing.
use Rattle.std.proofs.Common.{◌≡◌, ℕ, ◌+◌, ◌^◌, ◌<◌, ◌≤◌, false, leb, ◌≢◌, List, [], ◌∷◌, length, refl, inl, inr, arith}
use Rattle.std.proofs.Common.{le-leb, leb-false, leb-true}
use borrow.Author.Tests.{lt-leb}
use Rattle.base.specs.Outcomes.{Outcome}
use Rattle.base.proofs.Tests.{by_test, either_way, both}
use Rattle.frame.specs.Wire.{frame_limit}
use Rattle.frame.specs.State.{Phase, Idle, Half, Header, Open, Escape, Scan, State, Event, Quiet, Decided}
use Rattle.frame.specs.Rules.{Ready, in_range_of, max_consumed, max_filled, advance_of, decides_of}
use Rattle.frame.specs.Table.{event_row}
use Rattle.frame.specs.Calls.{zeros, finish_row_in, next_of, run_of}
use Rattle.frame.specs.Ranges.{OutOfRange, ReaderRangesAll, RangeKept, UsedAlways, FreshReader, Limits}
use Rattle.frame.proofs.EachCall.{not_other}
use Rattle.frame.proofs.Steps.{kept}

-- ---- the test

outside : (r : State) → OutOfRange r → in_range_of frame_limit r.scan ≡ false
outside r (inl h) = rw (lt-leb r.scan.consumed max_consumed h)
outside r (inr h) =
    either_way (leb r.scan.consumed max_consumed)
    (λ t. rw (t, lt-leb r.scan.filled (max_filled frame_limit) h))
    (λ t. rw t)

inside_not : (r : State) → in_range_of frame_limit r.scan ≡ false → OutOfRange r
inside_not r e =
    either_way (leb r.scan.consumed max_consumed)
    (λ t. inr (leb-false r.scan.filled (max_filled frame_limit) (rw t at e)))
    (λ t. inl (leb-false r.scan.consumed max_consumed t))

-- ---- the numbers of a run and of a finish are neither STATE nor USED

abbrev Neither : ℕ → Type 0
Neither n = (n ≢ 17) × (n ≢ 18)

event_neither : (e : Event) (n s p : ℕ) → Neither (event_row e n s p).number
event_neither Quiet n s p = (omega arith, omega arith)
event_neither (Decided v) n s p = (not_other v 17 refl, not_other v 18 refl)

run_neither : (limit : ℕ) (bs : List ℕ) (n : ℕ) (r : State) → Neither (run_of limit bs n r).row.number
unfolding run_of
run_neither limit [] n r = (omega arith, omega arith)
run_neither limit (x ∷ bs) n r =
    by_test (λ (y : Outcome State). Neither y.row.number) (decides_of (advance_of limit r.scan x).event)
    (λ t. event_neither (advance_of limit r.scan x).event (n + 1) r.scan.start
    (next_of limit r x).scan.consumed)
    (λ t. run_neither limit bs (n + 1) (next_of limit r x))

ending_neither : (f : Phase) (s : Scan) → (finish_row_in f s).number ≢ 17
ending_neither Idle s = omega arith
ending_neither Half s = omega arith
ending_neither Header s = omega arith
ending_neither Open s = omega arith
ending_neither Escape s = omega arith

pub reader_ranges : ReaderRangesAll
reader_ranges r bytes =
    let Only : Outcome State → Type 0 = λ (y : Outcome State). y.row.number ≡ 17 → OutOfRange r in
    record {
      fed = λ h. rw (outside r h);
      fed_only = by_test Only (in_range_of frame_limit r.scan)
          (λ t. by_test Only (leb (r.scan.consumed + length bytes) (2 ^ 62))
          (λ u h. absurd ((run_neither frame_limit bytes 0 r).0 h)) (λ u h. absurd (omega arith)))
          (λ t h. inside_not r t);
      finished = λ h. rw (outside r h);
      finished_only = by_test Only (in_range_of frame_limit r.scan)
          (λ t h. absurd (ending_neither r.scan.phase r.scan h)) (λ t h. inside_not r t);
    }

-- ---- a feed keeps the range

abbrev Inside : Outcome State → Type 0
Inside y = Ready frame_limit y.state.scan 0

run_inside : (bs : List ℕ) (n : ℕ) (r : State)
    → Ready frame_limit r.scan (length bs) → Inside (run_of frame_limit bs n r)
unfolding run_of
run_inside [] n r h = h
run_inside (x ∷ bs) n r h =
    let room : Ready frame_limit r.scan (length bs + 1) = omega (arith, h) in
    let next : Ready frame_limit (next_of frame_limit r x).scan (length bs) = kept (length bs) room x in
    by_test Inside (decides_of (advance_of frame_limit r.scan x).event) (λ t. omega (arith, next))
    (λ t. run_inside bs (n + 1) (next_of frame_limit r x) next)

inside_stays : (r : State) → Ready frame_limit r.scan 0 → OutOfRange r → ⊥
inside_stays r h (inl g) = omega (arith, h)
inside_stays r h (inr g) = omega (arith, h)

pub range_kept : RangeKept
range_kept r bytes h =
    let same : Outcome State → Type 0 = λ (y : Outcome State). OutOfRange y.state → ⊥ in
    by_test same (in_range_of frame_limit r.scan)
    (λ t. by_test same (leb (r.scan.consumed + length bytes) (2 ^ 62))
    (λ u.
    let fits : r.scan.consumed + length bytes ≤ 2 ^ 62 = leb-true _ _ u in
    let small : r.scan.filled ≤ max_filled frame_limit =
    leb-true _ _ (both (leb r.scan.consumed max_consumed) t).1 in
    let ready : Ready frame_limit r.scan (length bytes) =
    record { room = fits; inside = small; small = omega arith } in
    inside_stays (run_of frame_limit bytes 0 r).state (run_inside bytes 0 r ready))
    (λ u. h))
    (λ t. h)

pub used_exactly : UsedAlways
used_exactly r bytes =
    let all : ℕ = r.scan.consumed + length bytes in
    let Only : Outcome State → Type 0 = λ (y : Outcome State). y.row.number ≡ 18 → 2 ^ 62 < all in
    record {
      fed = λ t h over.
          rw (
            le-leb r.scan.consumed max_consumed t,
            le-leb r.scan.filled (max_filled frame_limit) h,
            lt-leb all (2 ^ 62) over,
          );
      fed_only = by_test Only (in_range_of frame_limit r.scan)
          (λ t. by_test Only (leb all (2 ^ 62)) (λ u h. absurd ((run_neither frame_limit bytes 0 r).1 h))
          (λ u h. leb-false all (2 ^ 62) u))
          (λ t h. absurd (omega arith));
    }

pub fresh_reader_lem : FreshReader
unfolding zeros
fresh_reader_lem = refl

pub limits : Limits
limits =
    record {
      code = refl;
      greatest = refl;
      allowed = omega arith;
      head = refl;
      head_is = λ size command number flags. refl;
    }
