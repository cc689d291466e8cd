-- rows_injective, states_injective and contracts_complete: an answer is read back from its row, and a reader from its
-- state. Assumes nothing.
use Rattle.std.proofs.Common.{◌≡◌, ℕ, Option, Some, None, Result, Ok, Err, refl, ap}
use Rattle.base.specs.Rows.{Row}
use Rattle.base.proofs.Rows.{injective_by, under, value}
use Rattle.frame.specs.Table.{row_of, finish_row_of}
use Rattle.frame.specs.State.{Phase, Idle, Half, Header, Open, Escape, State, phase_of, state_of}
use Rattle.frame.specs.Injective.{RowsInjective, StatesInjective, ContractsComplete}
use Rattle.base.specs.Outcomes.{Outcome}
use Rattle.frame.specs.declared.place.WirePlace.{WirePlace}
use Rattle.frame.specs.declared.scan.Phase.{Phase as CodePhase}
use Rattle.frame.specs.declared.scan.Phase.TheVariants as phase
use Rattle.frame.specs.declared.scan.Verdict.{Verdict}
use Rattle.frame.specs.declared.scan.Verdict.TheVariants.{Frame, Short, Long, Stuff, StuffLate, Cut, Sum}
use Rattle.frame.specs.declared.reader.Reader.{Reader}
use Rattle.frame.specs.declared.reader.Decision.{Decision}
use Rattle.frame.specs.declared.reader.Fed.{Fed}
use Rattle.frame.specs.declared.reader.FeedError.{FeedError}
use Rattle.frame.specs.declared.reader.FeedError.TheVariants.{State as OutOfRange, Used}
use Rattle.frame.specs.declared.reader.Finish.{Finish}
use Rattle.frame.specs.declared.reader.Finish.TheVariants as ending
use Rattle.base.specs.declared.writes.StateError.{StateError}

-- a place on the wire
abbrev wire_place : ℕ → WirePlace
wire_place n = record { 0 = n }

abbrev verdict_from : Row → Verdict
verdict_from r =
    under r 1 Frame (under r 11 Short (under r 12 Long (under r 13 (Stuff (value r 3)) (under r 14 Cut
    (under r 15 (Sum (value r 3) (value r 4)) (StuffLate (value r 3)))))))

-- the answer of a feed that decided
abbrev decided : ℕ → WirePlace → WirePlace → Verdict → Result Fed FeedError
decided c s e v = Ok (record { count = c; decision = Some (record { start = s; end = e; verdict = v }) })

abbrev answer_from : Row → Result Fed FeedError
answer_from r =
    under r 0 (Ok (record { count = value r 0; decision = None })) (under r 17 (Err OutOfRange) (under r 18 (Err Used)
    (decided (value r 0) (wire_place (value r 1)) (wire_place (value r 2)) (verdict_from r))))

decided_back : (c : ℕ) (s e : WirePlace) (v : Verdict)
    → answer_from (row_of (decided c s e v)) ≡ decided c s e v
decided_back c s e Frame = refl
decided_back c s e Short = refl
decided_back c s e Long = refl
decided_back c s e (Stuff x) = refl
decided_back c s e (StuffLate x) = refl
decided_back c s e Cut = refl
decided_back c s e (Sum f g) = refl

fed_back : (c : ℕ) (d : Option Decision)
    → answer_from (row_of (Ok (record { count = c; decision = d }))) ≡ Ok (record { count = c; decision = d })
fed_back c None = refl
fed_back c (Some d) = decided_back c d.start d.end d.verdict

answer_back : (a : Result Fed FeedError) → answer_from (row_of a) ≡ a
answer_back (Ok fed) = fed_back fed.count fed.decision
answer_back (Err OutOfRange) = refl
answer_back (Err Used) = refl

abbrev ending_from : Row → Result Finish StateError
ending_from r =
    under r 2 (Ok (ending.Clean (wire_place (value r 0))))
    (under r 16 (Ok (ending.Open (wire_place (value r 0)) (wire_place (value r 1)))) (Err (record {})))

ending_back : (a : Result Finish StateError) → ending_from (finish_row_of a) ≡ a
ending_back (Ok (ending.Clean t)) = refl
ending_back (Ok (ending.Open t s)) = refl
ending_back (Err e) = refl

pub rows_injective : RowsInjective
rows_injective =
    record {
      answers = injective_by row_of answer_from answer_back;
      finishes = injective_by finish_row_of ending_from ending_back;
    }

-- ---- a reader

abbrev phase_from : Phase → CodePhase
phase_from Idle = phase.Idle
phase_from Half = phase.Half
phase_from Header = phase.Header
phase_from Open = phase.Open
phase_from Escape = phase.Escape

phase_back : (p : CodePhase) → phase_from (phase_of p) ≡ p
phase_back phase.Idle = refl
phase_back phase.Half = refl
phase_back phase.Header = refl
phase_back phase.Open = refl
phase_back phase.Escape = refl

abbrev reader_from : State → Reader
reader_from s =
    record {
      scan = record {
        phase = phase_from s.scan.phase;
        consumed = wire_place s.scan.consumed;
        start = wire_place s.scan.start;
        filled = record { 0 = s.scan.filled };
        length = s.scan.length;
        sum = s.scan.sum;
      };
      body = s.body;
    }

reader_back : (r : Reader) → reader_from (state_of r) ≡ r
reader_back r = rw (phase_back r.scan.phase)

pub states_injective : StatesInjective
states_injective = injective_by state_of reader_from reader_back

-- ---- the contracts

pub contracts_complete : ContractsComplete
contracts_complete =
    record {
      fed = λ f y e. (ap (λ (z : Outcome State). z.row) e, ap (λ (z : Outcome State). z.state) e);
      finished = λ f y e. (ap (λ (z : Outcome State). z.row) e, ap (λ (z : Outcome State). z.state) e);
    }
