-- within, progress, empty_call, state_kept and finish_keeps. (in_pieces is in Stored, never-state in StreamCorrect.)
-- Assumes nothing.
use Rattle.std.proofs.Common.{◌≡◌, ℕ, ◌+◌, ◌^◌, ◌≤◌, true, false, leb, ◌≢◌, List, [], ◌∷◌, length, sym, refl, ap, ◌∙◌}
use Rattle.std.proofs.Common.{true≢false, arith, le-leb, leb-true}
use Rattle.base.specs.Keys.{among}
use Rattle.frame.specs.Table.{verdict_number, verdict_values, count_of, event_row}
use Rattle.frame.specs.Accounts.{feed_numbers}
use Rattle.frame.specs.Logs.{decided}
use Rattle.frame.specs.Rules.{advance_of, decides_of, in_range_of, max_consumed}
use Rattle.base.specs.Outcomes.{Outcome}
use Rattle.frame.specs.Calls.{next_of, run_of}
use Rattle.frame.specs.declared.scan.Verdict.{Verdict}
use Rattle.frame.specs.declared.scan.Verdict.TheVariants.{Frame, Short, Long, Stuff, StuffLate, Cut, Sum}
use Rattle.frame.specs.State.{State, Event, Quiet, Decided}
use Rattle.frame.specs.EachCall.{Within, Progress, EmptyCall, StateKept, FinishKeeps}
use Rattle.base.proofs.Tests.{by_test, both}

pub count_event : (e : Event) (n s p : ℕ) → count_of (event_row e n s p) ≡ n
count_event Quiet n s p = refl
count_event (Decided v) n s p = refl

-- the answer of a verdict: FRAME, which has no further values, or a refused frame
pub record Numbered (v : Verdict) : Type 0 where
  pub is_feed : among (verdict_number v) feed_numbers ≡ true
  pub is_decided : decided (verdict_number v) ≡ true
  pub plain : verdict_number v ≡ 1 → verdict_values v ≡ []

pub numbered : (v : Verdict) → Numbered v
unfolding among
numbered Frame = record { is_feed = refl; is_decided = refl; plain = λ e. refl }
numbered Short = record { is_feed = refl; is_decided = refl; plain = λ e. absurd (omega arith) }
numbered Long = record { is_feed = refl; is_decided = refl; plain = λ e. absurd (omega arith) }
numbered (Stuff x) = record { is_feed = refl; is_decided = refl; plain = λ e. absurd (omega arith) }
numbered (StuffLate x) = record { is_feed = refl; is_decided = refl; plain = λ e. absurd (omega arith) }
numbered Cut = record { is_feed = refl; is_decided = refl; plain = λ e. absurd (omega arith) }
numbered (Sum f g) = record { is_feed = refl; is_decided = refl; plain = λ e. absurd (omega arith) }

-- it is none of the other answers, such as MORE, STATE and USED
pub not_other : (v : Verdict) (k : ℕ) → decided k ≡ false → verdict_number v ≢ k
not_other v k other e = true≢false (sym (numbered v).is_decided ∙ ap decided e ∙ other)

abbrev Counts : ℕ → ℕ → Outcome State → Type 0
Counts low high y = (low ≤ count_of y.row) × (count_of y.row ≤ high)

run_counts : (limit : ℕ) (bs : List ℕ) (n : ℕ) (r : State) → Counts n (n + length bs) (run_of limit bs n r)
unfolding run_of
run_counts limit [] n r = (omega arith, omega arith)
run_counts limit (x ∷ xs) n r =
    let e : Event = (advance_of limit r.scan x).event in
    let c = count_event e (n + 1) r.scan.start (next_of limit r x).scan.consumed in
    let rest = run_counts limit xs (n + 1) (next_of limit r x) in
    by_test (Counts n (n + length (x ∷ xs))) (decides_of e) (λ d. (omega (arith, c), omega (arith, c)))
    (λ d. (omega (arith, rest.0), omega (arith, rest.1)))

pub within : Within
within limit r bs =
    let run = run_counts limit bs 0 r in
    by_test (λ (y : Outcome State). count_of y.row ≤ length bs) (in_range_of limit r.scan)
    (λ a. by_test (λ (y : Outcome State). count_of y.row ≤ length bs) (leb (r.scan.consumed + length bs) (2 ^ 62))
    (λ b. omega (arith, run.1)) (λ b. omega arith))
    (λ a. omega arith)

some_run : (limit : ℕ) (x : ℕ) (xs : List ℕ) (r : State) → 1 ≤ count_of (run_of limit (x ∷ xs) 0 r).row
unfolding run_of
some_run limit x xs r =
    let e : Event = (advance_of limit r.scan x).event in
    let c = count_event e (0 + 1) r.scan.start (next_of limit r x).scan.consumed in
    let rest = run_counts limit xs (0 + 1) (next_of limit r x) in
    by_test (λ (y : Outcome State). 1 ≤ count_of y.row) (decides_of e) (λ d. omega (arith, c))
    (λ d. omega (arith, rest.0))

pub progress : Progress
progress limit r [] a b h = absurd (omega arith)
progress limit r (x ∷ xs) a b h =
    rw (a, le-leb (r.scan.consumed + length (x ∷ xs)) (2 ^ 62) b) (some_run limit x xs r)

pub empty_call : EmptyCall
unfolding run_of
empty_call limit r a =
    let ranges = both (leb r.scan.consumed max_consumed) a in
    let low = leb-true r.scan.consumed max_consumed ranges.0 in
    rw (a, le-leb (r.scan.consumed + 0) (2 ^ 62) (omega (arith, low)))

pub state_kept : StateKept
state_kept limit r bytes h = (rw h, rw h)

pub finish_keeps : FinishKeeps
finish_keeps limit r = by_test (λ (y : Outcome State). y.state ≡ r) (in_range_of limit r.scan) (λ e. refl) (λ e. refl)
