-- A refused call leaves the link as it was, whatever the link;
-- STATE is given exactly where a field is out of range. Assumes nothing.
use Rattle.std.proofs.Common.{◌≡◌, ℕ, Bool, true, false, cond, ltb, None, Some, ◌≢◌, refl, true≢false, arith}
use Rattle.base.specs.Outcomes.{Outcome, outcome}
use Rattle.base.proofs.Tests.{by_test}
use Rattle.link.specs.Sending.{Wait, may_wait, fits_of}
use Rattle.link.specs.Clock.{is_due}
use Rattle.link.specs.Table.{state_row, unsent_row}
use Rattle.link.specs.Calls.{in_range, offer_in, due_tick_of, tick_in, receive_in}
use Rattle.link.specs.Logs.{Call, offering, ticking, receiving}
use Rattle.link.specs.LogsComputed.{call_of}
use Rattle.link.specs.Refusals.{RefusedUnchanged}
use Rattle.link.specs.declared.state.Link.{Link}

module _ (first max : ℕ) (l : Link) where
  -- an answer that is not STATE, and that leaves the link where it refuses
  abbrev Fair : Outcome Link → Type 0
  Fair y = (y.row.number ≢ 0 → y.state ≡ l) × (y.row.number ≢ 17)

  accepted_or_busy : (w : Wait) (command clock : ℕ) → Fair (offer_in w first l command clock)
  accepted_or_busy None command clock = (λ n. absurd (n refl), omega arith)
  accepted_or_busy (Some w) command clock = (λ _. refl, omega arith)

  offered : (command clock : ℕ)
      → Fair (cond (may_wait command) (offer_in l.waiting first l command clock) (outcome unsent_row l))
  offered command clock =
      by_test Fair (may_wait command) (λ _. accepted_or_busy l.waiting command clock) λ _. (λ _. refl, omega arith)

  due_ticked : (most command number repeats clock : ℕ) → Fair (due_tick_of most l command number repeats clock)
  due_ticked most command number repeats clock =
      by_test Fair (ltb repeats most) (λ _. (λ n. absurd (n refl), omega arith))
      λ _. (λ n. absurd (n refl), omega arith)

  ticked : (w : Wait) (clock : ℕ) → Fair (tick_in w max l clock)
  ticked None clock = (λ _. refl, omega arith)
  ticked (Some w) clock =
      by_test Fair (is_due clock w.sent) (λ _. due_ticked _ w.command w.number w.repeats _)
      λ _. (λ _. refl, omega arith)

  received : (w : Wait) (command number : ℕ) → Fair (receive_in w l command number)
  received None command number = (λ _. refl, omega arith)
  received (Some w) command number =
      by_test Fair (fits_of command number w.command w.number) (λ _. (λ n. absurd (n refl), omega arith))
      λ _. (λ _. refl, omega arith)

  -- with the test for STATE before it
  abbrev Guarded : Bool → Outcome Link → Type 0
  Guarded t y =
      (y.row.number ≢ 0 → y.state ≡ l) × (y.row.number ≡ 17 → t ≡ false) × (t ≡ false → y.row ≡ state_row)

  guarded : (t : Bool) (y : Outcome Link) → Fair y → Guarded t (cond t y (outcome state_row l))
  guarded true y f = (f.0, λ e. absurd (f.1 e), λ e. absurd (true≢false e))
  guarded false y f = (λ _. refl, λ _. refl, λ _. refl)

  each : (c : Call) → Guarded (in_range first max l) (call_of first max l c)
  each (offering command clock) = guarded (in_range first max l) _ (offered command clock)
  each (ticking clock) = guarded (in_range first max l) _ (ticked l.waiting clock)
  each (receiving command number) = guarded (in_range first max l) _ (received l.waiting command number)

pub refused_unchanged : RefusedUnchanged
refused_unchanged first max l c =
    let g = each first max l c in record { unchanged = g.0; state_out = g.1; out_state = g.2 }
