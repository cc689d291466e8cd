-- What a call leaves is known where what it is given is. Assumes nothing.
use Rattle.std.proofs.Common.{◌≡◌, ap, ◌∙◌}
use Rattle.base.specs.Rows.{Row}
use Rattle.base.specs.Outcomes.{Outcome, outcome}

-- the state that a call leaves, for the next call
pub state_after_lem : {S : Type 0} (call : S → Outcome S) {a : Row} {next s known : S} → outcome a next ≡ call s
    → s ≡ known → next ≡ (call known).state
state_after_lem {S} call e p = ap (λ (y : Outcome S). y.state) (e ∙ ap call p)
