-- The line of a capture's refusal at the end of a replay. Assumes nothing.
use Rattle.std.proofs.Common.{◌≡◌, ℕ, [], ◌∷◌, refl}
use Rattle.base.specs.Rows.{row}
use Rattle.listing.specs.Lines.{refusal_text}
use Rattle.capture.specs.Table.{refusal_number}
use Rattle.capture.specs.declared.reading.Refusal.{Refusal}
use Rattle.capture.specs.declared.reading.Refusal.TheVariants as refusal
use Rattle.replay.specs.Closing.{closing_text}
use Rattle.replay.specs.State.{State}

-- a refusal has its line
pub refused_text_lem : (limit : ℕ) (s : State) (r : Refusal) (place : ℕ)
    → closing_text limit s (row (refusal_number r) (place ∷ [])) ≡ refusal_text (refusal_number r) place
refused_text_lem limit s refusal.Mark place = refl
refused_text_lem limit s refusal.Version place = refl
refused_text_lem limit s refusal.Direction place = refl
refused_text_lem limit s refusal.Ended place = refl
