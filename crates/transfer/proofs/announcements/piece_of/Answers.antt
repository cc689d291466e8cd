-- `announcements::piece_of` says what `message` read.
use mathlib.Core.Path.{◌∙◌}
use Rattle.transfer.proofs.ReadLaws.{numbered, numbered_as}
use Rattle.transfer.proofs.announcements.piece_of.Goals as goal

pub returns-in-Ok : goal.returns-in-Ok
returns-in-Ok c =
    c.numbered.ensures _ _ (numbered _ _ _ c.in-Ok.ensures) ∙ numbered_as _ _ _ c.in-Ok.ensures
