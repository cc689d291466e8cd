-- `announcements::announcement_of` says what `message` read.
use mathlib.Core.Path.{◌∙◌}
use Rattle.transfer.proofs.ReadLaws.{announced, announced_as}
use Rattle.transfer.proofs.announcements.announcement_of.Goals as goal

pub returns-in-Ok : goal.returns-in-Ok
returns-in-Ok c =
    c.announced.ensures _ (announced _ _ _ c.in-Ok.ensures) ∙ announced_as _ _ _ c.in-Ok.ensures
