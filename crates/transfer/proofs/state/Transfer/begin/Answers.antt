-- `Transfer::begin` begins a transfer as the link takes the 1B, or says the first refusal.
use mathlib.Core.Path.{refl, ap, ◌∙◌}
use lib.ListN.{length}
use Rattle.base.specs.Rows.{Row}
use Rattle.base.specs.Outcomes.{output}
use Rattle.base.proofs.WritesExact.{unwritten_refuses}
use Rattle.frame.specs.Wire.{frame_limit}
use Rattle.link.specs.Sending.{first_number, max_repeats}
use Rattle.transfer.specs.Calls.{left, both}
use Rattle.transfer.proofs.WriteLaws.{unwritten_as}
use Rattle.transfer.proofs.CallLaws.{part_bytes, begin_wrote, begin_unwritten}
use Rattle.transfer.proofs.state.Transfer.begin.Goals as goal

pub returns-in_err-count : goal.returns-in_err-count
returns-in_err-count c =
    let args = c.args in
    let a = c.in-Ok.announcement in
    ap (λ (r : Row). left (output r c.write_pair.new.out) (both args.self.now args.link.now))
    (unwritten_as c.from_residual.result _ c.from_residual.ensures.1)
    ∙ begin_unwritten frame_limit first_number max_repeats args.self.now args.link.now args.clock args.number
    args.payload.now args.piece (length args.buffer.now) args.out.now _ _ c.offer-offer.ensures
    c.in-Ok.ensures.number a c.in-Ok.ensures.read c.part-code.result.now
    (part_bytes args.payload.now _ a.code a.code refl c.part-code.ensures.bytes) _ _ (unwritten_refuses _)
    c.in_err-count.ensures

pub returns : goal.returns
returns c =
    let args = c.args in
    let a = c.in-Ok.announcement in
    begin_wrote frame_limit first_number max_repeats args.self.now args.link.now args.clock args.number
    args.payload.now args.piece (length args.buffer.now) args.out.now _ _ c.offer-offer.ensures
    c.in-Ok.ensures.number a c.in-Ok.ensures.read c.part-code.result.now
    (part_bytes args.payload.now _ a.code a.code refl c.part-code.ensures.bytes) _ c.new.ensures _ _ _
    c.in_ok-count.ensures
