-- `Transfer::check_store` says the first refusal of an open transfer too.
use mathlib.Core.Path.{refl, sym, ◌∙◌}
use Rattle.transfer.proofs.CallLaws.{part_bytes, denied_as, piece_said}
use Rattle.transfer.proofs.state.Transfer.check_store.Goals as goal

pub returns-in_err-check_piece-in-Some-open-clause-number :
    goal.returns-in_err-check_piece-in-Some-open-clause-number
returns-in_err-check_piece-in-Some-open-clause-number c =
    let args = c.args in
    let piece = c.in-Some.piece in
    denied_as c.from_residual.result _ c.from_residual.ensures.1
    ∙ c.in_err-check_piece-in-Some-open.ensures
    ∙ piece_said args.self.now c.in-Some-open.open c.in-Some-open.is args.flags args.payload.now args.buffer.now
    c.part.result.now piece c.in-Some.ensures
    (part_bytes args.payload.now _ piece.bytes piece.bytes refl c.part.ensures.bytes)
    (sym c.is_in_range.ensures ∙ c.if-not-is_in_range.false)

pub returns-in_ok-check_piece-in-Some-open-clause-number :
    goal.returns-in_ok-check_piece-in-Some-open-clause-number
returns-in_ok-check_piece-in-Some-open-clause-number c =
    let args = c.args in
    let piece = c.in-Some.piece in
    c.in_ok-check_piece-in-Some-open.ensures
    ∙ piece_said args.self.now c.in-Some-open.open c.in-Some-open.is args.flags args.payload.now args.buffer.now
    c.part.result.now piece c.in-Some.ensures
    (part_bytes args.payload.now _ piece.bytes piece.bytes refl c.part.ensures.bytes)
    (sym c.is_in_range.ensures ∙ c.if-not-is_in_range.false)
