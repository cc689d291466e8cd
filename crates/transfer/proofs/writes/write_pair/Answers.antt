-- `writes::write_pair` writes the 1B after the room for the 1A, and then the 1A.
use native.Mathlib.Omega.{arith}
use Rattle.frame.specs.Wire.{frame_limit}
use Rattle.transfer.proofs.PairLaws.{at_from, pair_needed, pair_wrote}
use Rattle.transfer.proofs.writes.write_pair.Goals as goal

pub with_first-requires : goal.with_first-requires
with_first-requires c =
    let args = c.args in
    rw c.accept_size-ready.ensures
    (pair_needed frame_limit args.number args.next args.piece args.code.now args.out.now (omega arith)
    c.in-Err.why _
    (at_from frame_limit args.number args.next args.piece args.code.now args.out.now (omega arith) _ _
    c.accept_size-ready.ensures c.min-from.ensures _
    c.in-Err.ensures))

pub returns-in-Ok : goal.returns-in-Ok
returns-in-Ok c =
    let args = c.args in
    rw c.accept_size-ready.ensures
    (pair_wrote frame_limit args.number args.next args.piece args.code.now args.out.now (omega arith)
    (omega arith) _ _
    (at_from frame_limit args.number args.next args.piece args.code.now args.out.now (omega arith) _ _
    c.accept_size-ready.ensures c.min-from.ensures _
    c.in-Ok.ensures)
    _ _ c.write_empty.ensures)
