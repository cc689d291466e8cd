use Rattle.std.proofs.Common.{arith}
use Rattle.frame.proofs.Stuffing.{stuff_bound}
use Rattle.frame.proofs.Writing.{stuff_fits, add_none, add_more}
use Rattle.frame.proofs.writer.RefSliceU8Bytes.added.Goals as goal

pub loop-byte-init : goal.loop-byte-init
loop-byte-init c = add_none c.args.from.count c.args.from.sum (omega arith)

pub overflow_add-count : goal.overflow_add-count
overflow_add-count c =
    let bytes = c.args.self.now in
    omega (arith, stuff_fits bytes c.loop-byte.byte-index (omega arith), stuff_bound bytes)

pub loop-byte-preserved : goal.loop-byte-preserved
loop-byte-preserved c =
    add_more c.args.from.count c.args.from.sum c.args.self.now c.loop-byte.byte-index (omega arith)
    c.loop-byte.invariant (omega arith) (omega arith)
