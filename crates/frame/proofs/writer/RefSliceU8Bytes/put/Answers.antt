use Rattle.std.proofs.Common.{arith}
use Rattle.frame.proofs.Writing.{stuff_fits, put_none, put_more}
use Rattle.frame.proofs.writer.RefSliceU8Bytes.put.Goals as goal

pub loop-byte-init : goal.loop-byte-init
loop-byte-init c = put_none c.args.out.now c.args.at

pub put_byte-next-requires : goal.put_byte-next-requires
put_byte-next-requires c =
    let i = c.loop-byte.byte-index in
    omega (arith, stuff_fits c.args.self.now i (omega arith))

pub loop-byte-preserved : goal.loop-byte-preserved
loop-byte-preserved c =
    put_more c.args.out.now c.args.self.now c.args.at c.loop-byte.byte-index (omega arith) c.loop-byte.invariant
    c.put_byte-next.ensures
