use Rattle.std.proofs.Common.{[], arith}
use Rattle.frame.proofs.Writing.{stuff_joined_fits, put_none, put_part}
use Rattle.frame.proofs.writer.RefSliceRefSliceU8Bytes.put.Goals as goal

pub loop-part-init : goal.loop-part-init
loop-part-init c = put_none c.args.out.now c.args.at

pub put-next-requires : goal.put-next-requires
put-next-requires c =
    let i = c.loop-part.part-index in
    omega (arith, stuff_joined_fits c.args.self.now i (record { ref_ptr = (0, 0); now = [] }) (omega arith))

pub loop-part-preserved : goal.loop-part-preserved
loop-part-preserved c =
    put_part c.args.out.now c.args.self.now c.args.at c.loop-part.part-index _ (omega arith) c.loop-part.invariant
    c.put-next.ensures
