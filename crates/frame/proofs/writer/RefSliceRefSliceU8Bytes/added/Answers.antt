use Rattle.std.proofs.Common.{[], take, arith}
use Rattle.frame.specs.Wire.{joined}
use Rattle.frame.proofs.Stuffing.{stuff_bound}
use Rattle.frame.proofs.Writing.{joined_fits, add_none, add_part}
use Rattle.frame.proofs.writer.RefSliceRefSliceU8Bytes.added.Goals as goal

pub loop-part-init : goal.loop-part-init
loop-part-init c = add_none c.args.from.count c.args.from.sum (omega arith)

pub added-measure-requires : goal.added-measure-requires
added-measure-requires c =
    let parts = c.args.self.now in
    let i = c.loop-part.part-index in
    omega (
      arith,
      joined_fits parts i (record { ref_ptr = (0, 0); now = [] }) (omega arith),
      stuff_bound (joined (take i parts)),
    )

pub loop-part-preserved : goal.loop-part-preserved
loop-part-preserved c =
    add_part c.args.from.count c.args.from.sum c.args.self.now c.loop-part.part-index _ (omega arith)
    c.loop-part.invariant c.added-measure.ensures
