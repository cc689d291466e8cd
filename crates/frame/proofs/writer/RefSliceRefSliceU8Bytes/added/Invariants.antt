-- `added` of several slices meets its contract. The loop's invariant: the parts so far are added.
use Rattle.std.proofs.Common.{take}
use Rattle.frame.specs.Wire.{joined}
use Rattle.frame.specs.Calls.{Added}
use Rattle.frame.proofs.writer.RefSliceRefSliceU8Bytes.added.Given as goal

abbrev pub invariant-loop-part : goal.invariant-loop-part
invariant-loop-part l =
    Added l.fn.from.count l.fn.from.sum (joined (take l.part-index l.self)) l.measure.count l.measure.sum
