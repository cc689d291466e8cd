-- `put` of several slices meets its contract. The loop's invariant: the parts so far are put.
use Rattle.std.proofs.Common.{take}
use Rattle.base.specs.Stores.{PutAt}
use Rattle.frame.specs.Wire.{stuff, joined}
use Rattle.frame.proofs.writer.RefSliceRefSliceU8Bytes.put.Given as goal

abbrev pub invariant-loop-part : goal.invariant-loop-part
invariant-loop-part l = PutAt l.fn.out l.at (stuff (joined (take l.part-index l.self))) l.next l.out
