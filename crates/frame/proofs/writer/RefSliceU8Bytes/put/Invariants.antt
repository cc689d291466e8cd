-- `put` of a slice meets its contract. The loop's invariant: the bytes so far are put.
use Rattle.std.proofs.Common.{take}
use Rattle.base.specs.Stores.{PutAt}
use Rattle.frame.specs.Wire.{stuff}
use Rattle.frame.proofs.writer.RefSliceU8Bytes.put.Given as goal

abbrev pub invariant-loop-byte : goal.invariant-loop-byte
invariant-loop-byte l = PutAt l.fn.out l.at (stuff (take l.byte-index l.self)) l.next l.out
