-- `added` of a slice meets its contract. The loop's invariant: the bytes so far are added.
use Rattle.std.proofs.Common.{take}
use Rattle.frame.specs.Calls.{Added}
use Rattle.frame.proofs.writer.RefSliceU8Bytes.added.Given as goal

abbrev pub invariant-loop-byte : goal.invariant-loop-byte
invariant-loop-byte l = Added l.fn.from.count l.fn.from.sum (take l.byte-index l.self) l.count l.sum
