-- `size` of several slices meets its contract. The loop's invariant: the parts so far have this size, and a frame can
-- have it.
use Rattle.std.proofs.Common.{◌≡◌, ◌+◌, ◌≤◌, length, take}
use Rattle.frame.specs.Wire.{joined, frame_limit}
use Rattle.frame.proofs.writer.RefSliceRefSliceU8Bytes.size.Given as goal

abbrev pub invariant-loop-part : goal.invariant-loop-part
invariant-loop-part l = (l.size ≡ length (joined (take l.part-index l.self))) × (l.size + 5 ≤ frame_limit)
