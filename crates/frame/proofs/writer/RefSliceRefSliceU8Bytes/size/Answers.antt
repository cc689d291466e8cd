use Rattle.std.proofs.Common.{◌+◌, length, [], arith, lt-ltb}
use Rattle.frame.specs.Wire.{joined, frame_limit}
use Rattle.frame.proofs.Writing.{joined_fits}
use Rattle.frame.proofs.writer.RefSliceRefSliceU8Bytes.size.Goals as goal

pub returns-then-size-part : goal.returns-then-size-part
returns-then-size-part c =
    let parts = c.args.self.now in
    let fits = joined_fits parts c.loop-part.part-index (record { ref_ptr = (0, 0); now = [] }) (omega arith) in
    rw (lt-ltb frame_limit (length (joined parts) + 5) (omega (arith, fits)))
