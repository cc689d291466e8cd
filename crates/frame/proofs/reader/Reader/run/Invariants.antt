-- `reader::Reader::run` consumes the bytes one by one.
use Rattle.std.proofs.Common.{◌-◌, length}
use Rattle.frame.specs.Wire.{frame_limit}
use Rattle.frame.specs.State.{scan_of, state_of}
use Rattle.frame.proofs.Steps.{At}
use Rattle.frame.proofs.reader.Reader.run.Given as goal

-- the bytes before the count-th decided nothing
abbrev pub invariant-loop-count : goal.invariant-loop-count
invariant-loop-count l =
    At frame_limit l.bytes (state_of l.fn.self) l.count (record { scan = scan_of l.scan; body = l.self.body })

abbrev pub decreases-loop-count : goal.decreases-loop-count
decreases-loop-count l = length l.bytes - l.count
