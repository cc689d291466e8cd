-- `feed_all` meets its contract. The loop's invariant: what is to be done, after what was done, is the whole run.
use Rattle.std.proofs.Common.{◌-◌, length}
use Rattle.frame.specs.Wire.{frame_limit}
use Rattle.frame.specs.State.{state_of}
use Rattle.listing.proofs.LoopLaws.{At}
use Rattle.listing.proofs.feeding.feed_all.Given as goal

abbrev pub invariant-loop-used : goal.invariant-loop-used
invariant-loop-used l =
    At frame_limit l.prefix l.bytes l.initial.out (state_of l.initial.reader) l.out (state_of l.reader) l.used l.written

abbrev pub decreases-loop-used : goal.decreases-loop-used
decreases-loop-used l = length l.bytes - l.used
