-- `play_all` meets its contract. The loop's invariant: what is to be done, after what was done, is the whole run.
use Rattle.std.proofs.Common.{◌-◌, length}
use Rattle.frame.specs.Wire.{frame_limit}
use Rattle.replay.specs.State.{state_of}
use Rattle.replay.proofs.PlayLaws.{At}
use Rattle.replay.proofs.state.Replay.play_all.Given as goal

abbrev pub invariant-loop-stop : goal.invariant-loop-stop
invariant-loop-stop l =
    At frame_limit l.bytes l.initial.out (state_of l.initial.self) l.out (state_of l.self) l.used l.written

abbrev pub decreases-loop-stop : goal.decreases-loop-stop
decreases-loop-stop l = length l.bytes - l.used
