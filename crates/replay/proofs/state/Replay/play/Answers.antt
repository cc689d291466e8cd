-- What `play` uses is what its run uses.
use Rattle.std.proofs.Common.{length, arith, ap}
use Rattle.base.specs.Runs.{Left}
use Rattle.frame.specs.Wire.{frame_limit}
use Rattle.replay.specs.State.{State, state_of}
use Rattle.replay.proofs.StopLaws.{loop_stops}
use Rattle.replay.proofs.state.Replay.play.Goals as goal

pub returns-clause-within : goal.returns-clause-within
returns-clause-within c =
    let used = ap (λ (left : Left State). left.used) c.play_all.ensures in
    let run = loop_stops frame_limit (state_of c.args.self.now) c.args.bytes.now (length c.args.out.now) in
    omega (arith, used, run.within)
