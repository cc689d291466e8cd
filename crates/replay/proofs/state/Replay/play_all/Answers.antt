use Rattle.std.proofs.Common.{length, arith, refl}
use Rattle.frame.specs.Wire.{frame_limit}
use Rattle.replay.specs.State.{state_of}
use Rattle.replay.specs.Playing.{step_of}
use Rattle.replay.proofs.PlayLaws.{left_from, not_some, at_step}
use Rattle.replay.proofs.state.Replay.play_all.Goals as goal

pub loop-stop-smaller : goal.loop-stop-smaller
loop-stop-smaller c =
    let loop = c.loop-stop in
    let step = c.play_one-step in
    let stepped = at_step loop.invariant step.result step.new.self step.new.out
    (step_of frame_limit (state_of loop.self) (left_from loop.used c.args.bytes.now)
    (length (left_from loop.written loop.out))) refl step.ensures step.auto.out in
    omega (arith, stepped.used_within, stepped.some (not_some c.play_one-step.result.stop c.in_default.not-Some))

pub loop-stop-preserved : goal.loop-stop-preserved
loop-stop-preserved c =
    let loop = c.loop-stop in
    let step = c.play_one-step in
    let stepped = at_step loop.invariant step.result step.new.self step.new.out
    (step_of frame_limit (state_of loop.self) (left_from loop.used c.args.bytes.now)
    (length (left_from loop.written loop.out))) refl step.ensures step.auto.out in
    stepped.again (not_some c.play_one-step.result.stop c.in_default.not-Some)

pub returns : goal.returns
returns c =
    let loop = c.loop-stop in
    let step = c.play_one-step in
    let stepped = at_step loop.invariant step.result step.new.self step.new.out
    (step_of frame_limit (state_of loop.self) (left_from loop.used c.args.bytes.now)
    (length (left_from loop.written loop.out))) refl step.ensures step.auto.out in
    stepped.last c.in-Some.stop c.in-Some.is
