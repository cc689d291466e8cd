-- `list` feeds no data first, which changes nothing; what it uses is what its run uses.
use Rattle.std.proofs.Common.{◌≡◌, Ok, Err, length, arith, ap}
use Rattle.base.specs.Runs.{Left, left_by}
use Rattle.frame.specs.Wire.{frame_limit}
use Rattle.frame.specs.State.{State, state_of}
use Rattle.frame.specs.Calls.{fed_of}
use Rattle.listing.specs.Feeding.{list_of, left_of}
use Rattle.listing.proofs.LoopLaws.{none_fed, all_fed, fed_continues, error_refuses}
use Rattle.listing.proofs.LoopRuns.{loop_lists}
use Rattle.listing.proofs.feeding.list.Goals as goal

pub returns-in-Err-clause-leaves : goal.returns-in-Err-clause-leaves
returns-in-Err-clause-leaves c =
    let fed = fed_of (Err c.in-Err.error, c.feed.new.self) in
    rw c.from.ensures (none_fed frame_limit c.args.prefix.now c.args.bytes.now c.args.out.now
    (state_of c.args.reader.now) fed c.in-Err.ensures (error_refuses c.in-Err.error))

pub returns : goal.returns
returns c =
    let prefix = c.args.prefix.now in
    let reader = state_of c.args.reader.now in
    let bytes = c.args.bytes.now in
    let out = c.args.out.now in
    let fed = c.in_default.field-0 in
    let leaves : left_of (c.feed_all.result, c.feed_all.new.reader) c.feed_all.new.out
    ≡ left_by (list_of frame_limit prefix reader bytes (length out)) out =
    rw (← all_fed frame_limit prefix bytes out reader (fed_of (Ok fed, c.feed.new.self)) c.in_default.ensures
    (fed_continues fed)) c.feed_all.ensures in
    let used = ap (λ (left : Left State). left.used) leaves in
    let run = loop_lists frame_limit prefix reader bytes (length out) in
    record { leaves = leaves; within = omega (arith, used, run.within) }
