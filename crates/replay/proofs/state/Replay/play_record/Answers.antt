-- `play_record` lists what is left of the record, and goes on where all of it is listed.
use Rattle.std.proofs.Common.{◌<◌, get_or, arith}
use Rattle.frame.specs.Wire.{frame_limit}
use Rattle.capture.specs.Table.{direction_number}
use Rattle.replay.specs.State.{state_of}
use Rattle.replay.proofs.StepLaws.{record_leaves}
use Rattle.replay.proofs.state.Replay.play_record.Goals as goal

pub overflow_cast-self : goal.overflow_cast-self
overflow_cast-self c =
    let args = c.args in
    let leaves = record_leaves frame_limit (direction_number args.found.direction) (state_of args.self.now)
    args.bytes.now args.out.now args.found.count args.next.place c.payload-payload.ensures.0 c.from.ensures
    c.part-part.ensures c.list_part-used.ensures.listed c.list_part-used.ensures.others in
    let fed : args.self.now.fed < 65536 = omega arith in
    let high : get_or args.bytes.now 5 0 < 256 = omega (arith, c.type_inv.bytes 5) in
    let low : get_or args.bytes.now 6 0 < 256 = omega (arith, c.type_inv.bytes 6) in
    omega (arith, leaves.within high low fed)

pub overflow_add-self : goal.overflow_add-self
overflow_add-self c =
    let args = c.args in
    let leaves = record_leaves frame_limit (direction_number args.found.direction) (state_of args.self.now)
    args.bytes.now args.out.now args.found.count args.next.place c.payload-payload.ensures.0 c.from.ensures
    c.part-part.ensures c.list_part-used.ensures.listed c.list_part-used.ensures.others in
    let fed : args.self.now.fed < 65536 = omega arith in
    let high : get_or args.bytes.now 5 0 < 256 = omega (arith, c.type_inv.bytes 5) in
    let low : get_or args.bytes.now 6 0 < 256 = omega (arith, c.type_inv.bytes 6) in
    omega (arith, leaves.within high low fed)

pub returns-in-Done : goal.returns-in-Done
returns-in-Done c =
    let args = c.args in
    let leaves = record_leaves frame_limit (direction_number args.found.direction) (state_of args.self.now)
    args.bytes.now args.out.now args.found.count args.next.place c.payload-payload.ensures.0 c.from.ensures
    c.part-part.ensures c.list_part-used.ensures.listed c.list_part-used.ensures.others in
    leaves.done c.in-Done.is

pub returns-in_default : goal.returns-in_default
returns-in_default c =
    let args = c.args in
    let leaves = record_leaves frame_limit (direction_number args.found.direction) (state_of args.self.now)
    args.bytes.now args.out.now args.found.count args.next.place c.payload-payload.ensures.0 c.from.ensures
    c.part-part.ensures c.list_part-used.ensures.listed c.list_part-used.ensures.others in
    leaves.left c.in_default.not-Done _ c.from-in_default.ensures
