-- `empty` meets its contract: its data and reading's answer decide.
use Rattle.frame.specs.Wire.{frame_limit}
use Rattle.message.proofs.Sending.{empty_by_read, empty_refused}
use Rattle.message.proofs.writer.Outgoing.empty.Goals as goal

pub returns-in_err-read : goal.returns-in_err-read
returns-in_err-read c =
    let s = c.args.self in
    empty_refused frame_limit s.head.command s.head.number s.head.flags s.opaque.now c.args.out.now
    c.in_err-read.field-0.0 c.from_residual.result c.in_err-read.ensures c.from_residual.ensures.1

pub returns : goal.returns
returns c =
    let s = c.args.self in
    let by_read = empty_by_read frame_limit s.head.command s.head.number s.head.flags s.opaque.now c.args.out.now in
    rw (by_read, ← c.in_ok-read.ensures) c.bare.ensures
