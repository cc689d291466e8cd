-- `writes::write_ready` writes into what is left of the output, and a check code that is too long is PAYLOAD.
use native.Mathlib.Omega.{arith}
use Rattle.frame.specs.Wire.{frame_limit}
use Rattle.frame.specs.Calls.{write_of}
use Rattle.transfer.specs.Writing.{ready_payload}
use Rattle.transfer.proofs.PairLaws.{rest_written, not_frame, ready_other}
use Rattle.transfer.proofs.writes.write_ready.Goals as goal

pub returns-in-Command : goal.returns-in-Command
returns-in-Command c =
    let args = c.args in
    rest_written args.out.now args.from
    (write_of frame_limit 0x1B args.number 0 (ready_payload args.piece args.code.now)) _ _
    (ready_other frame_limit args.piece args.number args.code.now _ (omega arith) _ c.in-Err.error
    (not_frame c.in-Err.error c.in-Command.is) c.in-Err.ensures)
