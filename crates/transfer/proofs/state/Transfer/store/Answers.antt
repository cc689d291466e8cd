-- `Transfer::store` puts the piece, or says the first refusal.
use mathlib.Core.Path.{refl}
use Rattle.frame.specs.Wire.{frame_limit}
use Rattle.transfer.proofs.CallLaws.{part_bytes, store_room, store_wrote}
use Rattle.transfer.proofs.state.Transfer.store.Goals as goal

pub put-requires : goal.put-requires
put-requires c =
    let args = c.args in
    let piece = c.in-Ok.piece in
    store_room args.self.now c.in-Some.open c.in-Some.is args.flags args.payload.now args.buffer.now
    c.part.result.now piece c.in-Ok.ensures.read
    (part_bytes args.payload.now _ piece.bytes piece.bytes refl c.part.ensures.bytes) c.in-Ok.ensures.number

pub returns-in-Some : goal.returns-in-Some
returns-in-Some c =
    let args = c.args in
    let piece = c.in-Ok.piece in
    store_wrote args.self.now c.in-Some.open c.in-Some.is args.flags args.payload.now args.buffer.now
    c.part.result.now piece c.in-Ok.ensures.read
    (part_bytes args.payload.now _ piece.bytes piece.bytes refl c.part.ensures.bytes) c.in-Ok.ensures.number
    frame_limit args.number args.out.now _ _ c.in_ok-count.ensures _ c.put.ensures
