-- `Open::put` puts the next piece, and leaves the one just stored.
use Rattle.transfer.proofs.StoreLaws.{put_next}
use Rattle.transfer.proofs.state.Open.put.Goals as goal

pub returns-then-index-self : goal.returns-then-index-self
returns-then-index-self c =
    let args = c.args in
    let o = args.self.now in
    put_next o.size o.piece o.stored args.index args.bytes.now args.buffer.now c.if-index-self.true
    (c.requires c.if-index-self.true) _ _ _ c.start.ensures c.put_bytes.ensures
