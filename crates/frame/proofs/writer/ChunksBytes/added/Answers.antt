-- `added` of three chunks meets its contract: each is added to what the ones before it come to.
use Rattle.std.proofs.Common.{arith}
use Rattle.frame.proofs.Stuffing.{stuff_bound}
use Rattle.frame.proofs.Writing.{add_append, chunks_length}
use Rattle.frame.proofs.writer.ChunksBytes.added.Goals as goal

pub added-requires-2 : goal.added-requires-2
added-requires-2 c =
    let s = c.args.self in
    omega (arith, chunks_length s.first.now s.second.now s.third.now, stuff_bound s.first.now)

pub added-requires-3 : goal.added-requires-3
added-requires-3 c =
    let s = c.args.self in
    omega (
      arith,
      chunks_length s.first.now s.second.now s.third.now,
      stuff_bound s.first.now,
      stuff_bound s.second.now,
    )

pub returns : goal.returns
returns c =
    let s = c.args.self in
    let from = c.args.from in
    let rest = add_append _ _ s.second.now s.third.now c.added-2.ensures c.added-3.ensures in
    add_append from.count from.sum s.first.now _ c.added.ensures rest
