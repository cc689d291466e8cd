-- `put` of three chunks meets its contract: they follow one another.
use Rattle.std.proofs.Common.{◌∙◌, ap, length, arith}
use Rattle.std.proofs.Math.Seq.{length-sets}
use Rattle.frame.specs.Wire.{stuff}
use Rattle.frame.proofs.Writing.{put_append, stuffed_length}
use Rattle.frame.proofs.writer.ChunksBytes.put.Goals as goal

pub put-after_first-requires : goal.put-after_first-requires
put-after_first-requires c =
    let s = c.args.self in
    omega (arith, stuffed_length s.first.now s.second.now s.third.now)

pub put-after_second-requires : goal.put-after_second-requires
put-after_second-requires c =
    let s = c.args.self in
    let kept = ap length c.put-after_first.ensures.1 ∙ length-sets c.args.out.now c.args.at (stuff s.first.now) in
    omega (arith, kept, c.put-after_first.ensures.0, stuffed_length s.first.now s.second.now s.third.now)

pub put-requires : goal.put-requires
put-requires c =
    let s = c.args.self in
    let kept = ap length c.put-after_first.ensures.1 ∙ length-sets c.args.out.now c.args.at (stuff s.first.now) in
    let first = c.put-after_first in
    let same = ap length c.put-after_second.ensures.1 ∙ length-sets first.new.out first.result (stuff s.second.now) in
    omega (
      arith,
      kept,
      same,
      c.put-after_first.ensures.0,
      c.put-after_second.ensures.0,
      stuffed_length s.first.now s.second.now s.third.now,
    )

pub returns : goal.returns
returns c =
    let s = c.args.self in
    let rest = put_append _ s.second.now s.third.now _ c.put-after_second.ensures c.put.ensures in
    put_append _ s.first.now _ _ c.put-after_first.ensures rest
