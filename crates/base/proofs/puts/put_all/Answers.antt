use Rattle.std.proofs.Common.{◌≡◌, length, arith, refl}
use Rattle.std.proofs.Math.Seq.{take-length}
use Rattle.base.proofs.Stores.{put_more}
use Rattle.base.proofs.puts.put_all.Goals as goal

pub loop-byte-preserved : goal.loop-byte-preserved
loop-byte-preserved c =
    let here = c.loop-byte in (
      omega arith,
      put_more c.args.out.now c.args.bytes.now c.args.at here.byte-index (omega arith) here.invariant.0
          here.invariant.1,
    )

pub returns : goal.returns
returns c =
    let whole : c.loop-byte.byte-index ≡ length c.args.bytes.now = omega arith in
    (refl, rw (whole, take-length c.args.bytes.now) at c.loop-byte.invariant.1)
