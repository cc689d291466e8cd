use Rattle.std.proofs.Common.{length, ap, arith}
use Rattle.listing.proofs.Puts.{columns_count, columns_none}
use Rattle.listing.proofs.text.columns_width.Goals as goal

pub loop-number-preserved : goal.loop-number-preserved
loop-number-preserved c =
    let left = columns_count c.args.numbers.now c.loop-number.number-index c.loop-number-test.true in
    record { few = omega arith; whole = omega arith }

pub returns : goal.returns
returns c =
    let none = ap length (columns_none c.args.numbers.now c.loop-number.number-index c.loop-number-test.false) in
    (omega arith, omega (arith, c.loop-number.auto.number-index-end))
