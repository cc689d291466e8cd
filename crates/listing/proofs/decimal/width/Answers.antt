use Rattle.std.proofs.Common.{ap, ◌∙◌, length, arith}
use Rattle.listing.proofs.Digits.{decimal_here, count_most}
use Rattle.listing.proofs.decimal.width.Goals as goal

pub returns : goal.returns
returns c =
    let n = c.args.n in (
      ap length (c.format.ensures.text ∙ decimal_here n (omega arith)),
      rw (c.format.ensures.text, decimal_here n (omega arith)) (count_most 19 n (omega arith)),
    )
