use Rattle.std.proofs.Common.{◌≡◌, ◌+◌, List, ℕ, length, arith, ap}
use Rattle.listing.proofs.Digits.{decimal_here}
use Rattle.listing.proofs.Puts.{put_between}
use Rattle.listing.specs.Digits.{decimal_of}
use Rattle.listing.proofs.decimal.put_decimal.Goals as goal

pub write_digits-requires : goal.write_digits-requires
write_digits-requires c =
    let same = ap length (decimal_here c.args.n (omega arith)) in
    (omega arith, omega arith)

pub returns : goal.returns
returns c =
    let put = c.write_digits in
    let digits : List ℕ = decimal_of c.args.n in
    let here = decimal_here c.args.n (omega arith) in
    let same = ap length here in
    let start : put.result ≡ c.args.at = omega arith in
    let end : c.args.at + c.width.result ≡ c.args.at + length digits = omega arith in (
      end,
      put_between digits c.args.out.now put.new.buf c.args.at (omega arith) (rw start at put.ensures.before)
          (rw (here, end, start) at put.ensures.written),
    )
