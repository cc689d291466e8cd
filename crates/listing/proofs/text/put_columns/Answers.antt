use Rattle.std.proofs.Common.{length, ap, arith, ◌∙◌}
use Rattle.std.proofs.lemmas.List.{length-set}
use Rattle.listing.proofs.Puts.{columns_count, columns_put, columns_none}
use Rattle.listing.proofs.text.put_columns.Goals as goal

pub bounds-out-next : goal.bounds-out-next
bounds-out-next c =
    omega (arith, columns_count c.args.numbers.now c.loop-number.number-index c.loop-number-test.true)

pub put_decimal-next-requires : goal.put_decimal-next-requires
put_decimal-next-requires c =
    let left = columns_count c.args.numbers.now c.loop-number.number-index c.loop-number-test.true in
    rw length-set (omega arith)

pub loop-number-preserved : goal.loop-number-preserved
loop-number-preserved c =
    let numbers = c.args.numbers.now in
    let loop = c.loop-number in
    let inside = c.loop-number-test.true in
    let put = c.put_decimal-next.ensures in
    let left = columns_count numbers loop.number-index inside in
    record {
      same_length = c.put_decimal-next.auto.out ∙ rw length-set loop.invariant.same_length;
      ends = omega arith;
      completes = rw (put.0, put.1)
          (columns_put numbers loop.number-index inside loop.out loop.next ∙ loop.invariant.completes);
    }

pub returns : goal.returns
returns c =
    let loop = c.loop-number in
    let none = columns_none c.args.numbers.now loop.number-index c.loop-number-test.false in
    (omega (arith, ap length none), rw none at loop.invariant.completes)
