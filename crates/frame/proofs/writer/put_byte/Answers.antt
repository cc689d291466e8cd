-- `put_byte` meets its contract: one store, and a second one after an FF.
use Rattle.std.proofs.Common.{length, ap, add-one, arith, length-set}
use Rattle.frame.specs.Wire.{stuff}
use Rattle.frame.proofs.Writing.{stuff_ff, stuff_other}
use Rattle.frame.proofs.writer.put_byte.Goals as goal

pub bounds-out-at : goal.bounds-out-at
unfolding stuff
bounds-out-at c = omega arith

pub bounds-out-at-then-byte-eq255 : goal.bounds-out-at-then-byte-eq255
bounds-out-at-then-byte-eq255 c = simp length-set (omega (arith, ap length (stuff_ff c.if-byte-eq255.true)))

pub returns-then-byte-eq255 : goal.returns-then-byte-eq255
returns-then-byte-eq255 c =
    let e = stuff_ff c.if-byte-eq255.true in
    (rw e, rw (e, add-one))

pub returns-else-byte-eq255 : goal.returns-else-byte-eq255
returns-else-byte-eq255 c =
    let e = stuff_other c.if-byte-eq255.false in
    (rw e, rw e)
