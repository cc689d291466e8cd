-- `width` meets its contract.
use Rattle.frame.proofs.Writing.{stuff_ff, stuff_other}
use Rattle.frame.proofs.writer.width.Goals as goal

pub returns-then-byte-eq255 : goal.returns-then-byte-eq255
returns-then-byte-eq255 c = rw (stuff_ff c.if-byte-eq255.true)

pub returns-else-byte-eq255 : goal.returns-else-byte-eq255
returns-else-byte-eq255 c = rw (stuff_other c.if-byte-eq255.false)
