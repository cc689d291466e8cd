-- Literal messages and their bytes, by computation. Assumes nothing.
use mathlib.Core.Path.{refl}
use borrow.Author.Tests.{le-ltb}
use lib.ListN.{length}
use Rattle.base.specs.Sums.{total}
use Rattle.base.specs.Keys.{among}
use Rattle.frame.specs.Wire.{stuff, body_of}
use Rattle.message.specs.Commands.{table, profile_in}
use Rattle.message.specs.WritingWorked.{Example4, WorkedWritings}

pub example_4 : Example4
unfolding stuff total body_of among table profile_in
example_4 limit l out h = rw (le-ltb limit 14 l, le-ltb (length out) 19 h)

pub worked_writings : WorkedWritings
worked_writings = record { status = refl; control = refl; network = refl; named = refl; numbers = refl }
