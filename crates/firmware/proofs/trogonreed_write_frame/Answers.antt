-- `trogonreed_write_frame` meets its contract: the count and the length are far below 2^32.
use Rattle.std.proofs.Common.{◌≡◌, ℕ, ◌≤◌, List, subst, sym, arith}
use Rattle.base.specs.Outcomes.{Output, written_in, needed_in}
use Rattle.frame.specs.Calls.{write_of}
use Rattle.frame.specs.Wire.{frame_limit}
use Rattle.firmware.specs.CodeExact.{Arguments}
use Rattle.firmware.proofs.CodeExact.{counts_below, lengths_below}
use Rattle.firmware.proofs.trogonreed_write_frame.Goals as goal

module _ (command number flags : ℕ) (payload out : List ℕ) (a : Output)
    (e : a ≡ write_of frame_limit command number flags payload out) where
  abbrev arguments : Arguments
  arguments = record { command = command; number = number; flags = flags; payload = payload; out = out }

  count_below : written_in a.row ≤ 2054
  count_below = subst (λ (o : Output). written_in o.row ≤ 2054) (sym e) (counts_below.ours arguments)

  length_below : needed_in a.row ≤ 2054
  length_below = subst (λ (o : Output). needed_in o.row ≤ 2054) (sym e) (lengths_below.ours arguments)

pub overflow_cast-result : goal.overflow_cast-result
overflow_cast-result c =
    let args = c.args in
    let below = count_below args.command args.number args.flags args.payload.now args.out.now _ c.in-Ok.ensures in
    record { fits = omega (arith, below) }

pub overflow_cast-result-in-Err-Room : goal.overflow_cast-result-in-Err-Room
overflow_cast-result-in-Err-Room c =
    let args = c.args in
    let below = length_below args.command args.number args.flags args.payload.now args.out.now _
    (rw c.in-Err-Room.field-0-is at c.in-Err-Room.ensures) in
    record { fits = omega (arith, below) }

pub overflow_add-result : goal.overflow_add-result
overflow_add-result c =
    let args = c.args in
    let below = length_below args.command args.number args.flags args.payload.now args.out.now _
    (rw c.in-Err-Room.field-0-is at c.in-Err-Room.ensures) in
    record { fits = omega (arith, below) }
