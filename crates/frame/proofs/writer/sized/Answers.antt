-- `sized` meets its contract: header, head and parts are measured, and then the sum's own width.
use Rattle.std.proofs.Common.{[], ◌∷◌, arith}
use Rattle.frame.proofs.Stuffing.{stuff_bound}
use Rattle.frame.proofs.Writing.{framed-length}
use Rattle.frame.proofs.writer.sized.Goals as goal

pub added-count-requires : goal.added-count-requires
added-count-requires g c = omega (arith, stuff_bound c.args.head)

pub overflow_add-result : goal.overflow_add-result
overflow_add-result g c =
    omega (
      arith,
      stuff_bound c.args.head,
      stuff_bound (g.P.Bytes.bytes c.args.payload),
      stuff_bound (c.added-count.result.sum ∷ []),
    )

pub returns : goal.returns
returns g c = omega (arith, framed-length c.args.head (g.P.Bytes.bytes c.args.payload) c.added-count.result.sum)
