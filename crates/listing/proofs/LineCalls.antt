-- within. Assumes nothing.
use Prim.Native.Nat.{◌≤◌}
use native.Mathlib.Omega.{arith}
use borrow.Author.Tests.{ltb-false}
use lib.ListN.{length}
use lib.Dec.{ltb}
use Rattle.base.specs.Outcomes.{Output, written_in}
use Rattle.base.proofs.Tests.{by_test}
use Rattle.listing.specs.LineCalls.{Within}

pub within : Within
within text out =
    by_test (λ (w : Output). written_in w.row ≤ length out) (ltb (length out) (length text)) (λ e. omega arith)
    (λ e. ltb-false (length out) (length text) e)
