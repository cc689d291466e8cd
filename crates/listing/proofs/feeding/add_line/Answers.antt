-- `add_line` meets its contract: a line that has room is put, in the part of the buffer from `at` on.
use Prim.Native.Nat.{ℕ, ◌+◌, ◌≤◌}
use mathlib.Core.Path.{◌≡◌, ap, ◌∙◌}
use mathlib.Core.List.{List}
use Rattle.std.specs.Prelude.{Ok}
use native.Mathlib.Omega.{arith}
use lib.ListN.{length}
use Rattle.frame.specs.Table.{row_of}
use Rattle.listing.specs.Lines.{answer_text}
use Rattle.listing.proofs.Puts.{part_count, part_put}
use Rattle.listing.proofs.feeding.add_line.Goals as goal

pub returns : goal.returns
returns c =
    let text : List ℕ = answer_text c.args.prefix.now (row_of (Ok c.args.fed)) c.args.body.now in
    let fits : c.args.at + length text ≤ length c.args.out.now =
    omega (arith, c.requires, c.line.ensures.in_bounds) in
    let counted : c.count.result ≡ length text = let put = c.line.ensures.writes in
    c.count.ensures ∙ part_count text c.args.out.now c.args.at fits put in
    let put = part_put text c.args.out.now c.args.at fits
    c.line.ensures.writes in
    record { put_at = (ap (λ (n : ℕ). c.args.at + n) counted, put); upper_bound = omega (arith, counted, fits) }
