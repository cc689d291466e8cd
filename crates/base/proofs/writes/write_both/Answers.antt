-- `writes::write_both` meets its contract: where both pieces fit, their join is put.
use Prim.Native.Nat.{ℕ, ◌+◌}
use mathlib.Core.Path.{◌≡◌}
use mathlib.Core.List.{List, ◌++◌}
use native.Mathlib.Omega.{arith}
use lib.ListN.{length, length-append}
use Rattle.base.proofs.Stores.{put_fitting, put_join, put_placed}
use Rattle.base.proofs.writes.write_both.Goals as goal

pub returns : goal.returns
returns c =
    let whole : List ℕ = c.args.first.now ++ c.args.second.now in
    let whole_length : length whole ≡ length c.args.first.now + length c.args.second.now =
    length-append c.args.first.now c.args.second.now in
    let args = c.args in
    let one = put_fitting args.out.now 0 args.first.now (omega arith) c.put_bytes-at.ensures in
    let two = put_fitting c.put_bytes-at.new.out c.put_bytes-at.result args.second.now
    (omega (arith, c.put_bytes-at.auto.out, one.0)) c.put_bytes.ensures in
    put_placed whole args.out.now (omega (arith, whole_length))
    (put_join args.out.now args.first.now args.second.now 0 one two)
