-- `put_all` meets its contract. The loop's invariant: the bytes so far are put.
use Rattle.std.proofs.Common.{◌≡◌, ◌+◌, take}
use Rattle.std.proofs.lemmas.List.Edits.{sets}
use Rattle.base.proofs.puts.put_all.Given as goal

abbrev pub invariant-loop-byte : goal.invariant-loop-byte
invariant-loop-byte l =
    (l.next ≡ l.at + l.byte-index) × (l.out ≡ sets l.fn.out l.at (take l.byte-index l.bytes))
