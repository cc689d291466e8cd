-- `columns_width` meets its contract. The loop's invariant: what was counted and what is left are the whole.
use Rattle.std.proofs.Common.{◌≡◌, ◌+◌, ◌*◌, ◌≤◌, length, drop}
use Rattle.listing.specs.Lines.{columns_of}
use Rattle.listing.proofs.text.columns_width.Given as goal

abbrev pub invariant-loop-number : goal.invariant-loop-number
invariant-loop-number l = record {
  few : l.count ≤ 21 * l.number-index;
  whole : l.count + length (columns_of (drop l.number-index l.numbers)) ≡ length (columns_of l.numbers);
}
