-- `put_columns` meets its contract. The loop's invariant: what is left, put from `next` on, completes the text.
use Rattle.std.proofs.Common.{◌≡◌, ◌+◌, length, drop}
use Rattle.std.proofs.lemmas.List.Edits.{sets}
use Rattle.listing.specs.Lines.{columns_of}
use Rattle.listing.proofs.text.put_columns.Given as goal

abbrev pub invariant-loop-number : goal.invariant-loop-number
invariant-loop-number l = record {
  same_length : length l.out ≡ length l.initial.out;
  ends : l.next + length (columns_of (drop l.number-index l.numbers)) ≡ l.at + length (columns_of l.numbers);
  completes : sets l.out l.next (columns_of (drop l.number-index l.numbers))
      ≡ sets l.initial.out l.at (columns_of l.numbers);
}
