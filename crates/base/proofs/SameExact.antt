-- same_exactly. Assumes nothing.
use Rattle.base.specs.SameExact.{SameExactly}
use Rattle.base.proofs.Compared.{equal_of, same_of}

pub same_exactly : SameExactly
same_exactly a b = record { equal = equal_of a b; same = λ e. rw e (same_of b) }
