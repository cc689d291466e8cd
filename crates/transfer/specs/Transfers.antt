-- Statement: the two forms of a transfer, as the definitions and the claims write them. PROTOCOL 15.3.
use Rattle.std.specs.Prelude.{ℕ, Option, Some, None}
use Rattle.transfer.specs.declared.state.Open.{Open}
use Rattle.transfer.specs.declared.state.Transfer.{Transfer}

-- what is open, by the field's name, which antt reserves
abbrev pub open_of : Transfer → Option Open
open_of t = t.«open»

-- none
abbrev pub absent : Transfer
absent = record { «open» = None }

-- of a size, in pieces of a size, of which so many are stored
abbrev pub opened : ℕ → ℕ → ℕ → Transfer
opened size piece stored = record { «open» = Some (record { size = size; piece = piece; stored = stored }) }
