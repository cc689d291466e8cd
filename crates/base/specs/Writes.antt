-- Statement: the number and the values of the answer to a write. PROTOCOL 6.3, 6.4, 6.7.
use Rattle.std.specs.Prelude.{ℕ, ◌≡◌, List, [], ◌∷◌, Result, Ok, Err}
use Rattle.base.specs.Rows.{Row, row}
use Rattle.base.specs.Outcomes.{Output, output}
use Rattle.base.specs.declared.writes.WriteError.{WriteError}
use Rattle.base.specs.declared.writes.WriteError.TheVariants as unwritten

-- why nothing was written; ROOM has the bytes that are needed
abbrev pub unwritten_row_of : WriteError → Row
unwritten_row_of unwritten.Payload = row 21 (0 ∷ [])
unwritten_row_of (unwritten.Room needed) = row 22 (needed ∷ [])

-- the count, under 0, which is not MORE; or why nothing was written
abbrev pub write_row_of : Result ℕ WriteError → Row
write_row_of (Ok count) = row 0 (count ∷ [])
write_row_of (Err why) = unwritten_row_of why

-- what the code's call returns, and the caller's buffer afterwards, is this output
abbrev pub Writes : Result ℕ WriteError → List ℕ → Output → Type 0
Writes r after w = output (write_row_of r) after ≡ w
