-- Model: reading a payload (PROTOCOL 7.4 to 7.9), held to the layouts and the table by reads_exactly, parts_exactly and
-- contracts_complete.
use Rattle.std.specs.Prelude.{ℕ, ◌≡◌, Bool, true, false, cond, ◌&&◌, List, ◌∷◌, Result, Ok, Err}
use Rattle.base.specs.Rows.{Row}
use Rattle.message.specs.Commands.{kind_of}
use Rattle.message.specs.Layouts.{is_listed, allowed, values_of, parts_in, size_fits}
use Rattle.message.specs.Table.{Read, got, refusal}
use Rattle.message.specs.declared.kind.Kind.{Kind}
use Rattle.message.specs.declared.parts.Parts.{Parts}
use Rattle.message.specs.declared.reader.ReadError.{ReadError}
use Rattle.message.specs.declared.reader.ReadError.TheVariants.{Size, Field}

-- size before field: PROTOCOL 7.7
abbrev pub checked_of : Bool → Bool → List ℕ → Parts → Read
checked_of sized allows values parts = cond sized (cond allows (got values parts) (refusal 33)) (refusal 32)

-- what the reading of a part answers: values that are those of the part, or SIZE before FIELD
abbrev pub Found : {A : Type 0} → (A → List ℕ) → Bool → Bool → List ℕ → Result A ReadError → Type 0
Found values_in sized allows values (Ok a) = (sized ≡ true) × (allows ≡ true) × (values_in a ≡ values)
Found values_in sized allows values (Err e) = ((sized && allows) ≡ false) × (e ≡ cond sized Field Size)

-- COMMAND before both
abbrev pub decode_as : Kind → ℕ → List ℕ → Read
decode_as k command p =
    cond (is_listed k) (checked_of (size_fits k p) (allowed k p) (command ∷ values_of k p) (parts_in k p)) (refusal 31)

-- by the kind of the command
abbrev pub decode_of : ℕ → List ℕ → Read
decode_of command p = decode_as (kind_of command) command p

-- the row
abbrev pub read_of : ℕ → List ℕ → Row
read_of command p = (decode_of command p).row

-- the parts
abbrev pub parts_of : ℕ → List ℕ → Parts
parts_of command p = (decode_of command p).parts
