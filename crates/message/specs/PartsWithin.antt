-- Claims: each part lies inside its payload and is returned whole. PROTOCOL 7.9.
use Rattle.std.specs.Prelude.{ℕ, ◌+◌, ◌≤◌, List, length}
use Rattle.std.specs.Borrow.{Bor}
use Rattle.base.specs.Parts.{IsPart}
use Rattle.message.specs.Parts.{EachPlace, PartAt}
use Rattle.message.specs.Reading.{parts_of}
use Rattle.message.specs.declared.parts.Place.{Place}

-- ---- parts_within: each part lies inside its payload, whatever that is
abbrev pub PartsWithin : Type 0
PartsWithin = (command : ℕ) (p : List ℕ) → EachPlace (λ s. s.start + s.size ≤ length p) (parts_of command p)

-- ---- part_returned: the slice for a place that reading gave is the whole part there

-- the part that a place names, all of it inside the payload
pub record WholePart (payload part : Bor (List ℕ)) (s : Place) : Type 0 where
  pub part_is : IsPart payload part s.start s.size
  pub within : s.start + s.size ≤ length payload.now

-- of each of the eight places, and of every slice that a call may return for it
abbrev pub PartReturned : Type 0
PartReturned =
    (command : ℕ) (payload : Bor (List ℕ))
    → EachPlace (λ s. (part : Bor (List ℕ)) → PartAt payload part s → WholePart payload part s)
    (parts_of command payload.now)
