-- Statement: the number and the values of each answer. PROTOCOL 13.4 to 13.10.
use Rattle.std.specs.Prelude.{ℕ, ◌<◌, ◌≡◌, [], ◌∷◌, Result, Ok, Err, MatchResult}
use Rattle.base.specs.Rows.{Row, row}
use Rattle.base.specs.Outcomes.{Outcome, outcome}
use Rattle.capture.specs.declared.reading.Cursor.{Cursor}
use Rattle.capture.specs.declared.reading.Ending.{Ending}
use Rattle.capture.specs.declared.reading.Ending.TheVariants as end
use Rattle.capture.specs.declared.reading.NextError.{NextError}
use Rattle.capture.specs.declared.reading.NextError.TheVariants as error
use Rattle.capture.specs.declared.reading.Refusal.{Refusal}
use Rattle.capture.specs.declared.reading.Refusal.TheVariants as refusal
use Rattle.capture.specs.declared.reading.Taken.{Taken}
use Rattle.capture.specs.declared.reading.Taken.TheVariants as taken
use Rattle.capture.specs.declared.record.Direction.{Direction}
use Rattle.capture.specs.declared.record.Direction.TheVariants as direction
use Rattle.capture.specs.declared.record.UnknownDirection.{UnknownDirection}

-- the first byte of a record: PROTOCOL 13.3
abbrev pub direction_number : Direction → ℕ
direction_number direction.FromModule = 0
direction_number direction.FromBox = 1

-- the direction that a first byte says; every other byte comes back
abbrev pub IsDirection : ℕ → Result Direction UnknownDirection → Type 0
IsDirection byte r = MatchResult r (λ d. direction_number d ≡ byte) (λ e. (e.0 ≡ byte) × (1 < byte))

-- PROTOCOL 13.5 to 13.8
abbrev pub refusal_number : Refusal → ℕ
refusal_number refusal.Mark = 51
refusal_number refusal.Version = 52
refusal_number refusal.Direction = 53
refusal_number refusal.Ended = 54

-- the bytes that were taken
abbrev pub taken_number : Taken → ℕ
taken_number taken.Lacking = 0
taken_number taken.Head = 5
taken_number (taken.Record r) = r.count

-- a refusal has its place
abbrev pub error_row_of : NextError → Row
error_row_of (error.Refused r place) = row (refusal_number r) (place ∷ [])
error_row_of error.State = row 17 (0 ∷ [])
error_row_of error.Used = row 18 (0 ∷ [])

-- the answers to `next`: MORE with the count taken, or a record's count, direction and milliseconds under 1, which here
-- is not FRAME
abbrev pub next_row_of : Result Taken NextError → Row
next_row_of (Ok taken.Lacking) = row 0 (0 ∷ [])
next_row_of (Ok taken.Head) = row 0 (5 ∷ [])
next_row_of (Ok (taken.Record r)) = row 1 (r.count ∷ direction_number r.direction ∷ r.milliseconds ∷ [])
next_row_of (Err e) = error_row_of e

-- what the code's `next` returns and leaves: its row, and the place after what it took
abbrev pub taken_of : Result Taken NextError → Cursor → Outcome ℕ
taken_of r c = outcome (next_row_of r) c.place

-- the answers to `finish`: a whole capture has the place of its end under 2
abbrev pub end_row_of : Result Ending NextError → Row
end_row_of (Ok end.More) = row 0 (0 ∷ [])
end_row_of (Ok (end.Whole place)) = row 2 (place ∷ [])
end_row_of (Err e) = error_row_of e
