-- Statement: the number and the values of each answer. PROTOCOL 4.1 to 4.12, 4.19, 4.20, 12.4.
use Rattle.std.specs.Prelude.{ℕ, List, [], ◌∷◌, Option, Some, None, Result, Ok, Err, drop, slice_index}
use Rattle.base.specs.Rows.{Row, row}
use Rattle.frame.specs.State.{Event, Quiet, Decided}
use Rattle.frame.specs.declared.reader.Decision.{Decision}
use Rattle.frame.specs.declared.reader.Fed.{Fed}
use Rattle.frame.specs.declared.reader.FeedError.{FeedError}
use Rattle.frame.specs.declared.reader.Finish.{Finish}
use Rattle.base.specs.declared.writes.StateError.{StateError}
use Rattle.frame.specs.declared.scan.Verdict.{Verdict}
use Rattle.frame.specs.declared.reader.FeedError.TheVariants as refused
use Rattle.frame.specs.declared.reader.Finish.TheVariants as ending
use Rattle.frame.specs.declared.scan.Verdict.TheVariants as verdict

-- the numbers of the verdicts: PROTOCOL 4.2, 4.4 to 4.8
abbrev pub verdict_number : Verdict → ℕ
verdict_number verdict.Frame = 1
verdict_number verdict.Short = 11
verdict_number verdict.Long = 12
verdict_number (verdict.Stuff byte) = 13
verdict_number (verdict.StuffLate byte) = 19
verdict_number verdict.Cut = 14
verdict_number (verdict.Sum found computed) = 15

-- and the values that they carry: PROTOCOL 4.19, 4.20
abbrev pub verdict_values : Verdict → List ℕ
verdict_values verdict.Frame = []
verdict_values verdict.Short = []
verdict_values verdict.Long = []
verdict_values (verdict.Stuff byte) = byte ∷ []
verdict_values (verdict.StuffLate byte) = byte ∷ []
verdict_values verdict.Cut = []
verdict_values (verdict.Sum found computed) = found ∷ computed ∷ []

-- the answer to a feed that decides a frame: count, start and end, then what the verdict carries
abbrev pub decided_row : Verdict → ℕ → ℕ → ℕ → Row
decided_row v count start end = row (verdict_number v) (count ∷ start ∷ end ∷ verdict_values v)

-- the same for what one byte decides; a byte that decides nothing is MORE
abbrev pub event_row : Event → ℕ → ℕ → ℕ → Row
event_row Quiet count start end = row 0 (count ∷ [])
event_row (Decided v) count start end = decided_row v count start end

-- the answer to a feed that is not refused, by its count and what is decided
abbrev pub decision_row : ℕ → Option Decision → Row
decision_row count None = row 0 (count ∷ [])
decision_row count (Some d) = decided_row d.verdict count d.start.0 d.end.0

-- the answers to a feed
abbrev pub row_of : Result Fed FeedError → Row
row_of (Ok fed) = decision_row fed.count fed.decision
row_of (Err refused.State) = row 17 (0 ∷ [])
row_of (Err refused.Used) = row 18 (0 ∷ [])

-- the answers to a finish
abbrev pub finish_row_of : Result Finish StateError → Row
finish_row_of (Ok (ending.Clean consumed)) = row 2 (consumed.0 ∷ [])
finish_row_of (Ok (ending.Open consumed start)) = row 16 (consumed.0 ∷ start.0 ∷ [])
finish_row_of (Err e) = row 17 (0 ∷ [])

-- the count of an answer to a feed
abbrev pub count_of : Row → ℕ
count_of r = slice_index r.values 0

-- its values after count, start and end
abbrev pub further_of : Row → List ℕ
further_of r = drop 3 r.values
