-- Model: the end of a replay's text, held to `IsReplay` by turns_replay, and to the buffer by closes_exactly.
-- PROTOCOL 14.3, 14.5, 14.6.
use Rattle.std.specs.Prelude.{ℕ, cond, ◌≡◌, List, [], ◌∷◌, ◌++◌, Result, get_or, eqb, ltb}
use Rattle.base.specs.Rows.{Row, row}
use Rattle.base.specs.Outcomes.{Output, output, placed, rowed}
use Rattle.frame.specs.Calls.{finish_of}
use Rattle.frame.specs.State.{State as Reader}
use Rattle.listing.specs.Lines.{last_of, refusal_text}
use Rattle.capture.specs.Reading.{end_of}
use Rattle.replay.specs.Lines.{prefix_of}
use Rattle.replay.specs.State.{State, in_range_of}
use Rattle.replay.specs.Table.{closing_row_of}
use Rattle.replay.specs.declared.closing.CloseError.{CloseError}
use Rattle.replay.specs.declared.closing.Closing.{Closing}

-- the end line of a direction
abbrev pub end_line : ℕ → ℕ → Reader → List ℕ
end_line limit direction r = last_of (prefix_of direction) (finish_of limit r).row

-- both: of 0, then of 1
abbrev pub end_lines : ℕ → State → List ℕ
end_lines limit s = end_line limit 0 s.reader0 ++ end_line limit 1 s.reader1

-- the text that ends a replay, by the row of the capture's end: a whole one is 2, a refused one is above 50
abbrev pub closing_text : ℕ → State → Row → List ℕ
closing_text limit s end =
    cond (eqb end.number 2) (end_lines limit s)
    (cond (ltb 50 end.number) (refusal_text end.number (get_or end.values 0 0)) [])

-- the answer, where a text of so many bytes is written
abbrev pub closing_row : Row → ℕ → Row
closing_row end count =
    cond (eqb end.number 2) (row 2 (count ∷ []))
    (cond (ltb 50 end.number) (row end.number (count ∷ get_or end.values 0 0 ∷ [])) end)

-- the text is placed like every other; where it is written, its count has the end's row
abbrev pub closed : Row → List ℕ → List ℕ → Output
closed end text out = rowed (closing_row end) (placed text out)

-- a call of `finish`: STATE comes first
abbrev pub close_of : ℕ → State → List ℕ → List ℕ → Output
close_of limit s b out =
    cond (in_range_of limit s) (closed (end_of s.place b) (closing_text limit s (end_of s.place b)) out)
    (output (row 17 (0 ∷ [])) out)

-- what the code's `finish` returns, and the buffer after it, is this output
abbrev pub Closes : Result Closing CloseError → List ℕ → Output → Type 0
Closes r after w = output (closing_row_of r) after ≡ w
