-- Statement: the one number that the exported writer returns. PROTOCOL 6.9, 6.12.
-- Its answers are the rows of frame's writer; the caller's buffer is the same.
use Rattle.std.specs.Prelude.{ℕ, ◌+◌, ◌-◌, cond, List, [], ◌∷◌, eqb, ltb}
use Rattle.base.specs.Rows.{Row, row}
use Rattle.base.specs.Outcomes.{Output, written_in, needed_in}

-- the least number that is not a count; PAYLOAD's number is added to it
abbrev pub refused : ℕ
refused = 65536

-- the least number that is ROOM; the length that is needed is added to it
abbrev pub no_room : ℕ
no_room = 131072

-- the number that C gets for a row; the row of a count has number 0 (PROTOCOL 6.7)
abbrev pub returned_number : Row → ℕ
returned_number r =
    cond (eqb r.number 0) (written_in r) (cond (eqb r.number 22) (no_room + needed_in r) (refused + r.number))

-- the length that a C caller reads out of the number: 0 where it is not ROOM
abbrev pub needed_from : ℕ → ℕ
needed_from code = cond (ltb code no_room) 0 (code - no_room)

-- the row that a C caller reads out of the number
abbrev pub row_from : ℕ → Row
row_from code =
    cond (ltb code refused) (row 0 (code ∷ []))
    (cond (ltb code no_room) (row (code - refused) (0 ∷ [])) (row 22 (needed_from code ∷ [])))

-- the number, and the caller's buffer afterwards
pub record Returned : Type 0 where
  pub code : ℕ
  pub out : List ℕ

-- shorthand for a result
abbrev pub returned : ℕ → List ℕ → Returned
returned c o = record { code = c; out = o }

-- the result for what the writer answers and leaves
abbrev pub returned_of : Output → Returned
returned_of w = returned (returned_number w.row) w.out
