-- Statement: what a call answers and leaves: a state, or bytes in the caller's buffer. PROTOCOL 6.1, 6.4, 12.2.
use Rattle.std.specs.Prelude.{ℕ, cond, List, [], ◌∷◌, ◌++◌, length, get_or, drop, eqb, ltb}
use Rattle.base.specs.Rows.{Row, row}

-- the row of a call, and the state that it returns
pub record Outcome (S : Type 0) : Type 0 where
  pub row : Row
  pub state : S

-- shorthand for an outcome, as the models of calls write it
abbrev pub outcome : {S : Type 0} → Row → S → Outcome S
outcome a s = record { row = a; state = s }

-- the row of a call that writes, and the caller's buffer afterwards
pub record Output : Type 0 where
  pub row : Row
  pub out : List ℕ

-- shorthand for an output, as the models of calls that write have it
abbrev pub output : Row → List ℕ → Output
output a o = record { row = a; out = o }

-- bytes at the front of a buffer, whose rest stays
abbrev pub onto : List ℕ → List ℕ → List ℕ
onto w out = w ++ drop (length w) out

-- the bytes that a call wrote, by its answer: none where it is refused
abbrev pub written_in : Row → ℕ
written_in r = cond (eqb r.number 0) (get_or r.values 0 0) 0

-- the bytes of room that a call needs, by its answer: ROOM says them
abbrev pub needed_in : Row → ℕ
needed_in r = cond (eqb r.number 22) (get_or r.values 0 0) 0

-- bytes that fit go to the front of the buffer, and their count is under 0, which is not MORE: PROTOCOL 6.7.
-- Bytes that do not fit are ROOM with their count, and the buffer is unchanged: PROTOCOL 6.4, 6.12
abbrev pub placed : List ℕ → List ℕ → Output
placed w out =
    cond (ltb (length out) (length w)) (output (row 22 (length w ∷ [])) out)
    (output (row 0 (length w ∷ [])) (onto w out))

-- an output that is not refused, with another row for its count
abbrev pub rowed : (ℕ → Row) → Output → Output
rowed f w = cond (eqb w.row.number 0) (output (f (written_in w.row)) w.out) w
