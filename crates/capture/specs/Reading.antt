-- Model: what `next` and `finish` answer, held to `Reads` by windows_read and one_reading. PROTOCOL 13.4 to 13.10.
-- The contracts equate the code with these.
use Rattle.std.specs.Prelude.{ℕ, ◌+◌, ◌^◌, Bool, true, cond, ◌&&◌, ◌||◌, List, [], ◌∷◌, length, get_or, eqb, ltb, leb}
use Rattle.base.specs.Rows.{Row, row}
use Rattle.base.specs.Outcomes.{Outcome, outcome}
use Rattle.capture.specs.Format.{mark, head, direction_of, milliseconds_of, size_of}

-- whether bytes are as wanted, as far as both go
unfoldable pub agrees : List ℕ → List ℕ → Bool
agrees [] b = true
agrees (x ∷ w) [] = true
agrees (x ∷ w) (y ∷ b) = eqb x y && agrees w b

-- a cursor's range: at the beginning, or after the head: PROTOCOL 13.9
abbrev pub in_range_of : ℕ → Bool
in_range_of place = eqb place 0 || (leb 5 place && leb place (2 ^ 62))

-- bytes are lacking
abbrev pub lacking : ℕ → Outcome ℕ
lacking place = outcome (row 0 (0 ∷ [])) place

-- the head: each byte that is there is tested
abbrev pub head_of : List ℕ → Outcome ℕ
head_of b =
    cond (agrees mark b)
    (cond (agrees head b)
    (cond (ltb (length b) 5) (lacking 0) (outcome (row 0 (5 ∷ [])) 5))
    (outcome (row 52 (3 ∷ [])) 0))
    (outcome (row 51 (0 ∷ [])) 0)

-- a record of this direction is taken when all of it is there
abbrev pub record_in : ℕ → ℕ → List ℕ → Outcome ℕ
record_in direction place b =
    cond (ltb (length b) (size_of b)) (lacking place)
    (outcome (row 1 (size_of b ∷ direction ∷ milliseconds_of b ∷ [])) (place + size_of b))

-- its first byte is tested as soon as it is there; a missing one reads as 0
abbrev pub record_of : ℕ → List ℕ → Outcome ℕ
record_of place b =
    cond (ltb 1 (direction_of b)) (outcome (row 53 (place ∷ [])) place) (record_in (direction_of b) place b)

-- a call of `next`
abbrev pub next_of : ℕ → List ℕ → Outcome ℕ
next_of place b =
    cond (in_range_of place)
    (cond (leb (place + length b) (2 ^ 62)) (cond (eqb place 0) (head_of b) (record_of place b))
    (outcome (row 18 (0 ∷ [])) place))
    (outcome (row 17 (0 ∷ [])) place)

-- the capture ends where nothing can be taken
abbrev pub lacking_of : ℕ → List ℕ → Row
lacking_of place b =
    cond (eqb place 0) (cond (ltb (length b) 3) (row 51 (0 ∷ [])) (row 52 (3 ∷ [])))
    (cond (eqb (length b) 0) (row 2 (place ∷ [])) (row 54 (place ∷ [])))

-- by the row of `next`: something can be taken, or nothing, or it is refused
abbrev pub end_in : Row → ℕ → List ℕ → Row
end_in r place b =
    cond (eqb r.number 0) (cond (eqb (get_or r.values 0 0) 0) (lacking_of place b) (row 0 (0 ∷ [])))
    (cond (eqb r.number 1) (row 0 (0 ∷ [])) r)

-- a call of `finish`
abbrev pub end_of : ℕ → List ℕ → Row
end_of place b = end_in (next_of place b).row place b
