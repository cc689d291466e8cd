-- Statement: what a list of calls of `next` took, each offered a window on what is left of a capture. PROTOCOL 13.10.
-- It uses `next_of` and `end_of` of the model, held by each_next, each_finish and windows_read.
use Rattle.std.specs.Prelude.{ℕ, ◌<◌, cond, ◌≡◌, ◌⊎◌, List, [], ◌∷◌, ◌++◌, get_or, take, drop, eqb}
use Rattle.base.specs.Rows.{Row}
use Rattle.capture.specs.Reading.{next_of}

-- the bytes that an answer took: a record's or the head's count
abbrev pub count_of : Row → ℕ
count_of r = cond (eqb r.number 0) (get_or r.values 0 0) (cond (eqb r.number 1) (get_or r.values 0 0) 0)

-- the record that an answer took, if it took one, before others
abbrev pub add_record : Row → List ℕ → List (List ℕ) → List (List ℕ)
add_record r b rs = cond (eqb r.number 1) (take (count_of r) b ∷ rs) rs

-- the records that calls took, each with a window, from a place on
unfoldable pub records_by : ℕ → List (List ℕ) → List (List ℕ)
records_by place [] = []
records_by place (w ∷ ws) = add_record (next_of place w).row w (records_by (next_of place w).state ws)

-- the place after them
unfoldable pub place_by : ℕ → List (List ℕ) → ℕ
place_by place [] = place
place_by place (w ∷ ws) = place_by (next_of place w).state ws

-- what they leave
unfoldable pub left_by : ℕ → List ℕ → List (List ℕ) → List ℕ
left_by place left [] = left
left_by place left (w ∷ ws) = left_by (next_of place w).state (drop (count_of (next_of place w).row) left) ws

-- each window is a front of what is left
unfoldable pub AreWindows : ℕ → List ℕ → List (List ℕ) → Type 0
AreWindows place left [] = Unit {0}
AreWindows place left (w ∷ ws) =
    ((rest : List ℕ) × (left ≡ w ++ rest))
    × AreWindows (next_of place w).state (drop (count_of (next_of place w).row) left) ws

-- `finish` is offered all that is left; or a front of it, which is refused by a byte that is there
pub record Closes (place : ℕ) (left w : List ℕ) : Type 0 where
  pub rest : List ℕ
  pub front : left ≡ w ++ rest
  pub decided : (rest ≡ []) ⊎ (50 < (next_of place w).row.number)
