-- Statement: what a capture holds, by its bytes alone: its records, and where and why reading stops. PROTOCOL 13.4 to
-- 13.8. No reader enters into it.
use Rattle.std.specs.Prelude.{ℕ, ◌+◌, ◌≤◌, ◌≡◌, List, [], ◌∷◌, ◌++◌, length}
use Rattle.frame.specs.Offers.{joined}
use Rattle.capture.specs.Format.{mark, version, head, direction_of, IsRecord}

-- each of them is one whole record
abbrev pub AllRecords : List (List ℕ) → Type 0
AllRecords [] = Unit {0}
AllRecords (r ∷ rs) = IsRecord r × AllRecords rs

-- bytes begin with others
abbrev pub Begins : List ℕ → List ℕ → Type 0
Begins front b = (rest : List ℕ) × (b ≡ front ++ rest)

-- why reading stops before what is left after the last record
pub data Stops (rest : List ℕ) (number : ℕ) : Type 0 where
  -- nothing is left, and the capture is whole: PROTOCOL 13.4
  whole : number ≡ 2 → rest ≡ [] → Stops rest number
  -- DIRECTION: PROTOCOL 13.7
  direction : number ≡ 53 → 1 ≤ length rest → 2 ≤ direction_of rest → Stops rest number
  -- ENDED: PROTOCOL 13.8
  ended : number ≡ 54 → 1 ≤ length rest → direction_of rest ≤ 1
      → ((r : List ℕ) → IsRecord r → Begins r rest → ⊥) → Stops rest number

-- a capture holds these records, in this order, and reading stops at this place with this number
pub data Reads (capture : List ℕ) (records : List (List ℕ)) (number place : ℕ) : Type 0 where
  -- MARK: PROTOCOL 13.5
  no_mark : records ≡ [] → number ≡ 51 → place ≡ 0 → (Begins mark capture → ⊥) → Reads capture records number place
  -- VERSION: PROTOCOL 13.6
  no_version : (rest : List ℕ)
      → records ≡ [] → number ≡ 52 → place ≡ 3 → capture ≡ mark ++ rest → (Begins version rest → ⊥)
      → Reads capture records number place
  -- a head, records, and a stop
  with_head : (rest : List ℕ)
      → capture ≡ head ++ (joined records ++ rest) → place ≡ 5 + length (joined records) → AllRecords records
      → Stops rest number → Reads capture records number place
