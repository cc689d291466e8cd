-- Statement: an answer as a row: its number and its values. PROTOCOL 6.7, 12.4.
use Rattle.std.specs.Prelude.{ℕ, List}

-- an answer's number and values
pub record Row : Type 0 where
  pub number : ℕ
  pub values : List ℕ

-- shorthand for a row, as the tables of answers write it
abbrev pub row : ℕ → List ℕ → Row
row n v = record { number = n; values = v }
