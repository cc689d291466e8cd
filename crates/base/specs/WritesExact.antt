-- Claims: the answer to a write, by its name, and what a contract that states `Writes` fixes.
-- PROTOCOL 6.3, 6.4, 6.7, 12.4.
use Rattle.std.specs.Prelude.{ℕ, ◌≤◌, ◌<◌, ◌≡◌, List, [], ◌∷◌, ◌++◌, length, drop, Result, Ok, Err}
use Rattle.base.specs.Rows.{row}
use Rattle.base.specs.Outcomes.{Output, placed}
use Rattle.base.specs.Writes.{unwritten_row_of, write_row_of, Writes}
use Rattle.base.specs.declared.writes.WriteError.{WriteError}
use Rattle.base.specs.declared.writes.WriteError.TheVariants as unwritten

-- ---- write_rows: the number and the values of each answer, for every count
pub record WriteRows (n : ℕ) : Type 0 where
  pub wrote : write_row_of (Ok n) ≡ row 0 (n ∷ [])
  pub payload : write_row_of (Err unwritten.Payload) ≡ row 21 (0 ∷ [])
  pub room : write_row_of (Err (unwritten.Room n)) ≡ row 22 (n ∷ [])

-- ---- writes_injective: two answers never have the same number and values, so a row fixes the answer
pub record WritesInjective : Type 0 where
  pub whys : (a b : WriteError) → unwritten_row_of a ≡ unwritten_row_of b → a ≡ b
  pub writings : (a b : Result ℕ WriteError) → write_row_of a ≡ write_row_of b → a ≡ b

-- ---- writes_complete: what a contract that states `Writes` fixes
pub record WritesComplete (r : Result ℕ WriteError) (after : List ℕ) : Type 0 where
  -- the row and the buffer, each by itself
  pub fixed : (w : Output) → Writes r after w → (write_row_of r ≡ w.row) × (after ≡ w.out)
  -- bytes that fit are at the front of the buffer, whose rest stays, and are counted
  pub fits : (bytes out : List ℕ) → Writes r after (placed bytes out) → length bytes ≤ length out
      → (r ≡ Ok (length bytes)) × (after ≡ bytes ++ drop (length bytes) out)
  -- others are ROOM with their count, and the buffer stays
  pub room : (bytes out : List ℕ) → Writes r after (placed bytes out) → length out < length bytes
      → (r ≡ Err (unwritten.Room (length bytes))) × (after ≡ out)

-- of every answer and buffer
abbrev pub WritesCompleteAlways : Type 0
WritesCompleteAlways = (r : Result ℕ WriteError) (after : List ℕ) → WritesComplete r after
