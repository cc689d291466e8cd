-- Claims: the contracts' equations fix the answer and every byte that a call leaves. PROTOCOL 12.2, 12.4.
use Rattle.std.specs.Prelude.{◌≡◌, Result}
use Rattle.base.specs.Outcomes.{Outcome}
use Rattle.frame.specs.Calls.{fed_of, finished_of}
use Rattle.frame.specs.State.{State, state_of}
use Rattle.frame.specs.Table.{row_of, finish_row_of}
use Rattle.frame.specs.declared.reader.Fed.{Fed}
use Rattle.frame.specs.declared.reader.FeedError.{FeedError}
use Rattle.frame.specs.declared.reader.Finish.{Finish}
use Rattle.frame.specs.declared.reader.Reader.{Reader}
use Rattle.base.specs.declared.writes.StateError.{StateError}

-- ---- rows_injective: two answers of one type never have the same number and values, so a row fixes the answer
pub record RowsInjective : Type 0 where
  pub answers : (a b : Result Fed FeedError) → row_of a ≡ row_of b → a ≡ b
  pub finishes : (a b : Result Finish StateError) → finish_row_of a ≡ finish_row_of b → a ≡ b

-- ---- states_injective: two readers never have the same state, so a state fixes every field and byte of the reader
abbrev pub StatesInjective : Type 0
StatesInjective = (a b : Reader) → state_of a ≡ state_of b → a ≡ b

-- ---- contracts_complete: each equation fixes the row and what is left, separately
pub record ContractsComplete : Type 0 where
  pub fed : (f : Result Fed FeedError × Reader) (y : Outcome State)
      → fed_of f ≡ y → (row_of f.0 ≡ y.row) × (state_of f.1 ≡ y.state)
  pub finished : (f : Result Finish StateError × Reader) (y : Outcome State)
      → finished_of f ≡ y → (finish_row_of f.0 ≡ y.row) × (state_of f.1 ≡ y.state)
