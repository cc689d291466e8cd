-- Claims: each answer has its number and values, no two the same, and the contract fixes all that a call leaves.
-- PROTOCOL 12.2, 12.4, 16.6.
use Rattle.std.specs.Prelude.{ℕ, ◌≡◌, List, [], ◌∷◌, map, Option, None, Some, Result, Ok, Err}
use Rattle.base.specs.Rows.{row}
use Rattle.base.specs.declared.writes.WriteError.TheVariants as unwritten
use Rattle.message.specs.AnswerRows.{causes, codes}
use Rattle.message.specs.declared.kind.Cause.{Cause}
use Rattle.message.specs.declared.values.Code.{Code}
use Rattle.transfer.specs.declared.answers.Refusal.{Refusal}
use Rattle.transfer.specs.declared.answers.Refusal.TheVariants as refusal
use Rattle.device.specs.Table.{handle_row_of, ended_row_of}
use Rattle.device.specs.Handling.{After, handled_of}
use Rattle.device.specs.declared.answers.Handled.{Handled}
use Rattle.device.specs.declared.answers.Handled.TheVariants as done
use Rattle.device.specs.declared.answers.HandleError.{HandleError}
use Rattle.device.specs.declared.answers.HandleError.TheVariants as error
use Rattle.device.specs.declared.state.Device.{Device}
use Rattle.link.specs.declared.receives.Replied.{Replied}

-- ---- rows_injective: two answers never have the same number and values, nor have two waits, so an equation of rows
-- fixes the answer
pub record RowsInjective : Type 0 where
  pub answers : (a b : Result Handled HandleError) → handle_row_of a ≡ handle_row_of b → a ≡ b
  pub waits : (a b : Option Replied) → ended_row_of a ≡ ended_row_of b → a ≡ b

-- ---- named_rows: every answer of the code, with its number and its values in literal numbers

-- the refusals, in the order of the code's enum
abbrev pub refusals : List Refusal
refusals =
    refusal.Size ∷ refusal.Empty ∷ refusal.TooBig ∷ refusal.HexLines ∷ refusal.Pieces ∷ refusal.Turn
    ∷ refusal.Piece ∷ []

-- for every two values
pub record NamedRows (n m : ℕ) : Type 0 where
  pub replies :
      map handle_row_of
      (Ok done.Nothing ∷ Ok (done.InformationWanted n) ∷ Ok (done.StatusWanted n) ∷ Ok (done.Acknowledged n)
      ∷ Ok (done.Began n m) ∷ Ok (done.Stored n) ∷ Ok (done.Stopped n) ∷ Err error.State ∷ Err error.Busy
      ∷ Err (error.Unwritten unwritten.Payload) ∷ Err (error.Unwritten (unwritten.Room n)) ∷ [])
      ≡ row 0 [] ∷ row 0 (0 ∷ 2 ∷ n ∷ []) ∷ row 0 (0 ∷ 4 ∷ n ∷ []) ∷ row 0 (n ∷ []) ∷ row 0 (n ∷ 26 ∷ m ∷ [])
      ∷ row 0 (n ∷ 30 ∷ []) ∷ row 0 (n ∷ 32 ∷ []) ∷ row 17 (0 ∷ []) ∷ row 41 [] ∷ row 21 (0 ∷ []) ∷ row 22 (n ∷ [])
      ∷ []
  -- a rejection, for each code with each cause
  pub rejected :
      map (λ (c : Code). map (λ (k : Cause). handle_row_of (Ok (done.Rejected n c k))) causes) codes
      ≡ map (λ (c : ℕ). map (λ (k : ℕ). row 0 (n ∷ 18 ∷ c ∷ k ∷ [])) (15 ∷ 31 ∷ 32 ∷ 33 ∷ 0 ∷ []))
      (1 ∷ 2 ∷ 3 ∷ 4 ∷ [])
  pub refused :
      map (λ (r : Refusal). handle_row_of (Ok (done.Refused n r))) refusals
      ≡ map (λ (k : ℕ). row k (n ∷ [])) (32 ∷ 61 ∷ 62 ∷ 64 ∷ 63 ∷ 65 ∷ 66 ∷ [])
  pub waits :
      map ended_row_of (None ∷ Some (record { command = n; number = m }) ∷ [])
      ≡ row 0 [] ∷ row 0 (n ∷ m ∷ []) ∷ []

-- of all values
abbrev pub RowsNamed : Type 0
RowsNamed = (n m : ℕ) → NamedRows n m

-- ---- contracts_complete: the contract's equation fixes the answer, the wait that ended, the transfer, the link, the
-- buffer and the output, each by itself
pub record Fixed (answer : Result Handled HandleError) (ended : Option Replied) (d : Device) (buffer out : List ℕ)
    (y : After) : Type 0 where
  pub answer_is : handle_row_of answer ≡ y.row
  pub ended_is : ended_row_of ended ≡ y.ended
  pub transfer_is : d.transfer ≡ y.transfer
  pub link_is : d.link ≡ y.link
  pub buffer_is : buffer ≡ y.buffer
  pub out_is : out ≡ y.out

-- of all that a call may return and leave
abbrev pub ContractsComplete : Type 0
ContractsComplete =
    (answer : Result Handled HandleError) (ended : Option Replied) (d : Device) (buffer out : List ℕ) (y : After)
    → handled_of answer ended d buffer out ≡ y → Fixed answer ended d buffer out y
