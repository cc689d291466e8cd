-- Claims: each answer of the code has its number and values, no two the same, and contracts fix all that is left.
-- PROTOCOL 15.10 to 15.12, 12.2, 12.4.
use Rattle.std.specs.Prelude.{ℕ, ◌≡◌, List, [], ◌∷◌, map, Option, Some, None, Result, Ok, Err}
use Rattle.base.specs.Rows.{row}
use Rattle.link.specs.declared.state.Link.{Link}
use Rattle.base.specs.declared.writes.WriteError.TheVariants as unwritten
use Rattle.transfer.specs.Table.{refusal_number, check_number, arrive_row_of, cancel_row_of, progress_row_of}
use Rattle.transfer.specs.Table.{pair_row_of}
use Rattle.transfer.specs.Calls.{Left, Both, Held, begun_of, stored_of, arrived_of, cancelled_of}
use Rattle.transfer.specs.declared.state.Transfer.{Transfer}
use Rattle.transfer.specs.declared.answers.Refusal.{Refusal}
use Rattle.transfer.specs.declared.answers.Refusal.TheVariants as refusal
use Rattle.transfer.specs.declared.answers.Arrival.{Arrival}
use Rattle.transfer.specs.declared.answers.Arrival.TheVariants as arrived
use Rattle.transfer.specs.declared.answers.ArriveError.{ArriveError}
use Rattle.transfer.specs.declared.answers.ArriveError.TheVariants as error
use Rattle.transfer.specs.declared.answers.Denial.TheVariants as denied
use Rattle.base.specs.declared.writes.StateError.{StateError}
use Rattle.transfer.specs.declared.state.Progress.{Progress}

-- ---- rows_injective: two answers of one type never have the same number and values
pub record RowsInjective : Type 0 where
  pub refusals : (a b : Refusal) → refusal_number a ≡ refusal_number b → a ≡ b
  pub arrivals : (a b : Result Arrival ArriveError) → arrive_row_of a ≡ arrive_row_of b → a ≡ b
  pub cancels : (a b : Result ℕ ArriveError) → cancel_row_of a ≡ cancel_row_of b → a ≡ b
  pub progresses : (a b : Result (Option Progress) StateError) → progress_row_of a ≡ progress_row_of b → a ≡ b

-- the refusals, in the order of the code's enum
abbrev pub refusals : List Refusal
refusals =
    refusal.Size ∷ refusal.Empty ∷ refusal.TooBig ∷ refusal.HexLines ∷ refusal.Pieces ∷ refusal.Turn ∷ refusal.Piece
    ∷ []

-- ---- named_rows: every answer of the code, with its number and its values
pub record NamedRows (n r : ℕ) : Type 0 where
  pub refused : map refusal_number refusals ≡ 32 ∷ 61 ∷ 62 ∷ 64 ∷ 63 ∷ 65 ∷ 66 ∷ []
  pub refusal_rows :
      map (λ (why : Refusal). arrive_row_of (Ok (arrived.Refused n why))) refusals
      ≡ map (λ k. row k (n ∷ [])) (32 ∷ 61 ∷ 62 ∷ 64 ∷ 63 ∷ 65 ∷ 66 ∷ [])
  pub arrivals :
      map arrive_row_of
      (Ok (arrived.Began n r) ∷ Ok (arrived.Stored n) ∷ Ok (arrived.Stopped n) ∷ Err error.State ∷ Err error.Busy
      ∷ Err (error.Unwritten unwritten.Payload) ∷ Err (error.Unwritten (unwritten.Room n)) ∷ [])
      ≡ row 0 (n ∷ 26 ∷ r ∷ []) ∷ row 0 (n ∷ 30 ∷ []) ∷ row 0 (n ∷ 32 ∷ []) ∷ row 17 (0 ∷ []) ∷ row 41 []
      ∷ row 21 (0 ∷ []) ∷ row 22 (n ∷ []) ∷ []
  pub cancels :
      map cancel_row_of
      (Ok n ∷ Err error.State ∷ Err error.Busy ∷ Err (error.Unwritten unwritten.Payload)
      ∷ Err (error.Unwritten (unwritten.Room n)) ∷ [])
      ≡ row 0 (n ∷ 39 ∷ []) ∷ row 17 (0 ∷ []) ∷ row 41 [] ∷ row 21 (0 ∷ []) ∷ row 22 (n ∷ []) ∷ []
  pub progresses :
      map progress_row_of (Ok None ∷ Ok (Some (record { stored = n; size = r })) ∷ Err (record {}) ∷ [])
      ≡ row 0 [] ∷ row 0 (n ∷ r ∷ []) ∷ row 17 (0 ∷ []) ∷ []
  -- of inner calls
  pub checks :
      map (check_number {A = Unit {0}})
      (Ok tt ∷ Err denied.State ∷ Err denied.Busy ∷ Err (denied.Refused refusal.Turn) ∷ [])
      ≡ 0 ∷ 17 ∷ 41 ∷ 65 ∷ []
  pub pairs :
      map pair_row_of
      (Ok (record { count = n; ready = r }) ∷ Err unwritten.Payload ∷ Err (unwritten.Room n) ∷ [])
      ≡ row 0 (n ∷ 26 ∷ r ∷ []) ∷ row 21 (0 ∷ []) ∷ row 22 (n ∷ []) ∷ []

-- of all counts
abbrev pub RowsNamed : Type 0
RowsNamed = (n r : ℕ) → NamedRows n r

-- ---- contracts_complete: the contracts' equations fix the answer, the transfer, the link, the buffer and the output
pub record ContractsComplete : Type 0 where
  pub begun : (r : Result Arrival ArriveError) (t : Transfer) (l : Link) (out : List ℕ) (y : Left Both)
      → begun_of r t l out ≡ y
      → (arrive_row_of r ≡ y.row) × (t ≡ y.state.transfer) × (l ≡ y.state.link) × (out ≡ y.out)
  pub stored : (r : Result Arrival ArriveError) (t : Transfer) (buffer out : List ℕ) (y : Left Held)
      → stored_of r t buffer out ≡ y
      → (arrive_row_of r ≡ y.row) × (t ≡ y.state.transfer) × (buffer ≡ y.state.buffer) × (out ≡ y.out)
  pub stopped : (r : Result Arrival ArriveError) (t : Transfer) (out : List ℕ) (y : Left Transfer)
      → arrived_of r t out ≡ y → (arrive_row_of r ≡ y.row) × (t ≡ y.state) × (out ≡ y.out)
  pub cancelled : (r : Result ℕ ArriveError) (t : Transfer) (l : Link) (out : List ℕ) (y : Left Both)
      → cancelled_of r t l out ≡ y
      → (cancel_row_of r ≡ y.row) × (t ≡ y.state.transfer) × (l ≡ y.state.link) × (out ≡ y.out)
