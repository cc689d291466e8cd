-- Claims: the ranges of a transfer, in the numbers of docs/STATES.md and without a division. PROTOCOL 15.14.
use Rattle.std.specs.Prelude.{ℕ, ◌+◌, ◌*◌, ◌≤◌, ◌<◌, min, ◌≡◌, ◌≢◌, true, false, List, [], ◌∷◌}
use Rattle.base.specs.Rows.{row}
use Rattle.link.specs.Calls.{in_range}
use Rattle.transfer.specs.Checks.{in_range_of}
use Rattle.transfer.specs.Calls.{progress_of}
use Rattle.transfer.specs.Logs.{Call, beginning, storing, stopping, cancelling}
use Rattle.transfer.specs.LogsComputed.{call_of}
use Rattle.transfer.specs.declared.state.Transfer.{Transfer}
use Rattle.transfer.specs.Transfers.{absent, opened}

-- ---- transfer_ranges: STATE exactly outside the ranges, of every call and of the progress

-- a call whose link, if it has one, is in range
abbrev pub LinkIn : ℕ → ℕ → Call → Type 0
LinkIn first max (beginning l clock number payload piece out) = in_range first max l ≡ true
LinkIn first max (storing number flags payload out) = Unit {0}
LinkIn first max (stopping number payload out) = Unit {0}
LinkIn first max (cancelling l clock out) = in_range first max l ≡ true

-- every call is STATE and leaves transfer and buffer, whatever its link is
pub record OutOfRange (t : Transfer) : Type 0 where
  pub calls : (limit first max : ℕ) (buffer : List ℕ) (c : Call)
      → call_of limit first max t buffer c ≡ record { row = row 17 (0 ∷ []); transfer = t; buffer = buffer }
  pub progress : progress_of t ≡ row 17 (0 ∷ [])
  pub test : in_range_of t ≡ false

-- no call is STATE but by its link
pub record InRange (t : Transfer) : Type 0 where
  pub calls : (limit first max : ℕ) (buffer : List ℕ) (c : Call)
      → LinkIn first max c → (call_of limit first max t buffer c).row.number ≢ 17
  pub progress : (progress_of t).number ≢ 17
  pub test : in_range_of t ≡ true

-- t is at most 65,535 where 65,535 pieces reach the end; `stored` is at most t where one piece less does not
pub record TransferRanges : Type 0 where
  pub absent_in : InRange absent
  pub open_in : (size piece stored : ℕ) → 1 ≤ size → 1 ≤ piece → size ≤ 65535 * piece → stored * piece < size + piece
      → InRange (opened size piece stored)
  pub size_out : (piece stored : ℕ) → OutOfRange (opened 0 piece stored)
  pub piece_out : (size stored : ℕ) → OutOfRange (opened size 0 stored)
  pub many_out : (size piece stored : ℕ) → 65535 * piece < size → OutOfRange (opened size piece stored)
  pub stored_out : (size piece stored : ℕ) → size + piece ≤ stored * piece → OutOfRange (opened size piece stored)

-- ---- progress_exact: the progress of every transfer in range, in numbers
pub record ProgressExact : Type 0 where
  pub absent : progress_of absent ≡ row 0 []
  pub opened : (size piece stored : ℕ) → in_range_of (opened size piece stored) ≡ true
      → progress_of (opened size piece stored) ≡ row 0 (min (stored * piece) size ∷ size ∷ [])
