-- Statement: what holds of every list of calls of a transfer that began fresh, with one buffer. PROTOCOL 15.1 to 15.14.
-- The record `History` is the statement to be judged; transfer_history, in `Histories`, is its claim.
use Rattle.std.specs.Prelude.{ℕ, ◌≤◌, ◌<◌, ◌≡◌, false, List, [], ◌∷◌, ◌++◌, map, length, get_or, take, drop}
use Rattle.base.specs.Rows.{Row, row}
use Rattle.link.specs.Calls.{in_range}
use Rattle.transfer.specs.Pieces.{pieces_of}
use Rattle.transfer.specs.Calls.{progress_of}
use Rattle.transfer.specs.Logs.{Call, beginning, storing, stopping, cancelling, Entry, transfer_after, buffer_after}
use Rattle.transfer.specs.Logs.{Piece, number_of, Account, none, since, account_after, pieces_in, summed, joined}
use Rattle.transfer.specs.Logs.{count_from}
use Rattle.transfer.specs.Transfers.{absent}

-- what the progress answers: nothing, or the bytes stored and the bytes announced
abbrev pub progress_row : Account → Row
progress_row none = row 0 []
progress_row (since size piece start ps) = row 0 (summed ps ∷ size ∷ [])

-- of the table that is being received; `buffer` is the caller's buffer after the calls
pub record Receiving (size piece : ℕ) (start : List ℕ) (ps : List Piece) (buffer : List ℕ) : Type 0 where
  -- the bytes stored are the accepted pieces joined, at the front of the buffer
  pub front : take (summed ps) buffer ≡ joined ps
  -- its rest is as it was when the transfer began
  pub rest : drop (summed ps) buffer ≡ drop (summed ps) start
  -- the pieces were accepted in the order of their numbers, from 1 on
  pub numbers : map number_of ps ≡ count_from 1 (length ps)
  -- there are at most t; the bytes stored are as many as were announced exactly where all were accepted
  pub few : length ps ≤ pieces_of size piece
  pub whole : length ps ≡ pieces_of size piece → summed ps ≡ size
  pub partial : length ps < pieces_of size piece → summed ps < size

-- a call that has a link which is out of range
abbrev pub LinkOut : ℕ → ℕ → Call → Type 0
LinkOut first max (beginning l clock number payload piece out) = in_range first max l ≡ false
LinkOut first max (storing number flags payload out) = ⊥
LinkOut first max (stopping number payload out) = ⊥
LinkOut first max (cancelling l clock out) = in_range first max l ≡ false

-- ---- what holds of a log of a fresh transfer and a buffer
pub record History (first max : ℕ) (buffer : List ℕ) (log : List Entry) : Type 0 where
  -- the bytes stored, as the progress answers them, are the lengths of the accepted pieces of distinct numbers since
  -- the last accepted 19, added up; without a transfer there are none
  pub progress : progress_of (transfer_after absent log) ≡ progress_row (account_after none log)
  pub bytes : get_or (progress_of (transfer_after absent log)).values 0 0 ≡ summed (pieces_in (account_after none log))
  -- and where they are
  pub stored : (size piece : ℕ) (start : List ℕ) (ps : List Piece)
      → account_after none log ≡ since size piece start ps → Receiving size piece start ps (buffer_after buffer log)
  -- STATE is only a link's
  pub never_state : (before : List Entry) (e : Entry) (after : List Entry)
      → log ≡ before ++ (e ∷ after) → e.row.number ≡ 17 → LinkOut first max e.call
