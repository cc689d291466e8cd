-- Claims: worked transfers, by computation. PROTOCOL 15.1 to 15.13.
use Rattle.std.specs.Prelude.{ℕ, ◌≡◌, None, List, [], ◌∷◌, replicate}
use Rattle.base.specs.Rows.{Row, row}
use Rattle.base.specs.Outcomes.{output}
use Rattle.link.specs.Calls.{link_of}
use Rattle.link.specs.declared.state.Link.{Link}
use Rattle.link.specs.Sending.{waits_for}
use Rattle.transfer.specs.Calls.{left, both, held, begin_of, store_of, stop_of, cancel_of, progress_of}
use Rattle.transfer.specs.Logs.{Call, beginning, storing, stopping, cancelling, Entry, transfer_after, buffer_after}
use Rattle.transfer.specs.Logs.{Piece, none, since, account_after, summed, joined, count_from}
use Rattle.transfer.specs.LogsComputed.{log_of}
use Rattle.transfer.specs.declared.state.Transfer.{Transfer}
use Rattle.transfer.specs.Transfers.{absent, opened}

-- ---- what the calls are given

-- nothing waits, and the next number is 3
abbrev pub idle : Link
idle = link_of 3 None

-- a report waits under 2
abbrev pub busy : Link
busy = link_of 3 (waits_for 0x05 2 0 0)

-- a buffer of twelve bytes
abbrev pub buffer : List ℕ
buffer = replicate 12 7

-- an output of thirty bytes, before each call
abbrev pub output30 : List ℕ
output30 = replicate 30 9

-- 19: ten bytes, with a check code of two
abbrev pub ten_bytes : List ℕ
ten_bytes = 0 ∷ 0 ∷ 0 ∷ 10 ∷ 0 ∷ 2 ∷ 0xAB ∷ 0xCD ∷ []

-- the 19, with pieces of four bytes
abbrev pub announced : Link → Call
announced l = beginning l 1000 5 ten_bytes 4 output30

-- 1D: piece n of three
abbrev pub piece : ℕ → List ℕ → Call
piece n bytes = storing 6 0 (0 ∷ n ∷ 0 ∷ 3 ∷ bytes) output30

-- the rows of the answers
abbrev pub rows_of : List Entry → List Row
rows_of [] = []
rows_of (e ∷ es) = e.row ∷ rows_of es

-- the calls of a fresh transfer and that buffer
abbrev pub logged : List Call → List Entry
logged calls = log_of 1024 0 2 absent buffer calls

-- a 1E of nine bytes
abbrev pub stored : Row
stored = row 0 (9 ∷ 30 ∷ [])

-- the 19's answer
abbrev pub began : Row
began = row 0 (24 ∷ 26 ∷ 9 ∷ [])

-- a 12 of ten bytes
abbrev pub refused : ℕ → Row
refused n = row n (10 ∷ [])

-- ---- worked_transfers: what a log answers and leaves
pub record Leaves (calls : List Call) (rows : List Row) (progress : Row) (t : Transfer) (after : List ℕ) : Type 0 where
  pub rows_are : rows_of (logged calls) ≡ rows
  pub progress_is : progress_of (transfer_after absent (logged calls)) ≡ progress
  pub transfer_is : transfer_after absent (logged calls) ≡ t
  pub buffer_is : buffer_after buffer (logged calls) ≡ after

-- three pieces with a short last one; the second is repeated, and the last one is answered again
abbrev pub whole_calls : List Call
whole_calls =
    announced idle ∷ piece 1 (1 ∷ 2 ∷ 3 ∷ 4 ∷ []) ∷ piece 2 (5 ∷ 6 ∷ 7 ∷ 8 ∷ []) ∷ piece 2 (5 ∷ 6 ∷ 7 ∷ 8 ∷ [])
    ∷ piece 3 (9 ∷ 10 ∷ []) ∷ piece 3 (9 ∷ 10 ∷ []) ∷ []

-- pieces that are refused: number 0, a number too far, another total, a wrong size, other bytes, hex lines
abbrev pub faulty_calls : List Call
faulty_calls =
    piece 1 (1 ∷ 2 ∷ 3 ∷ 4 ∷ []) ∷ announced idle ∷ piece 0 (1 ∷ 2 ∷ 3 ∷ 4 ∷ []) ∷ piece 2 (1 ∷ 2 ∷ 3 ∷ 4 ∷ [])
    ∷ piece 1 (1 ∷ 2 ∷ 3 ∷ []) ∷ piece 1 (1 ∷ 2 ∷ 3 ∷ 4 ∷ 5 ∷ []) ∷ storing 6 0 (0 ∷ 1 ∷ 0 ∷ 4 ∷ 1 ∷ 2 ∷ 3 ∷ 4 ∷ [])
    output30
    ∷ storing 6 1 (0 ∷ 1 ∷ 0 ∷ 3 ∷ 1 ∷ 2 ∷ 3 ∷ 4 ∷ []) output30 ∷ storing 6 0xFFFE (0 ∷ 1 ∷ 0 ∷ 3 ∷ 1 ∷ 2 ∷ 3 ∷ 4 ∷ [])
    output30
    ∷ piece 1 (1 ∷ 2 ∷ 3 ∷ 5 ∷ []) ∷ piece 1 (1 ∷ 2 ∷ 3 ∷ []) ∷ piece 2 (5 ∷ 6 ∷ 7 ∷ 8 ∷ [])
    ∷ piece 1 (1 ∷ 2 ∷ 3 ∷ 4 ∷ [])
    ∷ piece 3 (9 ∷ 10 ∷ 11 ∷ 12 ∷ []) ∷ piece 3 (9 ∷ 10 ∷ []) ∷ piece 4 (1 ∷ []) ∷ []

-- a 19 in the middle begins again; one that is refused changes nothing
abbrev pub again_calls : List Call
again_calls =
    announced idle ∷ piece 1 (1 ∷ 2 ∷ 3 ∷ 4 ∷ []) ∷ announced busy ∷ beginning idle 0 5 ten_bytes 0 output30
    ∷ beginning idle 0 5 ten_bytes 4 (replicate 23 9) ∷ piece 2 (5 ∷ 6 ∷ 7 ∷ 8 ∷ []) ∷ announced idle
    ∷ piece 2 (5 ∷ 6 ∷ 7 ∷ 8 ∷ []) ∷ piece 1 (11 ∷ 12 ∷ 13 ∷ 14 ∷ []) ∷ []

-- a 27 that the link refuses, one without room, and one that is taken; a 1F, also without a transfer
abbrev pub cancel_calls : List Call
cancel_calls =
    announced idle ∷ piece 1 (1 ∷ 2 ∷ 3 ∷ 4 ∷ []) ∷ cancelling busy 0 output30 ∷ cancelling idle 0 (replicate 8 9)
    ∷ cancelling idle 0 output30 ∷ piece 2 (5 ∷ 6 ∷ 7 ∷ 8 ∷ []) ∷ announced idle ∷ stopping 4 (1 ∷ []) output30
    ∷ stopping 4 [] (replicate 8 9) ∷ stopping 4 [] output30 ∷ stopping 4 [] output30 ∷ cancelling idle 0 output30 ∷ []

-- a piece of an account
abbrev pub numbered : ℕ → List ℕ → Piece
numbered n bytes = record { number = n; bytes = bytes }

-- and what calls and answers tell, and the bytes that are written
pub record WorkedTransfers : Type 0 where
  pub whole_told :
      account_after none (logged whole_calls)
      ≡ since 10 4 buffer
      (numbered 1 (1 ∷ 2 ∷ 3 ∷ 4 ∷ []) ∷ numbered 2 (5 ∷ 6 ∷ 7 ∷ 8 ∷ []) ∷ numbered 3 (9 ∷ 10 ∷ []) ∷ [])
  pub again_told :
      account_after none (logged again_calls)
      ≡ since 10 4 (1 ∷ 2 ∷ 3 ∷ 4 ∷ 5 ∷ 6 ∷ 7 ∷ 8 ∷ 7 ∷ 7 ∷ 7 ∷ 7 ∷ []) (numbered 1 (11 ∷ 12 ∷ 13 ∷ 14 ∷ []) ∷ [])
  pub none_told : account_after none (logged cancel_calls) ≡ none
  pub begun_told : progress_of (transfer_after absent (logged (announced idle ∷ []))) ≡ row 0 (0 ∷ 10 ∷ [])
  pub sums : summed (numbered 1 (1 ∷ 2 ∷ []) ∷ numbered 2 (3 ∷ []) ∷ []) ≡ 3
  pub joins : joined (numbered 1 (1 ∷ 2 ∷ []) ∷ numbered 2 (3 ∷ []) ∷ []) ≡ 1 ∷ 2 ∷ 3 ∷ []
  pub counts : count_from 1 3 ≡ 1 ∷ 2 ∷ 3 ∷ []
  pub whole :
      Leaves whole_calls (began ∷ replicate 5 stored) (row 0 (10 ∷ 10 ∷ [])) (opened 10 4 3)
      (1 ∷ 2 ∷ 3 ∷ 4 ∷ 5 ∷ 6 ∷ 7 ∷ 8 ∷ 9 ∷ 10 ∷ 7 ∷ 7 ∷ [])
  pub faulty :
      Leaves faulty_calls
      (refused 65 ∷ began ∷ refused 65 ∷ refused 65 ∷ refused 66 ∷ refused 66 ∷ refused 63 ∷ refused 64 ∷ stored
      ∷ refused 66 ∷ refused 66 ∷ stored ∷ refused 65 ∷ refused 66 ∷ stored ∷ refused 65 ∷ [])
      (row 0 (10 ∷ 10 ∷ [])) (opened 10 4 3) (1 ∷ 2 ∷ 3 ∷ 4 ∷ 5 ∷ 6 ∷ 7 ∷ 8 ∷ 9 ∷ 10 ∷ 7 ∷ 7 ∷ [])
  pub again :
      Leaves again_calls
      (began ∷ stored ∷ row 41 [] ∷ refused 61 ∷ row 22 (24 ∷ []) ∷ stored ∷ began ∷ refused 65 ∷ stored ∷ [])
      (row 0 (4 ∷ 10 ∷ [])) (opened 10 4 1) (11 ∷ 12 ∷ 13 ∷ 14 ∷ 5 ∷ 6 ∷ 7 ∷ 8 ∷ 7 ∷ 7 ∷ 7 ∷ 7 ∷ [])
  pub cancelled :
      Leaves cancel_calls
      (began ∷ stored ∷ row 41 [] ∷ row 22 (9 ∷ []) ∷ row 0 (9 ∷ 39 ∷ []) ∷ refused 65 ∷ began ∷ refused 32
      ∷ row 22 (9 ∷ []) ∷ row 0 (9 ∷ 32 ∷ []) ∷ row 0 (9 ∷ 32 ∷ []) ∷ row 0 (9 ∷ 39 ∷ []) ∷ [])
      (row 0 []) absent (1 ∷ 2 ∷ 3 ∷ 4 ∷ 7 ∷ 7 ∷ 7 ∷ 7 ∷ 7 ∷ 7 ∷ 7 ∷ 7 ∷ [])
  -- 1A under 5, and 1B under 3 with the code and the piece size; the link waits for the 1B
  pub pair :
      begin_of 1024 0 2 absent idle 1000 5 ten_bytes 4 12 output30
      ≡ left (output began (0xFF ∷ 0xFF ∷ 0 ∷ 5 ∷ 0x1A ∷ 5 ∷ 0 ∷ 0 ∷ 0x24
      ∷ 0xFF ∷ 0xFF ∷ 0 ∷ 11 ∷ 0x1B ∷ 3 ∷ 0 ∷ 0 ∷ 0 ∷ 2 ∷ 0xAB ∷ 0xCD ∷ 0 ∷ 4 ∷ 0xA7 ∷ replicate 6 9))
      (both (opened 10 4 0) (link_of 4 (waits_for 0x1B 3 1000 0)))
  -- one byte short of both, or of a 12, ROOM has the size, and all is as it was; no room at all, under numbers FF
  pub pair_short :
      begin_of 1024 0 2 absent idle 1000 5 ten_bytes 4 12 (replicate 23 9)
      ≡ left (output (row 22 (24 ∷ [])) (replicate 23 9)) (both absent idle)
  pub rejection_short :
      stop_of 1024 absent 4 (1 ∷ []) (replicate 9 9) ≡ left (output (row 22 (10 ∷ [])) (replicate 9 9)) absent
  pub pair_asked : (begin_of 1024 0 2 absent (link_of 255 None) 1000 255 ten_bytes 4 12 []).row ≡ row 22 (26 ∷ [])
  pub one_piece :
      store_of 1024 (opened 10 4 1) 6 0 (0 ∷ 2 ∷ 0 ∷ 3 ∷ 5 ∷ 6 ∷ 7 ∷ 8 ∷ []) buffer output30
      ≡ left (output stored (0xFF ∷ 0xFF ∷ 0 ∷ 5 ∷ 0x1E ∷ 6 ∷ 0 ∷ 0 ∷ 0x29 ∷ replicate 21 9))
      (held (opened 10 4 2) (7 ∷ 7 ∷ 7 ∷ 7 ∷ 5 ∷ 6 ∷ 7 ∷ 8 ∷ 7 ∷ 7 ∷ 7 ∷ 7 ∷ []))
  pub a_rejection :
      store_of 1024 absent 6 0 (0 ∷ 2 ∷ 0 ∷ 3 ∷ 5 ∷ 6 ∷ 7 ∷ 8 ∷ []) buffer output30
      ≡ left (output (refused 65) (0xFF ∷ 0xFF ∷ 0 ∷ 6 ∷ 0x12 ∷ 6 ∷ 0 ∷ 0 ∷ 3 ∷ 0x21 ∷ replicate 20 9))
      (held absent buffer)
  pub a_stop :
      stop_of 1024 (opened 10 4 1) 6 [] output30
      ≡ left (output (row 0 (9 ∷ 32 ∷ [])) (0xFF ∷ 0xFF ∷ 0 ∷ 5 ∷ 0x20 ∷ 6 ∷ 0 ∷ 0 ∷ 0x2B ∷ replicate 21 9)) absent
  pub a_cancel :
      cancel_of 1024 0 2 (opened 10 4 1) idle 1000 output30
      ≡ left (output (row 0 (9 ∷ 39 ∷ [])) (0xFF ∷ 0xFF ∷ 0 ∷ 5 ∷ 0x27 ∷ 3 ∷ 0 ∷ 0 ∷ 0x2F ∷ replicate 21 9))
      (both absent (link_of 4 (waits_for 0x27 3 1000 0)))
  pub a_busy : begin_of 1024 0 2 (opened 10 4 1) busy 1000 5 ten_bytes 4 12 output30
      ≡ left (output (row 41 []) output30) (both (opened 10 4 1) busy)
