-- Statement: what a list of calls answered, and the transfer that calls and answers alone tell of. PROTOCOL 15.1 to
-- 15.9.
use Rattle.std.specs.Prelude.{ℕ, zero, suc, ◌+◌, Bool, cond, List, [], ◌∷◌, ◌++◌, map, eqb, length, drop}
use Rattle.base.specs.Rows.{Row}
use Rattle.base.specs.Numbers.{two_at, four_at}
use Rattle.base.specs.Keys.{among}
use Rattle.link.specs.declared.state.Link.{Link}
use Rattle.transfer.specs.declared.state.Transfer.{Transfer}

-- ---- the log of a list of calls

-- the four calls of a transfer; link, clock, piece size and output are free at each
pub data Call : Type 0 where
  beginning : Link → ℕ → ℕ → List ℕ → ℕ → List ℕ → Call  -- link, clock, number, payload, piece size, output
  storing : ℕ → ℕ → List ℕ → List ℕ → Call  -- number, flags, payload, output
  stopping : ℕ → List ℕ → List ℕ → Call  -- number, payload, output
  cancelling : Link → ℕ → List ℕ → Call  -- link, clock, output

-- a call, its row, and the transfer and the buffer after it
pub record Entry : Type 0 where
  pub call : Call
  pub row : Row
  pub transfer : Transfer
  pub buffer : List ℕ

-- the transfer after a log
unfoldable pub transfer_after : Transfer → List Entry → Transfer
transfer_after t [] = t
transfer_after t (e ∷ es) = transfer_after e.transfer es

-- the buffer after a log
unfoldable pub buffer_after : List ℕ → List Entry → List ℕ
buffer_after b [] = b
buffer_after b (e ∷ es) = buffer_after e.buffer es

-- ---- what calls and answers tell

-- a call is accepted
abbrev pub accepted : Entry → Bool
accepted e = eqb e.row.number 0

-- a piece: its number and its bytes
pub record Piece : Type 0 where
  pub number : ℕ
  pub bytes : List ℕ

-- the piece in the payload of a 1D: PROTOCOL 7.16
abbrev pub piece_in : List ℕ → Piece
piece_in payload = record { number = two_at payload 0; bytes = drop 4 payload }

-- none; or a table of a size, in pieces of a size, begun with a buffer, and the accepted pieces of distinct numbers
pub data Account : Type 0 where
  none : Account
  since : ℕ → ℕ → List ℕ → List Piece → Account

-- the number of a piece
abbrev pub number_of : Piece → ℕ
number_of p = p.number

-- one more accepted piece, unless there is one of its number
abbrev pub with_piece : Piece → List Piece → List Piece
with_piece p ps = cond (among p.number (map number_of ps)) ps (ps ++ (p ∷ []))

-- the same of an account
abbrev pub added : Piece → Account → Account
added p none = none
added p (since size piece start ps) = since size piece start (with_piece p ps)

-- an accepted call, with the buffer after it
abbrev pub account_by : Call → List ℕ → Account → Account
account_by (beginning l clock number payload piece out) buffer a = since (four_at payload 0) piece buffer []
account_by (storing number flags payload out) buffer a = added (piece_in payload) a
account_by (stopping number payload out) buffer a = none
account_by (cancelling l clock out) buffer a = none

-- an entry; a refused call tells nothing
abbrev pub account_step : Account → Entry → Account
account_step a e = cond (accepted e) (account_by e.call e.buffer a) a

-- a log
unfoldable pub account_after : Account → List Entry → Account
account_after a [] = a
account_after a (e ∷ es) = account_after (account_step a e) es

-- ---- the pieces of an account

-- the accepted pieces
abbrev pub pieces_in : Account → List Piece
pieces_in none = []
pieces_in (since size piece start ps) = ps

-- their lengths added up
unfoldable pub summed : List Piece → ℕ
summed [] = 0
summed (p ∷ ps) = length p.bytes + summed ps

-- their bytes, one after another
unfoldable pub joined : List Piece → List ℕ
joined [] = []
joined (p ∷ ps) = p.bytes ++ joined ps

-- the numbers from one on, n of them
unfoldable pub count_from : ℕ → ℕ → List ℕ
count_from from zero = []
count_from from (suc n) = from ∷ count_from (suc from) n
