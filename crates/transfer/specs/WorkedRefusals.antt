-- Claims: each refusal and all that could compete with it, by computation, in the order of PROTOCOL 15.10.
use Rattle.std.specs.Prelude.{ℕ, ◌≡◌, Bool, true, false, cond, List, [], ◌∷◌, ◌++◌, replicate}
use Rattle.base.specs.Rows.{Row}
use Rattle.link.specs.Calls.{link_of}
use Rattle.link.specs.declared.state.Link.{Link}
use Rattle.link.specs.Sending.{waits_for}
use Rattle.transfer.specs.Calls.{begin_of, store_of, stop_of, cancel_of}
use Rattle.transfer.specs.WorkedTransfers.{idle, busy}
use Rattle.transfer.specs.declared.state.Transfer.{Transfer}
use Rattle.transfer.specs.Transfers.{absent, opened}

-- ---- all cases of some faults, the first fault varying slowest, with it before without it

-- of two values
abbrev pub cases2 : (Bool → Bool → ℕ) → List ℕ
cases2 f = f true true ∷ f true false ∷ f false true ∷ f false false ∷ []

-- of four
abbrev pub cases4 : (Bool → Bool → Bool → Bool → ℕ) → List ℕ
cases4 f =
    cases2 (f true true) ++ (cases2 (f true false) ++ (cases2 (f false true) ++ cases2 (f false false)))

-- of six
abbrev pub cases6 : (Bool → Bool → Bool → Bool → Bool → Bool → ℕ) → List ℕ
cases6 f =
    cases4 (f true true) ++ (cases4 (f true false) ++ (cases4 (f false true) ++ cases4 (f false false)))

-- the number of an answer
abbrev pub number_in : Row → ℕ
number_in r = r.number

-- a transfer that is out of range, or not
abbrev pub any_transfer : Bool → Transfer
any_transfer out = cond out (opened 10 4 4) (opened 10 4 1)

-- a link that is out of range; a link that waits; an idle one
abbrev pub any_link : Bool → Bool → Link
any_link out waits = cond out (link_of 3 (waits_for 0x06 2 0 0)) (cond waits busy idle)

-- ---- a 19: 70,000 bytes in pieces of one byte are too many pieces; 10 bytes are not

-- four bytes of size and no check code, with a byte too many or not
abbrev pub announcing : Bool → Bool → List ℕ
announcing misread many =
    cond many (0 ∷ 1 ∷ 0x11 ∷ 0x70 ∷ []) (0 ∷ 0 ∷ 0 ∷ 10 ∷ []) ++ (0 ∷ 0 ∷ cond misread (1 ∷ []) [])

-- STATE, SIZE, BUSY, EMPTY, TOOBIG, PIECES
abbrev pub begin_case : Bool → Bool → Bool → Bool → Bool → Bool → ℕ
begin_case out misread waits empty short many =
    number_in
    (begin_of 1024 0 2 (any_transfer out) (any_link false waits) 0 5 (announcing misread many) (cond empty 0 1)
    (cond short 9 70000) (replicate 30 9)).row

-- the link's STATE and ROOM instead
abbrev pub begin_room : Bool → Bool → Bool → Bool → ℕ
begin_room link_out misread waits empty =
    number_in (begin_of 1024 0 2 absent (any_link link_out waits) 0 5 (announcing misread false) (cond empty 0 1) 12
    (replicate 9 9)).row

-- an announced size of 0: BUSY before EMPTY, EMPTY before all that is about pieces
abbrev pub begin_nothing : Bool → Bool → Bool → Bool → ℕ
begin_nothing waits nothing empty narrow =
    number_in (begin_of 1024 0 2 absent (any_link false waits) 0 5
    (0 ∷ 0 ∷ 0 ∷ cond nothing 0 10 ∷ 0 ∷ 0 ∷ []) (cond empty 0 1) 12 (replicate (cond narrow 9 30) 9)).row

-- a check code whose 1B has 1,019 bytes of payload or one more, into an output with room or without
abbrev pub begin_long : Bool → Bool → ℕ
begin_long long narrow =
    number_in (begin_of 1024 0 2 absent idle 0 5
    (0 ∷ 0 ∷ 0 ∷ 10 ∷ 3 ∷ cond long (0xF8 ∷ replicate 1016 1) (0xF7 ∷ replicate 1015 1)) 4 12
    (replicate (cond narrow 20 1100) 9)).row

-- ---- a 1D

-- piece 2 of 3; with total 5, number 3 or a byte too many instead
abbrev pub piece_of : Bool → Bool → Bool → List ℕ
piece_of total turn bytes = 0 ∷ cond turn 3 2 ∷ 0 ∷ cond total 5 3 ∷ 5 ∷ 6 ∷ 7 ∷ 8 ∷ cond bytes (9 ∷ []) []

-- STATE, TOOBIG, HEXLINES, PIECES, TURN, PIECE
abbrev pub store_case : Bool → Bool → Bool → Bool → Bool → Bool → ℕ
store_case out short hex total turn bytes =
    number_in (store_of 1024 (any_transfer out) 6 (cond hex 1 0xFFFE) (piece_of total turn bytes)
    (replicate (cond short 9 12) 7) (replicate 30 9)).row

-- SIZE before TOOBIG, and no room for the 12 or the 1E
abbrev pub store_room : Bool → Bool → Bool → Bool → ℕ
store_room misread short hex narrow =
    number_in
    (store_of 1024 (opened 10 4 1) 6 (cond hex 1 0) (cond misread (0 ∷ 2 ∷ 0 ∷ []) (piece_of false false false))
    (replicate (cond short 9 12) 7) (replicate (cond narrow 8 30) 9)).row

-- the piece just stored with other bytes or without, of another total and with hex lines or without, into a buffer
-- that is too short or not
abbrev pub store_again : Bool → Bool → Bool → Bool → ℕ
store_again short hex total bytes =
    number_in
    (store_of 1024 (opened 10 4 1) 6 (cond hex 3 2) (0 ∷ 1 ∷ 0 ∷ cond total 2 3 ∷ 7 ∷ 7 ∷ 7 ∷ cond bytes 8 7 ∷ [])
    (replicate (cond short 9 12) 7) (replicate 30 9)).row

-- without a transfer: SIZE, HEXLINES, TURN, ROOM
abbrev pub store_none : Bool → Bool → Bool → Bool → ℕ
store_none misread hex short narrow =
    number_in (store_of 1024 absent 6 (cond hex 1 0) (cond misread (0 ∷ 2 ∷ 0 ∷ []) (piece_of false false false))
    (replicate (cond short 0 12) 7) (replicate (cond narrow 9 30) 9)).row

-- ---- a 1F and a 27

-- STATE, SIZE, with a transfer or without, ROOM
abbrev pub stop_case : Bool → Bool → Bool → Bool → ℕ
stop_case out misread without narrow =
    number_in
    (stop_of 1024 (cond without (cond out (opened 0 4 0) absent) (any_transfer out)) 6 (cond misread (1 ∷ []) [])
    (replicate (cond narrow 8 30) 9)).row

-- STATE of either, BUSY, ROOM
abbrev pub cancel_case : Bool → Bool → Bool → Bool → ℕ
cancel_case out link_out waits narrow =
    number_in (cancel_of 1024 0 2 (any_transfer out) (any_link link_out waits) 0 (replicate (cond narrow 8 30) 9)).row

-- ---- worked_refusals
pub record WorkedRefusals : Type 0 where
  pub begins :
      cases6 begin_case
      ≡ replicate 32 17 ++ (replicate 16 32 ++ (replicate 8 41 ++ (replicate 4 61 ++ (62 ∷ 62 ∷ 63 ∷ 0 ∷ []))))
  pub begins_roomless : cases4 begin_room ≡ replicate 8 17 ++ (replicate 4 22 ++ (41 ∷ 41 ∷ 22 ∷ 22 ∷ []))
  pub begins_nothing :
      cases4 begin_nothing ≡ replicate 8 41 ++ (22 ∷ 61 ∷ 22 ∷ 61 ∷ 22 ∷ 61 ∷ 22 ∷ 0 ∷ [])
  pub begins_long : cases2 begin_long ≡ 21 ∷ 21 ∷ 22 ∷ 0 ∷ []
  pub stores :
      cases6 store_case
      ≡ replicate 32 17 ++ (replicate 16 62 ++ (replicate 8 64 ++ (replicate 4 63 ++ (65 ∷ 65 ∷ 66 ∷ 0 ∷ []))))
  pub stores_roomless :
      cases4 store_room
      ≡ 22 ∷ 32 ∷ 22 ∷ 32 ∷ 22 ∷ 32 ∷ 22 ∷ 32 ∷ 22 ∷ 62 ∷ 22 ∷ 62 ∷ 22 ∷ 64 ∷ 22 ∷ 0 ∷ []
  pub stores_again : cases4 store_again ≡ replicate 8 62 ++ (replicate 4 64 ++ (63 ∷ 63 ∷ 66 ∷ 0 ∷ []))
  pub stores_none :
      cases4 store_none
      ≡ 22 ∷ 32 ∷ 22 ∷ 32 ∷ 22 ∷ 32 ∷ 22 ∷ 32 ∷ 22 ∷ 64 ∷ 22 ∷ 64 ∷ 22 ∷ 65 ∷ 22 ∷ 65 ∷ []
  pub stops : cases4 stop_case ≡ replicate 8 17 ++ (22 ∷ 32 ∷ 22 ∷ 32 ∷ 22 ∷ 0 ∷ 22 ∷ 0 ∷ [])
  pub cancels : cases4 cancel_case ≡ replicate 8 17 ++ (replicate 4 17 ++ (41 ∷ 41 ∷ 22 ∷ 0 ∷ []))
