-- Model: what each call answers and leaves, held to the rules by calls_exact, transfer_ranges and transfer_history.
-- `limit` bounds the length of a frame; `first` and `max` are the link's. PROTOCOL 15.6 to 15.11, 15.14.
use Rattle.std.specs.Prelude.{ℕ, ◌+◌, ◌≤◌, ◌≢◌, cond, List, [], ◌∷◌, ◌++◌, eqb, length, take, drop, Option, Some, None}
use Rattle.std.specs.Prelude.{Result}
use Rattle.base.specs.Rows.{Row, row}
use Rattle.base.specs.Outcomes.{Outcome, Output, output}
use Rattle.link.specs.Calls.{offer_of}
use Rattle.link.specs.declared.state.Link.{Link}
use Rattle.transfer.specs.Pieces.{start_of, bytes_of}
use Rattle.transfer.specs.Payloads.{faulty, size_in, code_in, index_in, total_in, bytes_in}
use Rattle.transfer.specs.Table.{state_row, arrive_row_of, cancel_row_of}
use Rattle.transfer.specs.Checks.{first_refusal, in_range_of, begin_tests, store_tests, stop_tests, cancel_tests}
use Rattle.transfer.specs.Writing.{acknowledged, refused_of, pair_of}
use Rattle.transfer.specs.declared.state.Transfer.{Transfer}
use Rattle.transfer.specs.Transfers.{open_of, absent, opened}
use Rattle.transfer.specs.declared.answers.Arrival.{Arrival}
use Rattle.transfer.specs.declared.answers.ArriveError.{ArriveError}
use Rattle.transfer.specs.declared.state.Open.{Open}

-- ---- what a call leaves

-- its row, what the caller holds, and the caller's output
pub record Left (S : Type 0) : Type 0 where
  pub row : Row
  pub state : S
  pub out : List ℕ

-- shorthand for what is left after an output
abbrev pub left : {S : Type 0} → Output → S → Left S
left w s = record { row = w.row; state = s; out = w.out }

-- what was written decides: where a refusal stands in its place, all is as it was before
abbrev pub settled : {S : Type 0} → Output → S → S → Left S
settled w before next = left w (cond (eqb w.row.number 0) next before)

-- ---- what the caller holds

-- a transfer and a link
pub record Both : Type 0 where
  pub transfer : Transfer
  pub link : Link

-- shorthand for them
abbrev pub both : Transfer → Link → Both
both t l = record { transfer = t; link = l }

-- a transfer and the buffer lent for the table
pub record Held : Type 0 where
  pub transfer : Transfer
  pub buffer : List ℕ

-- shorthand for them
abbrev pub held : Transfer → List ℕ → Held
held t buffer = record { transfer = t; buffer = buffer }

-- ---- what the code returns, and what the caller holds then

-- of a 19
abbrev pub begun_of : Result Arrival ArriveError → Transfer → Link → List ℕ → Left Both
begun_of r t l out = left (output (arrive_row_of r) out) (both t l)

-- of a 1D
abbrev pub stored_of : Result Arrival ArriveError → Transfer → List ℕ → List ℕ → Left Held
stored_of r t buffer out = left (output (arrive_row_of r) out) (held t buffer)

-- of a 1F
abbrev pub arrived_of : Result Arrival ArriveError → Transfer → List ℕ → Left Transfer
arrived_of r t out = left (output (arrive_row_of r) out) t

-- of a cancel
abbrev pub cancelled_of : Result ℕ ArriveError → Transfer → Link → List ℕ → Left Both
cancelled_of r t l out = left (output (cancel_row_of r) out) (both t l)

-- ---- a 19: PROTOCOL 15.6

-- by the number of the first refusal, and what the link would be after the 1B
abbrev pub begin_by : ℕ → ℕ → Transfer → Link → Link → ℕ → List ℕ → ℕ → List ℕ → Left Both
begin_by limit refusal t l next number payload piece out =
    cond (eqb refusal 0)
    (settled (pair_of limit number l.next piece (code_in payload) out) (both t l)
    (both (opened (size_in payload) piece 0) next))
    (left (refused_of limit refusal number out) (both t l))

-- by what the link says of the 1B
abbrev pub begin_with : ℕ → ℕ → ℕ → Transfer → Link → Outcome Link → ℕ → List ℕ → ℕ → ℕ → List ℕ → Left Both
begin_with limit first max t l offered number payload piece room out =
    begin_by limit
    (first_refusal
    (begin_tests first max t l (eqb offered.row.number 41) (faulty 0x19 payload) (size_in payload) piece room))
    t l offered.state number payload piece out

-- a 19 received under a number, with a payload, into a buffer of `room` bytes
abbrev pub begin_of : ℕ → ℕ → ℕ → Transfer → Link → ℕ → ℕ → List ℕ → ℕ → ℕ → List ℕ → Left Both
begin_of limit first max t l clock number payload piece room out =
    begin_with limit first max t l (offer_of first max l 0x1B clock) number payload piece room out

-- ---- a 1D: PROTOCOL 15.7

-- bytes in a buffer from a place on
abbrev pub put_at : ℕ → List ℕ → List ℕ → List ℕ
put_at at bytes buffer = take at buffer ++ (bytes ++ drop (at + length bytes) buffer)

-- an accepted piece of what is open: after those that are stored, or there already
abbrev pub put_open : Option Open → ℕ → List ℕ → List ℕ → Held
put_open None index bytes buffer = held absent buffer
put_open (Some o) index bytes buffer =
    cond (eqb index o.stored) (held (opened o.size o.piece o.stored) buffer)
    (held (opened o.size o.piece index) (put_at (start_of o.piece o.stored) bytes buffer))

-- the same of a transfer
abbrev pub put_in : Transfer → ℕ → List ℕ → List ℕ → Held
put_in t index bytes buffer = put_open (open_of t) index bytes buffer

-- a piece that is not there already has room in the buffer
abbrev pub Fits : Option Open → ℕ → List ℕ → List ℕ → Type 0
Fits None index bytes buffer = Unit {0}
Fits (Some o) index bytes buffer = index ≢ o.stored → start_of o.piece o.stored + length bytes ≤ length buffer

-- by the number of the first refusal
abbrev pub store_by : ℕ → ℕ → Transfer → ℕ → List ℕ → List ℕ → List ℕ → Left Held
store_by limit refusal t number payload buffer out =
    cond (eqb refusal 0)
    (settled (acknowledged limit 0x1E number out) (held t buffer)
    (put_in t (index_in payload) (bytes_in payload) buffer))
    (left (refused_of limit refusal number out) (held t buffer))

-- a 1D received under a number, with flags and a payload
abbrev pub store_of : ℕ → Transfer → ℕ → ℕ → List ℕ → List ℕ → List ℕ → Left Held
store_of limit t number flags payload buffer out =
    store_by limit
    (first_refusal
    (store_tests t flags (faulty 0x1D payload) (index_in payload) (total_in payload) (bytes_in payload) buffer))
    t number payload buffer out

-- ---- a 1F: PROTOCOL 15.8

-- by the number of the first refusal
abbrev pub stop_by : ℕ → ℕ → Transfer → ℕ → List ℕ → Left Transfer
stop_by limit refusal t number out =
    cond (eqb refusal 0) (settled (acknowledged limit 0x20 number out) t absent)
    (left (refused_of limit refusal number out) t)

-- a 1F received under a number, with a payload
abbrev pub stop_of : ℕ → Transfer → ℕ → List ℕ → List ℕ → Left Transfer
stop_of limit t number payload out =
    stop_by limit (first_refusal (stop_tests t (faulty 0x1F payload))) t number out

-- ---- a 27 of ours: PROTOCOL 15.9

-- by the number of the first refusal, and what the link would be after the 27
abbrev pub cancel_by : ℕ → ℕ → Transfer → Link → Link → List ℕ → Left Both
cancel_by limit refusal t l next out =
    cond (eqb refusal 0) (settled (acknowledged limit 0x27 l.next out) (both t l) (both absent next))
    (left (refused_of limit refusal 0 out) (both t l))

-- by what the link says of the 27
abbrev pub cancel_with : ℕ → ℕ → ℕ → Transfer → Link → Outcome Link → List ℕ → Left Both
cancel_with limit first max t l offered out =
    cancel_by limit (first_refusal (cancel_tests first max t l (eqb offered.row.number 41))) t l offered.state out

-- a 27 offered to the link
abbrev pub cancel_of : ℕ → ℕ → ℕ → Transfer → Link → ℕ → List ℕ → Left Both
cancel_of limit first max t l clock out = cancel_with limit first max t l (offer_of first max l 0x27 clock) out

-- ---- the progress: PROTOCOL 15.12

-- of a transfer in range, by what is open
abbrev pub progress_in : Option Open → Row
progress_in None = row 0 []
progress_in (Some o) = row 0 (bytes_of o.size o.piece o.stored ∷ o.size ∷ [])

-- of any transfer
abbrev pub progress_of : Transfer → Row
progress_of t = cond (in_range_of t) (progress_in (open_of t)) state_row
