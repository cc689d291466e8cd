-- Claims: each call of a transfer in range, case by case, without a division. PROTOCOL 15.4 to 15.11.
use Rattle.std.specs.Prelude.{ℕ, ◌+◌, ◌-◌, ◌*◌, ◌%◌, ◌≤◌, ◌<◌, min, ◌≡◌, ◌≢◌, true, false, cond, List, [], ◌∷◌, ◌++◌}
use Rattle.std.specs.Prelude.{None, eqb, length, take, drop}
use Rattle.base.specs.Rows.{row}
use Rattle.base.specs.Numbers.{two}
use Rattle.base.specs.Outcomes.{output, onto}
use Rattle.frame.specs.Wire.{frame_of}
use Rattle.link.specs.Calls.{link_of, in_range}
use Rattle.link.specs.declared.state.Link.{Link}
use Rattle.link.specs.Sending.{waits_for}
use Rattle.transfer.specs.Payloads.{faulty, size_in, code_in, index_in, total_in, bytes_in}
use Rattle.transfer.specs.Checks.{in_range_of}
use Rattle.transfer.specs.Calls.{Left, left, both, held, begin_of, store_of, stop_of, cancel_of}
use Rattle.transfer.specs.Refusals.{twelve}
use Rattle.transfer.specs.declared.state.Transfer.{Transfer}
use Rattle.transfer.specs.Transfers.{absent, opened}

-- ---- what is written

-- a 12 with code 3, and the refusal's number beside its size; or ROOM
pub record Rejected (S : Type 0) (n number : ℕ) (out : List ℕ) (before : S) (y : Left S) : Type 0 where
  pub fits : length (twelve number) ≤ length out
      → y ≡ left (output (row n (length (twelve number) ∷ [])) (onto (twelve number) out)) before
  pub room : length out < length (twelve number)
      → y ≡ left (output (row 22 (length (twelve number) ∷ [])) out) before

-- some bytes, and a row of their count; or ROOM, and all is as it was
pub record Written (S : Type 0) (bytes values out : List ℕ) (before next : S) (y : Left S) : Type 0 where
  pub fits : length bytes ≤ length out → y ≡ left (output (row 0 (length bytes ∷ values)) (onto bytes out)) next
  pub room : length out < length bytes → y ≡ left (output (row 22 (length bytes ∷ [])) out) before

-- a command without payload
abbrev pub Sent : (S : Type 0) → ℕ → ℕ → List ℕ → S → S → Left S → Type 0
Sent S command number out before next y =
    Written S (frame_of command number 0 []) (command ∷ []) out before next y

-- a link after its next number was used for a command at a clock
abbrev pub link_after : ℕ → Link → ℕ → ℕ → Link
link_after first l command clock =
    link_of (cond (eqb l.next 255) first (l.next + 1)) (waits_for command l.next clock 0)

-- ---- calls_exact

-- a 19, with a transfer and a link in range: SIZE, BUSY, EMPTY, TOOBIG, PIECES, PAYLOAD, and the pair
pub record BeginExact (t : Transfer) (l : Link) (number : ℕ) (payload : List ℕ) (piece room : ℕ)
    (out : List ℕ) (next : Link) (limit : ℕ) (y : Left _) : Type 0 where
  pub misread : faulty 0x19 payload ≡ true → Rejected _ 32 number out (both t l) y
  pub waits : (command under sent repeats : ℕ) → faulty 0x19 payload ≡ false
      → l.waiting ≡ waits_for command under sent repeats → y ≡ left (output (row 41 []) out) (both t l)
  pub no_bytes : faulty 0x19 payload ≡ false → l.waiting ≡ None → size_in payload ≡ 0
      → Rejected _ 61 number out (both t l) y
  pub no_pieces : faulty 0x19 payload ≡ false → l.waiting ≡ None → piece ≡ 0 → Rejected _ 61 number out (both t l) y
  pub too_big : faulty 0x19 payload ≡ false → l.waiting ≡ None → 1 ≤ size_in payload → 1 ≤ piece
      → room < size_in payload → Rejected _ 62 number out (both t l) y
  pub too_many : faulty 0x19 payload ≡ false → l.waiting ≡ None → 1 ≤ piece → size_in payload ≤ room
      → 65535 * piece < size_in payload → Rejected _ 63 number out (both t l) y
  -- accepted: 1A under the number received, then 1B under the link's next number with the code and the piece size
  pub too_long : faulty 0x19 payload ≡ false → l.waiting ≡ None → 1 ≤ size_in payload → 1 ≤ piece
      → size_in payload ≤ room → size_in payload ≤ 65535 * piece → limit < length (code_in payload) + 9
      → y ≡ left (output (row 21 (0 ∷ [])) out) (both t l)
  pub begun : faulty 0x19 payload ≡ false → l.waiting ≡ None → 1 ≤ size_in payload → 1 ≤ piece → size_in payload ≤ room
      → size_in payload ≤ 65535 * piece → length (code_in payload) + 9 ≤ limit
      → Written _
      (frame_of 0x1A number 0 []
      ++ frame_of 0x1B l.next 0 (two (length (code_in payload)) (code_in payload ++ two piece [])))
      (26 ∷ length (frame_of 0x1A number 0 []) ∷ []) out (both t l) (both (opened (size_in payload) piece 0) next) y

-- a 1D of an open transfer in range, read without a fault: TOOBIG, HEXLINES, PIECES, TURN, PIECE, and the 1E.
-- The total is right where so many pieces reach the end and one less does not
pub record StoreExact (size piece stored number flags index total : ℕ) (bytes buffer out : List ℕ) (y : Left _) : Type 0
  where
    pub too_big : length buffer < size → Rejected _ 62 number out (held (opened size piece stored) buffer) y
    pub hex : size ≤ length buffer → flags % 2 ≡ 1 → Rejected _ 64 number out (held (opened size piece stored) buffer) y
    pub total_low : size ≤ length buffer → flags % 2 ≢ 1 → total * piece < size
        → Rejected _ 63 number out (held (opened size piece stored) buffer) y
    pub total_high : size ≤ length buffer → flags % 2 ≢ 1 → size + piece ≤ total * piece
        → Rejected _ 63 number out (held (opened size piece stored) buffer) y
    pub far : size ≤ length buffer → flags % 2 ≢ 1 → size ≤ total * piece → total * piece < size + piece
        → index ≢ stored → index ≢ stored + 1 → Rejected _ 65 number out (held (opened size piece stored) buffer) y
    pub beyond : size ≤ length buffer → flags % 2 ≢ 1 → size ≤ total * piece → total * piece < size + piece
        → index ≡ stored + 1 → size ≤ stored * piece
        → Rejected _ 65 number out (held (opened size piece stored) buffer) y
    pub zero : size ≤ length buffer → flags % 2 ≢ 1 → size ≤ total * piece → total * piece < size + piece
        → index ≡ 0 → Rejected _ 65 number out (held (opened size piece stored) buffer) y
    pub wrong_size : size ≤ length buffer → flags % 2 ≢ 1 → size ≤ total * piece → total * piece < size + piece
        → index ≡ stored + 1 → stored * piece < size → length bytes ≢ min piece (size - stored * piece)
        → Rejected _ 66 number out (held (opened size piece stored) buffer) y
    pub other_bytes : size ≤ length buffer → flags % 2 ≢ 1 → size ≤ total * piece → total * piece < size + piece
        → index ≡ stored → 1 ≤ stored
        → bytes ≢ take (min piece (size - (stored - 1) * piece)) (drop ((stored - 1) * piece) buffer)
        → Rejected _ 66 number out (held (opened size piece stored) buffer) y
    -- the next piece is stored after the others, and the one just stored is only answered again
    pub next : size ≤ length buffer → flags % 2 ≢ 1 → size ≤ total * piece → total * piece < size + piece
        → index ≡ stored + 1 → stored * piece < size → length bytes ≡ min piece (size - stored * piece)
        → Sent _ 0x1E number out (held (opened size piece stored) buffer)
        (held (opened size piece (stored + 1))
        (take (stored * piece) buffer ++ (bytes ++ drop (stored * piece + length bytes) buffer))) y
    pub again : size ≤ length buffer → flags % 2 ≢ 1 → size ≤ total * piece → total * piece < size + piece
        → index ≡ stored → 1 ≤ stored
        → bytes ≡ take (min piece (size - (stored - 1) * piece)) (drop ((stored - 1) * piece) buffer)
        → Sent _ 0x1E number out (held (opened size piece stored) buffer) (held (opened size piece stored) buffer) y

-- under every limit that allows a payload of one byte
pub record CallsExact (limit first max : ℕ) : Type 0 where
  pub begins : (t : Transfer) (l : Link) (clock number : ℕ) (payload : List ℕ) (piece room : ℕ) (out : List ℕ)
      → in_range_of t ≡ true → in_range first max l ≡ true
      → BeginExact t l number payload piece room out (link_after first l 0x1B clock) limit
      (begin_of limit first max t l clock number payload piece room out)
  pub stores : (size piece stored number flags : ℕ) (payload buffer out : List ℕ)
      → in_range_of (opened size piece stored) ≡ true → faulty 0x1D payload ≡ false
      → StoreExact size piece stored number flags (index_in payload) (total_in payload) (bytes_in payload) buffer out
      (store_of limit (opened size piece stored) number flags payload buffer out)
  pub store_misread : (t : Transfer) (number flags : ℕ) (payload buffer out : List ℕ) → in_range_of t ≡ true
      → faulty 0x1D payload ≡ true
      → Rejected _ 32 number out (held t buffer) (store_of limit t number flags payload buffer out)
  pub store_absent_hex : (number flags : ℕ) (payload buffer out : List ℕ) → faulty 0x1D payload ≡ false → flags % 2 ≡ 1
      → Rejected _ 64 number out (held absent buffer) (store_of limit absent number flags payload buffer out)
  pub store_absent : (number flags : ℕ) (payload buffer out : List ℕ) → faulty 0x1D payload ≡ false → flags % 2 ≢ 1
      → Rejected _ 65 number out (held absent buffer) (store_of limit absent number flags payload buffer out)
  pub stop_misread : (t : Transfer) (number : ℕ) (payload out : List ℕ) → in_range_of t ≡ true
      → faulty 0x1F payload ≡ true → Rejected _ 32 number out t (stop_of limit t number payload out)
  pub stops : (t : Transfer) (number : ℕ) (payload out : List ℕ) → in_range_of t ≡ true
      → faulty 0x1F payload ≡ false → Sent _ 0x20 number out t absent (stop_of limit t number payload out)
  pub cancel_waits : (t : Transfer) (l : Link) (clock : ℕ) (out : List ℕ) (command under sent repeats : ℕ)
      → in_range_of t ≡ true → in_range first max l ≡ true → l.waiting ≡ waits_for command under sent repeats
      → cancel_of limit first max t l clock out ≡ left (output (row 41 []) out) (both t l)
  pub cancels : (t : Transfer) (l : Link) (clock : ℕ) (out : List ℕ)
      → in_range_of t ≡ true → in_range first max l ≡ true → l.waiting ≡ None
      → Sent _ 0x27 l.next out (both t l) (both absent (link_after first l 0x27 clock))
      (cancel_of limit first max t l clock out)
  -- STATE of the transfer, before all else
  pub state_transfer : (t : Transfer) (l : Link) (clock number flags : ℕ) (payload : List ℕ) (piece room : ℕ)
      (buffer out : List ℕ) → in_range_of t ≡ false
      → (begin_of limit first max t l clock number payload piece room out ≡ left (output (row 17 (0 ∷ [])) out)
      (both t l))
      × (store_of limit t number flags payload buffer out ≡ left (output (row 17 (0 ∷ [])) out) (held t buffer))
      × (stop_of limit t number payload out ≡ left (output (row 17 (0 ∷ [])) out) t)
      × (cancel_of limit first max t l clock out ≡ left (output (row 17 (0 ∷ [])) out) (both t l))
  -- and of the link
  pub state_link : (t : Transfer) (l : Link) (clock number : ℕ) (payload : List ℕ) (piece room : ℕ) (out : List ℕ)
      → in_range first max l ≡ false
      → (begin_of limit first max t l clock number payload piece room out ≡ left (output (row 17 (0 ∷ [])) out)
      (both t l))
      × (cancel_of limit first max t l clock out ≡ left (output (row 17 (0 ∷ [])) out) (both t l))

-- of any first number and bound of repeats
abbrev pub CallsAlways : Type 0
CallsAlways = (limit first max : ℕ) → 6 ≤ limit → CallsExact limit first max
