-- Statement: what a received 19, 1D or 1F says, as `message` reads it. PROTOCOL 7.15, 7.16.
-- A payload that is faulty has no values, so its numbers are 0, and no parts.
use Rattle.std.specs.Prelude.{ℕ, Bool, not, cond, List, eqb, get_or, Option, Some, None}
use Rattle.message.specs.Parts.{bytes_of}
use Rattle.message.specs.Reading.{read_of, parts_of}
use Rattle.message.specs.declared.parts.Place.{Place}
use Rattle.transfer.specs.declared.announcements.Announcement.{Announcement}
use Rattle.transfer.specs.declared.announcements.Piece.{Piece}

-- whether `message` refuses the payload of a command: COMMAND, SIZE or FIELD, which for these three is always SIZE
abbrev pub faulty : ℕ → List ℕ → Bool
faulty command payload = not (eqb (read_of command payload).number 0)

-- 19: the size announced
abbrev pub size_in : List ℕ → ℕ
size_in payload = get_or (read_of 0x19 payload).values 1 0

-- 19: the place of the check code
abbrev pub code_at : List ℕ → Place
code_at payload = (parts_of 0x19 payload).code

-- 19: the check code
abbrev pub code_in : List ℕ → List ℕ
code_in payload = bytes_of (code_at payload) payload

-- 1D: the number of the piece
abbrev pub index_in : List ℕ → ℕ
index_in payload = get_or (read_of 0x1D payload).values 1 0

-- 1D: how many pieces there are
abbrev pub total_in : List ℕ → ℕ
total_in payload = get_or (read_of 0x1D payload).values 2 0

-- 1D: the place of the bytes
abbrev pub bytes_at : List ℕ → Place
bytes_at payload = (parts_of 0x1D payload).piece

-- 1D: the bytes
abbrev pub bytes_in : List ℕ → List ℕ
bytes_in payload = bytes_of (bytes_at payload) payload

-- ---- what the code reads of them

-- 19
abbrev pub announcement_of : List ℕ → Option Announcement
announcement_of payload =
    cond (faulty 0x19 payload) None (Some (record { size = size_in payload; code = code_at payload }))

-- 1D
abbrev pub piece_of : List ℕ → Option Piece
piece_of payload =
    cond (faulty 0x1D payload) None
    (Some (record { index = index_in payload; total = total_in payload; bytes = bytes_at payload }))
