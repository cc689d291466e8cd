-- Claims: what an accepted 19 writes is two frames that a reader hands out in this order: the 1A, and then the 1B, from
-- which the check code and the piece size are read back. PROTOCOL 6.8, 7.15, 15.6.
use Rattle.std.specs.Prelude.{ℕ, ◌+◌, ◌≤◌, ◌≡◌, List, [], ◌∷◌, ◌++◌, length, take}
use Rattle.base.specs.Rows.{row}
use Rattle.frame.specs.Wire.{widest, command_of, number_of, flags_of, payload_of}
use Rattle.frame.specs.Frames.{Found}
use Rattle.frame.specs.FramesComputed.{frames_of}
use Rattle.frame.specs.Calls.{fresh_of}
use Rattle.frame.specs.Logs.{Call, stream, delivered}
use Rattle.frame.specs.LogsComputed.{log_of, state_after}
use Rattle.link.specs.declared.state.Link.{Link}
use Rattle.message.specs.Parts.{bytes_of}
use Rattle.message.specs.Reading.{read_of, parts_of}
use Rattle.transfer.specs.Payloads.{code_in}
use Rattle.transfer.specs.Calls.{begin_of}
use Rattle.transfer.specs.declared.state.Transfer.{Transfer}

-- ---- the two frames

-- a 1A under a number, from a place to another
pub record IsAccept (number start end : ℕ) (f : Found) : Type 0 where
  pub start_is : f.start ≡ start
  pub end_is : f.end ≡ end
  pub command_is : command_of f.body ≡ 0x1A
  pub number_is : number_of f.body ≡ number
  pub flags_are : flags_of f.body ≡ 0
  pub payload_is : payload_of f.body ≡ []

-- a 1B under a number, from a place to another, whose payload `message` reads as a piece size and a check code
pub record IsReady (number piece : ℕ) (code : List ℕ) (start end : ℕ) (f : Found) : Type 0 where
  pub start_is : f.start ≡ start
  pub end_is : f.end ≡ end
  pub command_is : command_of f.body ≡ 0x1B
  pub number_is : number_of f.body ≡ number
  pub flags_are : flags_of f.body ≡ 0
  pub message : read_of 0x1B (payload_of f.body) ≡ row 0 (0x1B ∷ piece ∷ [])
  pub code_is : bytes_of (parts_of 0x1B (payload_of f.body)).code (payload_of f.body) ≡ code

-- both, from a place on: `count` bytes, of which the second frame begins at `at`
pub record Pair (start at count number next piece : ℕ) (code : List ℕ) : Type 0 where
  pub first : Found
  pub second : Found
  pub accept : IsAccept number start (start + at) first
  pub ready : IsReady next piece code (start + at) (start + count) second

-- a 19 is accepted: `count` bytes were written, of which the 1B begins at `at`. Its 1A has the number received, its 1B
-- the link's next number, our piece size and the check code received
pub record Begins
    (limit : ℕ) (l : Link) (number : ℕ) (payload : List ℕ) (piece at count : ℕ) (written : List ℕ) : Type 0 where
  pub first : ℕ
  pub max : ℕ
  pub transfer : Transfer
  pub clock : ℕ
  pub room : ℕ
  pub out : List ℕ
  pub accepted :
      (begin_of limit first max transfer l clock number payload piece room out).row ≡ row 0 (count ∷ 0x1A ∷ at ∷ [])
  pub wrote : take count (begin_of limit first max transfer l clock number payload piece room out).out ≡ written

-- ---- pair_read: after all earlier calls of a fresh reader, all calls that consume what was written deliver these two
-- frames and no other
pub record PairBack (start at count number next piece : ℕ) (code : List ℕ) (l : List Found) : Type 0 where
  pub pair : Pair start at count number next piece code
  pub both : l ≡ pair.first ∷ pair.second ∷ []

-- of every accepted 19
abbrev pub PairRead : Type 0
PairRead =
    (limit : ℕ) → limit ≤ widest → (l : Link) (number : ℕ) (payload : List ℕ) (piece at count : ℕ) (written : List ℕ)
    → Begins limit l number payload piece at count written
    → (earlier later : List Call)
    → stream (log_of limit (state_after limit (fresh_of limit) earlier) later) ≡ written
    → PairBack (length (stream (log_of limit (fresh_of limit) earlier))) at count number l.next piece (code_in payload)
    (delivered (log_of limit (state_after limit (fresh_of limit) earlier) later))

-- ---- pair_anywhere: anywhere in the stream, with other bytes before and after it in the same calls, the two frames
-- are delivered one after the other, behind the frames of the bytes before
pub record PairAmong
    (before : List Found) (start at count number next piece : ℕ) (code : List ℕ) (l : List Found) : Type 0 where
  pub pair : Pair start at count number next piece code
  pub after : List Found
  pub order : l ≡ before ++ (pair.first ∷ pair.second ∷ after)

-- of every accepted 19
abbrev pub PairAnywhere : Type 0
PairAnywhere =
    (limit : ℕ) → limit ≤ widest → (l : Link) (number : ℕ) (payload : List ℕ) (piece at count : ℕ) (written : List ℕ)
    → Begins limit l number payload piece at count written
    → (calls : List Call) (before after : List ℕ)
    → stream (log_of limit (fresh_of limit) calls) ≡ before ++ (written ++ after)
    → PairAmong (frames_of limit before) (length before) at count number l.next piece (code_in payload)
    (delivered (log_of limit (fresh_of limit) calls))
