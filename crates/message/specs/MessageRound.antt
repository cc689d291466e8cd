-- Claims: a message that was written is found by the reader of frames and read as the same message. PROTOCOL 6.8, 7.26.
use Rattle.std.specs.Prelude.{ℕ, ◌+◌, ◌≤◌, ◌≡◌, length, take}
use mathlib.Core.List.{List, [], ◌∷◌, ◌++◌, Memᴰ}
use Rattle.base.specs.Rows.{row}
use Rattle.frame.specs.Wire.{widest, command_of, number_of, flags_of, payload_of}
use Rattle.frame.specs.Frames.{Found}
use Rattle.frame.specs.Calls.{fresh_of}
use Rattle.frame.specs.Logs.{Call, Entry, stream, delivered}
use Rattle.frame.specs.LogsComputed.{log_of, state_after}
use Rattle.frame.specs.RoundTrip.{ReadBack}
use Rattle.message.specs.Messages.{command_in, payload_in}
use Rattle.message.specs.Writing.{send_of}
use Rattle.message.specs.WrittenRead.{Decodes}
use Rattle.message.specs.declared.values.Message.{Message}

-- ---- message_round_trip: after any calls of a fresh reader, the calls that consumed a written message end in FRAME at
-- its last byte, and the body that the reader then holds is read as that message

-- the frame is read back, and its body is the message
pub record MessageBack (start : ℕ) (m : Message) (number flags : ℕ) (opaque : List ℕ) (log : List Entry) : Type 0 where
  pub frame : ReadBack start (command_in m) number flags (payload_in m opaque) log
  pub message : Decodes m opaque (command_of frame.last.after.body) (payload_of frame.last.after.body)

-- of every message that was written
abbrev pub MessageRoundTrip : Type 0
MessageRoundTrip =
    (limit : ℕ) → limit ≤ widest → (m : Message) (number flags count : ℕ) (opaque out : List ℕ)
    → (send_of limit m number flags opaque out).row ≡ row 0 (count ∷ [])
    → (earlier later : List Call)
    → stream (log_of limit (state_after limit (fresh_of limit) earlier) later)
    ≡ take count (send_of limit m number flags opaque out).out
    → MessageBack (length (stream (log_of limit (fresh_of limit) earlier))) m number flags opaque
    (log_of limit (state_after limit (fresh_of limit) earlier) later)

-- ---- message_read_anywhere: a written message, anywhere in the stream of any calls of a fresh reader, with other
-- bytes before and after it, is delivered as a frame whose body is read as that message

-- the delivered frame: its place, its sequence number and flags, and the message of its body
pub record FoundAs
    (m : Message) (number flags : ℕ) (opaque : List ℕ) (start count : ℕ) (log : List Entry) : Type 0 where
  pub found : Found
  pub is_delivered : Memᴰ found (delivered log)
  pub start_is : found.start ≡ start
  pub end_is : found.end ≡ start + count
  pub number_is : number_of found.body ≡ number
  pub flags_are : flags_of found.body ≡ flags
  pub message : Decodes m opaque (command_of found.body) (payload_of found.body)

-- of every message that was written
abbrev pub MessageReadAnywhere : Type 0
MessageReadAnywhere =
    (limit : ℕ) → limit ≤ widest → (m : Message) (number flags count : ℕ) (opaque out : List ℕ)
    → (send_of limit m number flags opaque out).row ≡ row 0 (count ∷ [])
    → (calls : List Call) (before after : List ℕ)
    → stream (log_of limit (fresh_of limit) calls)
    ≡ before ++ (take count (send_of limit m number flags opaque out).out ++ after)
    → FoundAs m number flags opaque (length before) count (log_of limit (fresh_of limit) calls)
