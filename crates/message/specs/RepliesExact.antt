-- Claims: which reply each frame gets, in literal numbers, and the caller's buffer after it.
-- PROTOCOL 6.12, 8.1 to 8.13.
use Rattle.std.specs.Prelude.{ℕ, ◌+◌, ◌<◌, ◌≤◌, ◌≡◌, true, false, List, [], ◌∷◌, ◌++◌, ◌≢◌, length, drop}
use Rattle.base.specs.Rows.{Row, row}
use Rattle.base.specs.Outcomes.{Output, output}
use Rattle.base.specs.Asking.{AsksOnce}
use Rattle.base.specs.Keys.{among}
use Rattle.frame.specs.Wire.{widest, command_of, number_of, payload_of, wire, body_of}
use Rattle.frame.specs.Calls.{fresh_of}
use Rattle.frame.specs.Logs.{Call, stream}
use Rattle.frame.specs.LogsComputed.{log_of, state_after}
use Rattle.frame.specs.RoundTrip.{ReadBack}
use Rattle.message.specs.Commands.{from_box, owed_of}
use Rattle.message.specs.Layouts.{code_number}
use Rattle.message.specs.Table.{cause_number}
use Rattle.message.specs.Owed.{handed, code_for}
use Rattle.message.specs.Reading.{read_of}
use Rattle.message.specs.Replies.{owed_to, reply_read_of, reply_frame_of, reply_of}
use Rattle.message.specs.CommandLists.{box_commands, handed_commands}
use Rattle.message.specs.declared.kind.Cause.{Cause}
use Rattle.message.specs.declared.kind.Cause.TheVariants as cause
use Rattle.message.specs.declared.kind.Owed.TheVariants as owes

-- ---- faults_rejected: the cause and the code of each rejection

-- a frame is rejected for this cause, with this number and this code
pub record Rejects (command : ℕ) (p : List ℕ) (why : Cause) (shown code : ℕ) : Type 0 where
  pub cause_is : owed_to command p ≡ owes.Reject why
  pub shown_is : cause_number why ≡ shown
  pub code_is : code_number (code_for why) ≡ code

-- each fault; a command that is handed to the caller is rejected for none
pub record FaultRejected (command : ℕ) (p : List ℕ) : Type 0 where
  pub box_only : from_box command ≡ true → Rejects command p cause.BoxCommand 0 2
  pub unlisted : read_of command p ≡ row 31 [] → Rejects command p cause.Command 31 2
  pub handed_over : handed (owed_of command) ≡ true → owed_to command p ≡ owed_of command
  pub size :
      from_box command ≡ false → handed (owed_of command) ≡ false → read_of command p ≡ row 32 []
      → Rejects command p cause.Size 32 3
  pub field :
      from_box command ≡ false → handed (owed_of command) ≡ false → read_of command p ≡ row 33 []
      → Rejects command p cause.Field 33 3

-- of every frame
abbrev pub FaultsRejected : Type 0
FaultsRejected = (command : ℕ) (p : List ℕ) → FaultRejected command p

-- ---- replies_exact: the reply to each frame, and its bytes

-- a reply on the wire: a command and its payload under the received sequence number, flags 0
abbrev pub reply_wire : ℕ → ℕ → List ℕ → List ℕ
reply_wire number command payload = wire (body_of command number 0 payload)

-- a reply that is written
pub record Replied (limit number command : ℕ) (payload shown out : List ℕ) (w : Output) : Type 0 where
  -- where it fits: at the front of the buffer, whose rest stays; the row has its count, then the values shown
  pub fits :
      length (reply_wire number command payload) ≤ length out
      → w ≡ output (row 0 (length (reply_wire number command payload) ∷ shown))
      (reply_wire number command payload ++ drop (length (reply_wire number command payload)) out)
  -- where it does not fit: ROOM with its size, and the buffer stays
  pub room :
      length out < length (reply_wire number command payload)
      → w ≡ output (row 22 (length (reply_wire number command payload) ∷ [])) out
  -- it is a message that reading accepts
  pub message : read_of command payload ≡ row 0 (command ∷ payload)
  -- after any calls of a fresh reader, the calls that consumed it end in FRAME with these fields
  pub back :
      limit ≤ widest → (earlier later : List Call)
      → stream (log_of limit (state_after limit (fresh_of limit) earlier) later) ≡ reply_wire number command payload
      → ReadBack (length (stream (log_of limit (fresh_of limit) earlier))) command number 0 payload
      (log_of limit (state_after limit (fresh_of limit) earlier) later)

-- a rejection: its row has command 12, the code, and the cause (15, 31, 32, 33, or 0 for a command of the box)
abbrev pub RejectedWith : ℕ → ℕ → ℕ → ℕ → List ℕ → Output → Type 0
RejectedWith limit number code cause out w =
    Replied limit number 0x12 (code ∷ []) (0x12 ∷ code ∷ cause ∷ []) out w

-- the reply to a frame
pub record ReplyExact (limit command number : ℕ) (p out : List ℕ) (w : Output) : Type 0 where
  pub box_only : among command box_commands ≡ true → RejectedWith limit number 2 0 out w
  pub unlisted : read_of command p ≡ row 31 [] → RejectedWith limit number 2 31 out w
  -- handed to the caller whatever the payload is, faulty or not: PROTOCOL 8.9
  pub begin : command ≡ 0x19 → w ≡ output (row 0 (0 ∷ 0x1A ∷ number ∷ [])) out
  pub store : command ≡ 0x1D → w ≡ output (row 0 (0 ∷ 0x1E ∷ number ∷ [])) out
  pub stop : command ≡ 0x1F → w ≡ output (row 0 (0 ∷ 0x20 ∷ number ∷ [])) out
  pub size :
      among command box_commands ≡ false → among command handed_commands ≡ false → read_of command p ≡ row 32 []
      → RejectedWith limit number 3 32 out w
  pub field :
      among command box_commands ≡ false → among command handed_commands ≡ false → read_of command p ≡ row 33 []
      → RejectedWith limit number 3 33 out w
  pub acknowledged :
      (values : List ℕ) → among command (0x07 ∷ 0x0D ∷ 0x0F ∷ []) ≡ true → read_of command p ≡ row 0 values
      → Replied limit number (command + 1) [] [] out w
  pub control :
      (values : List ℕ) → read_of command p ≡ row 0 (0x03 ∷ 1 ∷ values) → Replied limit number 0x04 [] [] out w
  pub query :
      (values : List ℕ) → read_of command p ≡ row 0 (0x03 ∷ 2 ∷ values)
      → w ≡ output (row 0 (0 ∷ 0x04 ∷ number ∷ [])) out
  pub information :
      (values : List ℕ) → read_of command p ≡ row 0 (0x01 ∷ values) → w ≡ output (row 0 (0 ∷ 0x02 ∷ number ∷ [])) out
  pub silent :
      (values : List ℕ) → among command box_commands ≡ false
      → among command (0x01 ∷ 0x03 ∷ 0x07 ∷ 0x0D ∷ 0x0F ∷ 0x19 ∷ 0x1D ∷ 0x1F ∷ []) ≡ false
      → read_of command p ≡ row 0 values → w ≡ output (row 0 []) out

-- to every frame, read already or not, to a delivered one, and to one with a wrong sum
pub record RepliesInto (limit : ℕ) (out : List ℕ) : Type 0 where
  pub frames :
      (command number : ℕ) (p : List ℕ)
      → ReplyExact limit command number p out (reply_frame_of limit command number p out)
  pub readings :
      (command number : ℕ) (p : List ℕ)
      → ReplyExact limit command number p out (reply_read_of limit command number (read_of command p) out)
  pub is_delivered :
      (v body : List ℕ)
      → ReplyExact limit (command_of body) (number_of body) (payload_of body) out (reply_of limit (row 1 v) body out)
  pub wrong_sum_lem : (v body : List ℕ)
      → RejectedWith limit (number_of body) 1 15 out (reply_of limit (row 15 v) body out)

-- into every buffer, under every limit that allows a payload of one byte
abbrev pub RepliesExact : Type 0
RepliesExact = (limit : ℕ) → 6 ≤ limit → (out : List ℕ) → RepliesInto limit out

-- ---- silent_else: only FRAME 1 and SUM 15 get a reply; to any other answer of the reader nothing is written and the
-- caller is asked nothing
abbrev pub SilentElse : Type 0
SilentElse =
    (limit : ℕ) (answer : Row) (body out : List ℕ) → answer.number ≢ 1 → answer.number ≢ 15
    → reply_of limit answer body out ≡ output (row 0 []) out

-- ---- no_payload: no reply is PAYLOAD 21, under every limit that allows a payload of one byte
pub record NoPayload (limit : ℕ) (out : List ℕ) : Type 0 where
  pub decisions : (answer : Row) (body : List ℕ) → (reply_of limit answer body out).row.number ≢ 21
  pub frames : (command number : ℕ) (p : List ℕ) → (reply_frame_of limit command number p out).row.number ≢ 21
  pub readings : (command number : ℕ) (reading : Row) → (reply_read_of limit command number reading out).row.number ≢ 21

-- into every buffer
abbrev pub RepliesNoPayload : Type 0
RepliesNoPayload = (limit : ℕ) → 6 ≤ limit → (out : List ℕ) → NoPayload limit out

-- ---- reply_asked: a reply that met ROOM once is written into every buffer of the size that it said
pub record ReplyAsked (limit : ℕ) : Type 0 where
  pub decisions : (answer : Row) (body : List ℕ) → AsksOnce (λ out. (reply_of limit answer body out).row)
  pub frames : (command number : ℕ) (p : List ℕ) → AsksOnce (λ out. (reply_frame_of limit command number p out).row)
  pub readings :
      (command number : ℕ) (reading : Row) → AsksOnce (λ out. (reply_read_of limit command number reading out).row)

-- under every limit
abbrev pub RepliesAsked : Type 0
RepliesAsked = (limit : ℕ) → ReplyAsked limit
