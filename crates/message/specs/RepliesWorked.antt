-- Claims: literal replies, to every command byte and to every kind of fault. PROTOCOL 8.2 to 8.13.
use Rattle.std.specs.Prelude.{ℕ, ◌+◌, ◌≤◌, ◌≡◌, List, [], ◌∷◌, map, length, drop, replicate}
use Rattle.base.specs.Rows.{row}
use Rattle.base.specs.Outcomes.{Output, output}
use Rattle.frame.specs.Wire.{number_of}
use Rattle.message.specs.Replies.{reject_of, reply_frame_of, reply_of}
use Rattle.message.specs.ReadingSizes.{command_bytes}
use Rattle.message.specs.declared.kind.Cause.TheVariants as cause

-- ---- worked_decisions: the box's reply to each answer of the reader
pub record WorkedDecision (limit number : ℕ) (v body out : List ℕ) : Type 0 where
  pub wants_information :
      reply_of limit (row 1 v) (0 ∷ 5 ∷ 0x01 ∷ number ∷ 0 ∷ 0 ∷ []) out
      ≡ output (row 0 (0 ∷ 0x02 ∷ number ∷ [])) out
  pub wants_status :
      reply_of limit (row 1 v) (0 ∷ 6 ∷ 0x03 ∷ number ∷ 0 ∷ 0 ∷ 2 ∷ []) out
      ≡ output (row 0 (0 ∷ 0x04 ∷ number ∷ [])) out
  -- 19, 1D and 1F, whatever stands behind the sequence number
  pub wants_begin :
      reply_of limit (row 1 v) (0 ∷ 5 ∷ 0x19 ∷ number ∷ body) out ≡ output (row 0 (0 ∷ 0x1A ∷ number ∷ [])) out
  pub wants_store :
      reply_of limit (row 1 v) (0 ∷ 5 ∷ 0x1D ∷ number ∷ body) out ≡ output (row 0 (0 ∷ 0x1E ∷ number ∷ [])) out
  pub wants_stop :
      reply_of limit (row 1 v) (0 ∷ 5 ∷ 0x1F ∷ number ∷ body) out ≡ output (row 0 (0 ∷ 0x20 ∷ number ∷ [])) out
  pub wrong_sum_lem : reply_of limit (row 15 v) body out ≡ reject_of limit cause.Sum (number_of body) out
  pub silent_short : reply_of limit (row 11 v) body out ≡ output (row 0 []) out
  pub silent_long : reply_of limit (row 12 v) body out ≡ output (row 0 []) out
  pub silent_stuff : reply_of limit (row 13 v) body out ≡ output (row 0 []) out
  pub silent_stuff_late : reply_of limit (row 19 v) body out ≡ output (row 0 []) out
  pub silent_cut : reply_of limit (row 14 v) body out ≡ output (row 0 []) out

-- for all sequence numbers and bodies
abbrev pub WorkedDecisions : Type 0
WorkedDecisions = (limit number : ℕ) (v body out : List ℕ) → WorkedDecision limit number v body out

-- ---- worked_replies: an acknowledgement and a rejection in literal bytes
pub record WorkedReply (limit : ℕ) (v out : List ℕ) : Type 0 where
  pub acknowledged :
      reply_of limit (row 1 v) (0 ∷ 5 ∷ 0x07 ∷ 9 ∷ 0 ∷ 0 ∷ 21 ∷ []) out
      ≡ output (row 0 (9 ∷ []))
      (0xFF ∷ 0xFF ∷ 0x00 ∷ 0x05 ∷ 0x08 ∷ 0x09 ∷ 0x00 ∷ 0x00 ∷ 0x16 ∷ drop 9 out)
  pub wrong_sum_lem :
      reply_of limit (row 15 v) (0 ∷ 5 ∷ 0x07 ∷ 9 ∷ 0 ∷ 0 ∷ 0 ∷ []) out
      ≡ output (row 0 (10 ∷ 0x12 ∷ 1 ∷ 15 ∷ []))
      (0xFF ∷ 0xFF ∷ 0x00 ∷ 0x06 ∷ 0x12 ∷ 0x09 ∷ 0x00 ∷ 0x00 ∷ 0x01 ∷ 0x22 ∷ drop 10 out)

-- into every buffer with room for ten bytes, under every limit that allows a payload of one byte
abbrev pub WorkedReplies : Type 0
WorkedReplies = (limit : ℕ) → 6 ≤ limit → (v out : List ℕ) → 10 ≤ length out → WorkedReply limit v out

-- ---- worked_rooms: a reply in room that is one byte short of it; under number FF the reply has one more

-- the reply to a heartbeat under a sequence number, into so many bytes
abbrev pub heartbeat : ℕ → ℕ → Output
heartbeat number room = reply_of 1024 (row 1 []) (0 ∷ 5 ∷ 0x07 ∷ number ∷ 0 ∷ 0 ∷ []) (replicate room 7)

-- the same with a wrong sum
abbrev pub wrong_sum : ℕ → ℕ → Output
wrong_sum number room = reply_of 1024 (row 15 []) (0 ∷ 5 ∷ 0x07 ∷ number ∷ 0 ∷ 0 ∷ 0 ∷ []) (replicate room 7)

-- an acknowledgement and a rejection, and no room at all
pub record WorkedRooms : Type 0 where
  pub acknowledged : heartbeat 9 8 ≡ output (row 22 (9 ∷ [])) (replicate 8 7)
  pub acknowledged_ff : heartbeat 255 9 ≡ output (row 22 (10 ∷ [])) (replicate 9 7)
  pub rejected : wrong_sum 9 9 ≡ output (row 22 (10 ∷ [])) (replicate 9 7)
  pub rejected_ff : wrong_sum 255 10 ≡ output (row 22 (11 ∷ [])) (replicate 10 7)
  pub nothing_lent : wrong_sum 255 0 ≡ output (row 22 (11 ∷ [])) []

-- ---- replies_tabled: literal replies, under sequence number 9, into twelve bytes that were 7

-- no reply
abbrev pub silence : Output
silence = output (row 0 []) (replicate 12 7)

-- no reply; the caller is asked to send this command
abbrev pub wants : ℕ → Output
wants command = output (row 0 (0 ∷ command ∷ 9 ∷ [])) (replicate 12 7)

-- this command, without payload
abbrev pub acknowledges : ℕ → Output
acknowledges command =
    output (row 0 (9 ∷ []))
    (0xFF ∷ 0xFF ∷ 0 ∷ 5 ∷ command ∷ 9 ∷ 0 ∷ 0 ∷ (5 + command + 9) ∷ 7 ∷ 7 ∷ 7 ∷ [])

-- 12 with a code, and the cause
abbrev pub rejects : ℕ → ℕ → Output
rejects code cause =
    output (row 0 (10 ∷ 0x12 ∷ code ∷ cause ∷ []))
    (0xFF ∷ 0xFF ∷ 0 ∷ 6 ∷ 0x12 ∷ 9 ∷ 0 ∷ 0 ∷ code ∷ (6 + 0x12 + 9 + code) ∷ 7 ∷ 7 ∷ [])

-- a command that is not listed
abbrev pub bad_command : Output
bad_command = rejects 2 31

-- a command that only the box sends
abbrev pub box_only : Output
box_only = rejects 2 0

-- a wrong size
abbrev pub bad_size : Output
bad_size = rejects 3 32

-- a value that is not allowed
abbrev pub bad_field : Output
bad_field = rejects 3 33

-- the reply to a frame
abbrev pub reply_to : ℕ → List ℕ → Output
reply_to command p = reply_frame_of 1024 command 9 p (replicate 12 7)

-- a command, a payload, and the expected reply
pub record ReplyCase : Type 0 where
  pub command : ℕ
  pub payload : List ℕ
  pub expected : Output

-- a case from its three values
abbrev pub gets : ℕ → List ℕ → Output → ReplyCase
gets command payload expected = record { command = command; payload = payload; expected = expected }

-- every command that has a payload, and 1F: without fault, then with a wrong size or value
abbrev pub reply_cases : List ReplyCase
reply_cases =
    gets 0x02 (replicate 66 0) box_only ∷ gets 0x02 (replicate 67 0) box_only
    ∷ gets 0x03 (1 ∷ 0 ∷ 0 ∷ 0 ∷ 0 ∷ []) (acknowledges 0x04) ∷ gets 0x03 (2 ∷ []) (wants 0x04)
    ∷ gets 0x03 (1 ∷ 0 ∷ 0 ∷ 0 ∷ []) bad_size ∷ gets 0x03 (2 ∷ 0 ∷ []) bad_size
    ∷ gets 0x03 (1 ∷ 2 ∷ 6 ∷ 0 ∷ 0 ∷ []) bad_field ∷ gets 0x03 (1 ∷ 8 ∷ 0 ∷ 0 ∷ 0 ∷ []) bad_field
    ∷ gets 0x03 (3 ∷ []) bad_field
    ∷ gets 0x04 (3 ∷ replicate 8 0) box_only ∷ gets 0x04 (3 ∷ replicate 7 0) box_only
    ∷ gets 0x04 (2 ∷ replicate 8 0) box_only
    ∷ gets 0x05 (4 ∷ replicate 8 0) box_only ∷ gets 0x05 (4 ∷ replicate 7 0) box_only
    ∷ gets 0x05 (2 ∷ replicate 8 0) box_only
    ∷ gets 0x09 (1 ∷ []) box_only ∷ gets 0x09 (3 ∷ []) box_only
    ∷ gets 0x0D (0 ∷ 0 ∷ []) (acknowledges 0x0E) ∷ gets 0x0D (0 ∷ 0 ∷ 0 ∷ []) bad_size
    ∷ gets 0x11 (4 ∷ []) silence ∷ gets 0x11 (5 ∷ []) bad_field ∷ gets 0x11 (4 ∷ 4 ∷ []) bad_size
    ∷ gets 0x12 (4 ∷ []) box_only ∷ gets 0x12 (5 ∷ []) box_only
    ∷ gets 0x18 (replicate 7 0) silence ∷ gets 0x18 (replicate 11 0) silence ∷ gets 0x18 (replicate 9 0) bad_size
    ∷ gets 0x19 (replicate 6 0) (wants 0x1A) ∷ gets 0x19 (replicate 7 0) (wants 0x1A)
    ∷ gets 0x19 (0 ∷ 0 ∷ 0 ∷ 0 ∷ 0 ∷ 1 ∷ []) (wants 0x1A)
    ∷ gets 0x1B (replicate 4 0) box_only ∷ gets 0x1B (replicate 5 0) box_only
    ∷ gets 0x1D (replicate 4 0) (wants 0x1E) ∷ gets 0x1D (replicate 3 0) (wants 0x1E)
    ∷ gets 0x1F [] (wants 0x20) ∷ gets 0x1F (0 ∷ []) (wants 0x20)
    ∷ []

-- every command byte with no payload, with one byte 0, and with a wrong sum, eight a line; none from 30 on is listed
pub record RepliesTabled : Type 0 where
  pub no_byte :
      map (λ c. reply_to c []) command_bytes
      ≡ bad_command ∷ wants 2 ∷ box_only ∷ bad_size ∷ box_only ∷ box_only ∷ silence ∷ acknowledges 8
      ∷ box_only ∷ box_only ∷ silence ∷ box_only ∷ silence ∷ bad_size ∷ box_only ∷ acknowledges 0x10
      ∷ box_only ∷ bad_size ∷ box_only ∷ box_only ∷ silence ∷ box_only ∷ silence ∷ box_only
      ∷ bad_size ∷ wants 0x1A ∷ box_only ∷ box_only ∷ silence ∷ wants 0x1E ∷ box_only ∷ wants 0x20
      ∷ box_only ∷ bad_command ∷ bad_command ∷ bad_command ∷ bad_command ∷ bad_command ∷ bad_command ∷ box_only
      ∷ silence ∷ box_only ∷ silence ∷ bad_command ∷ bad_command ∷ bad_command ∷ bad_command ∷ bad_command
      ∷ replicate 208 bad_command
  pub one_byte :
      map (λ c. reply_to c (0 ∷ [])) command_bytes
      ≡ bad_command ∷ bad_size ∷ box_only ∷ bad_field ∷ box_only ∷ box_only ∷ bad_size ∷ bad_size
      ∷ box_only ∷ box_only ∷ bad_size ∷ box_only ∷ bad_size ∷ bad_size ∷ box_only ∷ bad_size
      ∷ box_only ∷ bad_field ∷ box_only ∷ box_only ∷ bad_size ∷ box_only ∷ bad_size ∷ box_only
      ∷ bad_size ∷ wants 0x1A ∷ box_only ∷ box_only ∷ bad_size ∷ wants 0x1E ∷ box_only ∷ wants 0x20
      ∷ box_only ∷ bad_command ∷ bad_command ∷ bad_command ∷ bad_command ∷ bad_command ∷ bad_command ∷ box_only
      ∷ bad_size ∷ box_only ∷ bad_size ∷ bad_command ∷ bad_command ∷ bad_command ∷ bad_command ∷ bad_command
      ∷ replicate 208 bad_command
  pub wrong_sum_lem :
      map (λ c. reply_of 1024 (row 15 []) (0 ∷ 5 ∷ c ∷ 9 ∷ 0 ∷ 0 ∷ 0 ∷ []) (replicate 12 7)) command_bytes
      ≡ replicate 256 (rejects 1 15)
  pub payloads :
      map (λ (c : ReplyCase). reply_to c.command c.payload) reply_cases
      ≡ map (λ (c : ReplyCase). c.expected) reply_cases
