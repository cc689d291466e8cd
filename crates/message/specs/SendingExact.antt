-- Claims: a call that writes a message: its answer and the caller's buffer, for every message.
-- PROTOCOL 6.12, 7.22 to 7.25.
use Rattle.std.specs.Prelude.{ℕ, ◌+◌, ◌<◌, ◌≤◌, ◌≡◌, Bool, true, false, ◌||◌, List, [], ◌∷◌, ◌++◌, length, drop, eqb}
use Rattle.std.specs.Prelude.{ltb, leb}
use Rattle.base.specs.Rows.{row}
use Rattle.base.specs.Outcomes.{output}
use Rattle.base.specs.Asking.{AsksOnce}
use Rattle.base.specs.Keys.{among}
use Rattle.frame.specs.Wire.{wire, body_of}
use Rattle.message.specs.Commands.{kind_of}
use Rattle.message.specs.Layouts.{is_listed}
use Rattle.message.specs.Messages.{command_in, opaque_fits, allowed_in, payload_in}
use Rattle.message.specs.Writing.{send_of}
use Rattle.message.specs.CommandLists.{empty_commands, other_commands}
use Rattle.message.specs.WrittenRead.{Writable}
use Rattle.message.specs.declared.counter.Control.{Control}
use Rattle.message.specs.declared.counter.Status.{Status}
use Rattle.message.specs.declared.values.Code.{Code}
use Rattle.message.specs.declared.values.Extra.TheVariants as extra
use Rattle.message.specs.declared.values.Message.{Message}
use Rattle.message.specs.declared.values.Message.TheVariants as message
use Rattle.message.specs.declared.values.Network.{Network}
use Rattle.message.specs.declared.values.Time.{Time}
use Rattle.message.specs.declared.values.Way.{Way}

-- ---- send_exactly: a message that COMMAND, SIZE and FIELD do not refuse is the frame writer's: PAYLOAD, then ROOM,
-- which says its size, then the frame at the front of the buffer, whose rest stays

-- a message's frame on the wire
abbrev pub message_wire : Message → ℕ → ℕ → List ℕ → List ℕ
message_wire m number flags opaque = wire (body_of (command_in m) number flags (payload_in m opaque))

-- under a sequence number and flags, with the caller's data, into a buffer
pub record SendExactly (limit : ℕ) (m : Message) (number flags : ℕ) (opaque out : List ℕ) : Type 0 where
  pub payload :
      limit < length (payload_in m opaque) + 5 → send_of limit m number flags opaque out ≡ output (row 21 (0 ∷ [])) out
  pub room :
      length (payload_in m opaque) + 5 ≤ limit → length out < length (message_wire m number flags opaque)
      → send_of limit m number flags opaque out
      ≡ output (row 22 (length (message_wire m number flags opaque) ∷ [])) out
  pub written :
      length (payload_in m opaque) + 5 ≤ limit → length (message_wire m number flags opaque) ≤ length out
      → send_of limit m number flags opaque out
      ≡ output (row 0 (length (message_wire m number flags opaque) ∷ []))
      (message_wire m number flags opaque ++ drop (length (message_wire m number flags opaque)) out)

-- of every message that may be written
abbrev pub SendsExactly : Type 0
SendsExactly =
    (limit : ℕ) (m : Message) (number flags : ℕ) (opaque out : List ℕ) → Writable m opaque
    → SendExactly limit m number flags opaque out

-- ---- send_asked: what met ROOM once is written into every buffer of the size that it said
abbrev pub SendAsked : Type 0
SendAsked =
    (limit : ℕ) (m : Message) (number flags : ℕ) (opaque : List ℕ)
    → AsksOnce (λ out. (send_of limit m number flags opaque out).row)

-- ---- refused_exactly: COMMAND before SIZE, SIZE before FIELD, and these before PAYLOAD and ROOM, whatever the limit,
-- the payload and the room are; nothing is written then
pub record RefusedExactly (limit : ℕ) (m : Message) (number flags : ℕ) (opaque out : List ℕ) : Type 0 where
  pub unlisted :
      is_listed (kind_of (command_in m)) ≡ false → send_of limit m number flags opaque out ≡ output (row 31 []) out
  pub size :
      is_listed (kind_of (command_in m)) ≡ true → opaque_fits m (length opaque) ≡ false
      → send_of limit m number flags opaque out ≡ output (row 32 []) out
  pub field :
      is_listed (kind_of (command_in m)) ≡ true → opaque_fits m (length opaque) ≡ true → allowed_in m ≡ false
      → send_of limit m number flags opaque out ≡ output (row 33 []) out

-- of every message; `OpaqueExactly` has the tests in literal numbers
abbrev pub RefusesExactly : Type 0
RefusesExactly =
    (limit : ℕ) (m : Message) (number flags : ℕ) (opaque out : List ℕ)
    → RefusedExactly limit m number flags opaque out

-- ---- opaque_exactly: the three tests in literal numbers: which commands are listed, how much of the caller's data
-- each message takes, and that only a strength from 8 on is FIELD

-- a message of a listed command, the sizes of the caller's data, and whether its values may be written
pub record TakesOpaque (m : Message) (command : ℕ) (takes : ℕ → Bool) (allows : Bool) : Type 0 where
  pub command_is : command_in m ≡ command
  pub listed : is_listed (kind_of command) ≡ true
  pub opaque : (n : ℕ) → opaque_fits m n ≡ takes n
  pub values : allowed_in m ≡ allows

-- exactly this size
abbrev pub just : ℕ → ℕ → Bool
just count n = eqb n count

-- a message without payload takes no data where its command has no payload or is 04; all others are SIZE
pub record EmptyOpaque (command : ℕ) : Type 0 where
  pub command_is : command_in (message.Empty command) ≡ command
  pub values : allowed_in (message.Empty command) ≡ true
  pub listed :
      is_listed (kind_of command) ≡ (among command empty_commands || among command other_commands)
  pub empty : among command (0x04 ∷ empty_commands) ≡ true → (n : ℕ) → opaque_fits (message.Empty command) n ≡ just 0 n
  pub others : among command (0x04 ∷ empty_commands) ≡ false → (n : ℕ) → opaque_fits (message.Empty command) n ≡ false

-- every message
pub record OpaqueExactly : Type 0 where
  pub empty : (command : ℕ) → EmptyOpaque command
  pub information : (t : ℕ) → TakesOpaque (message.Information t extra.Absent) 0x02 (just 64) true
  pub attributes : (t a : ℕ) → TakesOpaque (message.Information t (extra.Attributes a)) 0x02 (just 64) true
  pub secret : (t a : ℕ) → TakesOpaque (message.Information t (extra.AttributesAndSecret a)) 0x02 (just 96) true
  pub control : (c : Control) → TakesOpaque (message.Control c) 0x03 (just 0) true
  pub query : TakesOpaque message.Query 0x03 (just 0) true
  pub status : (s : Status) → TakesOpaque (message.Status s) 0x04 (just 0) true
  pub report : (s : Status) → TakesOpaque (message.Report s) 0x05 (just 0) true
  pub onboarding : (w : Way) → TakesOpaque (message.Onboarding w) 0x09 (just 0) true
  pub network : (n : Network) → TakesOpaque (message.Network n) 0x0D (just 0) (ltb n.strength 8)
  pub module_reject : (c : Code) → TakesOpaque (message.ModuleReject c) 0x11 (just 0) true
  pub box_reject : (c : Code) → TakesOpaque (message.BoxReject c) 0x12 (just 0) true
  pub time : (t : Time) → TakesOpaque (message.Time t) 0x18 (just 0) true
  pub announcement : (size : ℕ) → TakesOpaque (message.Announcement size) 0x19 (λ n. leb n 65535) true
  pub ready : (piece : ℕ) → TakesOpaque (message.Ready piece) 0x1B (λ n. leb n 65535) true
  pub piece : (index total : ℕ) → TakesOpaque (message.Piece index total) 0x1D (λ n. true) true
