-- Claims: the messages that a writing call refuses, in literal numbers. PROTOCOL 7.23 to 7.25.
use Rattle.std.specs.Prelude.{ℕ, ◌≡◌, true, false, None, Some, cond, List, [], ◌∷◌, ◌++◌, map, length, replicate}
use Rattle.base.specs.Rows.{row}
use Rattle.base.specs.Outcomes.{output}
use Rattle.message.specs.Messages.{opaque_fits, allowed_in}
use Rattle.message.specs.Writing.{send_of}
use Rattle.message.specs.ReadingSizes.{numbers_from, command_bytes, without_payload}
use Rattle.message.specs.WritingWorked.{status_with, control_with, network_with, time_with}
use Rattle.message.specs.declared.counter.Mode.TheVariants as mode
use Rattle.message.specs.declared.values.Code.TheVariants as code
use Rattle.message.specs.declared.values.Extra.TheVariants as extra
use Rattle.message.specs.declared.values.Message.{Message}
use Rattle.message.specs.declared.values.Message.TheVariants as message
use Rattle.message.specs.declared.values.Way.TheVariants as way

-- ---- worked_refusals: sizes of the caller's data, values, and the order of refusals

-- of some sizes of the caller's data, those that a message takes
unfoldable pub opaque_sizes : Message → List ℕ → List ℕ
opaque_sizes m [] = []
opaque_sizes m (n ∷ ns) = cond (opaque_fits m n) (n ∷ opaque_sizes m ns) (opaque_sizes m ns)

-- one of each message that takes none
abbrev pub bare_messages : List Message
bare_messages =
    message.Empty 0x07
    ∷ message.Control (control_with true true true true mode.Sew)
    ∷ message.Query
    ∷ message.Status (status_with true true mode.Sew true true true)
    ∷ message.Report (status_with true true mode.Sew true true true)
    ∷ message.Onboarding way.AirLink
    ∷ network_with true true true true true true 7 true true
    ∷ message.ModuleReject code.Other
    ∷ message.BoxReject code.Other
    ∷ time_with None
    ∷ time_with (Some 1)
    ∷ []

-- a strength, which has three bits
abbrev pub with_strength : ℕ → Message
with_strength n = network_with false false false false false false n false false

-- a report without an FF
abbrev pub a_report : Message
a_report = message.Report (status_with true true mode.Sew true true true)

-- the number of the answer, with so many bytes of the caller's data and so much room
abbrev pub sent_number : Message → ℕ → ℕ → ℕ
sent_number m opaque room = (send_of 1024 m 9 0 (replicate opaque 7) (replicate room 7)).row.number

-- 64 bytes, and 96 with a secret; a check code whose size two bytes can name; any data of a piece; none of the others
pub record WorkedRefusals : Type 0 where
  pub information : opaque_sizes (message.Information 1 extra.Absent) (numbers_from 0 120) ≡ 64 ∷ []
  pub attributes : opaque_sizes (message.Information 1 (extra.Attributes 1)) (numbers_from 0 120) ≡ 64 ∷ []
  pub secret : opaque_sizes (message.Information 1 (extra.AttributesAndSecret 1)) (numbers_from 0 120) ≡ 96 ∷ []
  pub announcement : opaque_sizes (message.Announcement 1) (0 ∷ 1 ∷ 65535 ∷ 65536 ∷ 65537 ∷ []) ≡ 0 ∷ 1 ∷ 65535 ∷ []
  pub ready : opaque_sizes (message.Ready 1) (0 ∷ 1 ∷ 65535 ∷ 65536 ∷ 65537 ∷ []) ≡ 0 ∷ 1 ∷ 65535 ∷ []
  pub piece : opaque_sizes (message.Piece 1 2) (0 ∷ 1 ∷ 65536 ∷ []) ≡ 0 ∷ 1 ∷ 65536 ∷ []
  pub bare : map (λ m. opaque_sizes m (numbers_from 0 12)) bare_messages ≡ replicate 11 (0 ∷ [])
  -- a message without payload, for every command byte: 31 or 32 as in reading
  pub empty : map (λ c. sent_number (message.Empty c) 0 12) command_bytes ≡ without_payload
  -- only a strength can be FIELD
  pub fields : map allowed_in bare_messages ≡ replicate 11 true
  pub strength : map (λ n. allowed_in (with_strength n)) (numbers_from 0 10) ≡ replicate 8 true ++ false ∷ false ∷ []
  -- the order, where several refusals are possible; `refused_exactly` and `send_exactly` have all of it
  pub unlisted_first : sent_number (message.Empty 0x21) 1 0 ≡ 31
  pub size_before_field : sent_number (with_strength 8) 1 0 ≡ 32
  pub field_before_room : sent_number (with_strength 8) 0 0 ≡ 33
  pub room_last : send_of 1024 (with_strength 7) 9 0 [] [] ≡ output (row 22 (11 ∷ [])) []
  -- ROOM one byte short of a report, and of one under number FF, which is stuffed
  pub report_short : send_of 1024 a_report 9 0 [] (replicate 17 7) ≡ output (row 22 (18 ∷ [])) (replicate 17 7)
  pub report_stuffed : send_of 1024 a_report 255 0 [] (replicate 18 7) ≡ output (row 22 (19 ∷ [])) (replicate 18 7)
  -- more data than the message takes and than the limit allows: SIZE, not PAYLOAD or ROOM
  pub too_many_texts :
      (opaque : List ℕ) → length opaque ≡ 1100
      → send_of 1024 (message.Information 1 extra.Absent) 9 0 opaque [] ≡ output (row 32 []) []
  pub too_long_code :
      (opaque : List ℕ) → length opaque ≡ 65536
      → send_of 1024 (message.Announcement 1) 9 0 opaque [] ≡ output (row 32 []) []
