-- Claims: what may be written is read as the same message, with the same parts. PROTOCOL 7.26.
use Rattle.std.specs.Prelude.{ℕ, ◌≡◌, true, cond, ◌||◌, List, [], ◌∷◌, length, take, drop, eqb}
use Rattle.base.specs.Rows.{row}
use Rattle.message.specs.Parts.{bytes_in}
use Rattle.message.specs.Commands.{kind_of}
use Rattle.message.specs.Layouts.{is_listed}
use Rattle.message.specs.Messages.{command_in, read_in, opaque_fits, allowed_in, payload_in}
use Rattle.message.specs.Reading.{read_of, parts_of}
use Rattle.message.specs.declared.values.Message.{Message}

-- ---- written_read: the payload of a message is read as that message

-- a message may be written with this data of the caller: none of COMMAND, SIZE, FIELD
pub record Writable (m : Message) (opaque : List ℕ) : Type 0 where
  pub listed : is_listed (kind_of (command_in m)) ≡ true
  pub sized : opaque_fits m (length opaque) ≡ true
  pub allows : allowed_in m ≡ true

-- the parts of the caller's data that a reader of the message finds
abbrev pub opaque_parts : ℕ → List ℕ → List (List ℕ)
opaque_parts command opaque =
    cond (eqb command 0x02)
    (take 8 opaque ∷ take 8 (drop 8 opaque) ∷ take 8 (drop 16 opaque) ∷ take 8 (drop 24 opaque)
    ∷ take 32 (drop 32 opaque) ∷ drop 64 opaque ∷ [] ∷ [] ∷ [])
    ([] ∷ [] ∷ [] ∷ [] ∷ [] ∷ [] ∷ cond (eqb command 0x19 || eqb command 0x1B) opaque []
    ∷ cond (eqb command 0x1D) opaque [] ∷ [])

-- a command and a payload are this message, with these parts
pub record Decodes (m : Message) (opaque : List ℕ) (command : ℕ) (p : List ℕ) : Type 0 where
  pub message : read_of command p ≡ row 0 (read_in m)
  pub parts : bytes_in (parts_of command p) p ≡ opaque_parts (command_in m) opaque

-- of every message
abbrev pub WrittenRead : Type 0
WrittenRead =
    (m : Message) (opaque : List ℕ) → Writable m opaque → Decodes m opaque (command_in m) (payload_in m opaque)
