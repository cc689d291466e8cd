-- Claims: what is read may be written again and is then read as the same message. PROTOCOL 7.22, 7.26.
use Rattle.std.specs.Prelude.{ℕ, ◌<◌, ◌≡◌, cond, List, [], ◌++◌, get_or, take, drop, eqb}
use Rattle.base.specs.Rows.{row}
use Rattle.base.specs.Numbers.{two_at}
use Rattle.message.specs.Parts.{bytes_in}
use Rattle.message.specs.Messages.{command_in, message_in, payload_in}
use Rattle.message.specs.Reading.{read_of, parts_of}
use Rattle.message.specs.WrittenRead.{Writable}
use Rattle.message.specs.declared.values.Message.{Message}

-- ---- read_written: COMMAND, SIZE and FIELD do not refuse a message that was read; with written_read, both directions
-- allow the same values

-- the bytes of a payload that are the caller's data when its message is written
abbrev pub opaque_of : ℕ → List ℕ → List ℕ
opaque_of command p =
    cond (eqb command 0x02) (take 64 p ++ drop 74 p)
    (cond (eqb command 0x19) (drop 6 p)
    (cond (eqb command 0x1B) (take (two_at p 0) (drop 2 p))
    (cond (eqb command 0x1D) (drop 4 p) [])))

-- a message that reading gives: it may be written, and what is written is read as the same message, with the same parts
pub record ReadWritten (command : ℕ) (p : List ℕ) (m : Message) : Type 0 where
  pub command_is : command_in m ≡ command
  pub writable : Writable m (opaque_of command p)
  pub message : read_of command (payload_in m (opaque_of command p)) ≡ read_of command p
  pub parts :
      bytes_in (parts_of command (payload_in m (opaque_of command p))) (payload_in m (opaque_of command p))
      ≡ bytes_in (parts_of command p) p

-- of every command and every payload of bytes
abbrev pub ReadsWritten : Type 0
ReadsWritten =
    (command : ℕ) (p : List ℕ) → ((i : ℕ) → get_or p i 0 < 256) → (m : Message) → read_of command p
    ≡ row 0 (message_in m)
    → ReadWritten command p m
