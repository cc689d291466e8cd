-- Claims: what is read and written again is the same bytes, but for what reading ignores. PROTOCOL 7.22.
use Rattle.std.specs.Prelude.{ℕ, ◌+◌, ◌*◌, ◌/◌, ◌%◌, ◌<◌, ◌≡◌, List, [], ◌∷◌, ◌≢◌, length, get_or}
use Rattle.base.specs.Rows.{row}
use Rattle.message.specs.Messages.{message_in, payload_in}
use Rattle.message.specs.Reading.{read_of}
use Rattle.message.specs.ReadWritten.{opaque_of}
use Rattle.message.specs.declared.values.Message.{Message}

-- ---- same_bytes: the payload of every message that reading gives

-- as many bytes; the same bytes for every command but 0D and a control. In these two what reading ignores is 0: the
-- reserved bits, and each value without its flag
pub record Again (command : ℕ) (p : List ℕ) (m : Message) : Type 0 where
  pub size : length (payload_in m (opaque_of command p)) ≡ length p
  pub same : command ≢ 0x0D → (command ≡ 0x03 → get_or p 0 0 ≢ 1) → payload_in m (opaque_of command p) ≡ p
  pub network : command ≡ 0x0D → payload_in m (opaque_of command p) ≡ get_or p 0 0 % 32 ∷ get_or p 1 0 % 64 ∷ []
  pub control :
      command ≡ 0x03 → get_or p 0 0 ≡ 1
      → payload_in m (opaque_of command p)
      ≡ 1 ∷ get_or p 1 0
      ∷ ((get_or p 1 0 % 2) * (get_or p 2 0 % 2) + (get_or p 1 0 / 2 % 2) * (get_or p 2 0 / 2) * 2)
      ∷ (get_or p 1 0 / 4) * get_or p 3 0 ∷ (get_or p 1 0 / 4) * get_or p 4 0 ∷ []

-- of every command and every payload of bytes
abbrev pub SameBytes : Type 0
SameBytes =
    (command : ℕ) (p : List ℕ) → ((i : ℕ) → get_or p i 0 < 256) → (m : Message) → read_of command p
    ≡ row 0 (message_in m)
    → Again command p m
