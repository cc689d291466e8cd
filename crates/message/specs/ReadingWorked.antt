-- Claims: literal payloads with the row that reading gives. With one bit set at a time, and with all bytes of a number
-- different, a field at another place or in another order gives another row. PROTOCOL 7.10 to 7.21.
use Rattle.std.specs.Prelude.{ℕ, ◌≡◌, true, false, None, List, [], ◌∷◌, ◌++◌, map, replicate}
use Rattle.base.specs.Rows.{Row, row}
use Rattle.message.specs.Numbers.{eight_at, eight}
use Rattle.message.specs.Messages.{message_in}
use Rattle.message.specs.Reading.{read_of}
use Rattle.message.specs.CommandLists.{empty_commands}
use Rattle.message.specs.declared.counter.Mode.TheVariants as mode
use Rattle.message.specs.declared.values.Extra.TheVariants as extra
use Rattle.message.specs.declared.values.Message.TheVariants as message

-- ---- worked_payloads: literal bytes and the message that they are, by its names
pub record WorkedPayloads : Type 0 where
  pub time :
      read_of 0x18 (0x07 ∷ 0xEA ∷ 11 ∷ 16 ∷ 6 ∷ 34 ∷ 58 ∷ [])
      ≡ row 0 (message_in (message.Time (record {
        year = 2026;
        month = 11;
        day = 16;
        hour = 6;
        minute = 34;
        second = 58;
        unix = None;
      })))
  pub piece : read_of 0x1D (0 ∷ 1 ∷ 0 ∷ 2 ∷ 0xAA ∷ []) ≡ row 0 (message_in (message.Piece 1 2))
  pub status :
      read_of 0x04 (3 ∷ 5 ∷ 0 ∷ 3 ∷ 0 ∷ 0 ∷ 0 ∷ 255 ∷ 0 ∷ [])
      ≡ row 0 (message_in (message.Status (record {
        feeding = true;
        lamp = false;
        mode = mode.Gather;
        volume = 3;
        leaf = 255;
        double = false;
        skipped = false;
        fault = false;
      })))
  pub query : read_of 0x03 (2 ∷ []) ≡ row 0 (message_in message.Query)
  pub control :
      read_of 0x03 (1 ∷ 7 ∷ 3 ∷ 0 ∷ 3 ∷ [])
      ≡ row 0 (message_in (message.Control (record {
        flags = record { lamp = true; mode = true; volume = true };
        lamp = true;
        mode = mode.Gather;
        volume = 3;
      })))
  pub information :
      read_of 0x02 (replicate 64 0 ++ 0 ∷ 30 ∷ 0 ∷ 0 ∷ 0 ∷ 0 ∷ 0 ∷ 0 ∷ 0 ∷ 1 ∷ [])
      ≡ row 0 (message_in (message.Information 30 (extra.Attributes 1)))
  pub eight_read : eight_at (1 ∷ 2 ∷ 3 ∷ 4 ∷ 5 ∷ 6 ∷ 7 ∷ 8 ∷ []) 0 ≡ 72623859790382856
  pub eight_written : eight 72623859790382856 [] ≡ 1 ∷ 2 ∷ 3 ∷ 4 ∷ 5 ∷ 6 ∷ 7 ∷ 8 ∷ []

-- ---- the cases: a payload and its row, in numbers

-- a command, a payload, and the expected row
pub record ReadCase : Type 0 where
  pub command : ℕ
  pub payload : List ℕ
  pub expected : Row

-- a message that is read: the command, then its values
abbrev pub reads : ℕ → List ℕ → List ℕ → ReadCase
reads command payload values = record { command = command; payload = payload; expected = row 0 (command ∷ values) }

-- a payload that is refused
abbrev pub refuses : ℕ → ℕ → List ℕ → ReadCase
refuses number command payload = record { command = command; payload = payload; expected = row number [] }

-- reading gives the expected row, case by case
abbrev pub AsExpected : List ReadCase → Type 0
AsExpected cases =
    map (λ (c : ReadCase). read_of c.command c.payload) cases ≡ map (λ (c : ReadCase). c.expected) cases

-- ---- the counter: one bit set, or one that must be zero; mode 3; then every byte of a number different

-- a status after the payload's first byte, under its command
module _ (command action : ℕ) where
  -- by its first and its last byte
  abbrev pub status_payload : ℕ → ℕ → List ℕ
  status_payload first last = action ∷ first ∷ 0 ∷ 0 ∷ 0 ∷ 0 ∷ 0 ∷ 0 ∷ last ∷ []

  -- the values that they give
  abbrev pub status : ℕ → ℕ → List ℕ → ReadCase
  status first last values = reads command (status_payload first last) (action ∷ values)

  -- FIELD
  abbrev pub no_status : ℕ → ℕ → ReadCase
  no_status first last = refuses 33 command (status_payload first last)

  -- feeding, lamp, mode, volume, leaf, double, skipped, fault
  abbrev pub status_cases : List ReadCase
  status_cases =
      status 0 0 (0 ∷ 0 ∷ 0 ∷ 0 ∷ 0 ∷ 0 ∷ 0 ∷ 0 ∷ [])
      ∷ status 1 0 (1 ∷ 0 ∷ 0 ∷ 0 ∷ 0 ∷ 0 ∷ 0 ∷ 0 ∷ [])
      ∷ status 2 0 (0 ∷ 1 ∷ 0 ∷ 0 ∷ 0 ∷ 0 ∷ 0 ∷ 0 ∷ [])
      ∷ status 4 0 (0 ∷ 0 ∷ 1 ∷ 0 ∷ 0 ∷ 0 ∷ 0 ∷ 0 ∷ [])
      ∷ status 8 0 (0 ∷ 0 ∷ 2 ∷ 0 ∷ 0 ∷ 0 ∷ 0 ∷ 0 ∷ [])
      ∷ status 0 1 (0 ∷ 0 ∷ 0 ∷ 0 ∷ 0 ∷ 1 ∷ 0 ∷ 0 ∷ [])
      ∷ status 0 2 (0 ∷ 0 ∷ 0 ∷ 0 ∷ 0 ∷ 0 ∷ 1 ∷ 0 ∷ [])
      ∷ status 0 4 (0 ∷ 0 ∷ 0 ∷ 0 ∷ 0 ∷ 0 ∷ 0 ∷ 1 ∷ [])
      ∷ no_status 12 0 ∷ no_status 15 7
      ∷ no_status 16 0 ∷ no_status 32 0 ∷ no_status 64 0 ∷ no_status 128 0
      ∷ no_status 0 8 ∷ no_status 0 16 ∷ no_status 0 32 ∷ no_status 0 64 ∷ no_status 0 128
      ∷ reads command (action ∷ 9 ∷ 0x12 ∷ 0x34 ∷ 0x56 ∷ 0x78 ∷ 0x9A ∷ 0xBC ∷ 5 ∷ [])
      (action ∷ 1 ∷ 0 ∷ 2 ∷ 4660 ∷ 1450744508 ∷ 1 ∷ 0 ∷ 1 ∷ [])
      ∷ []

-- flags and values of a control, before a volume of 4,660
abbrev pub control_payload : ℕ → ℕ → List ℕ
control_payload flags values = 1 ∷ flags ∷ values ∷ 0x12 ∷ 0x34 ∷ []

-- the values that they give
abbrev pub control : ℕ → ℕ → List ℕ → ReadCase
control flags values found = reads 0x03 (control_payload flags values) (1 ∷ found)

-- FIELD
abbrev pub no_control : ℕ → ℕ → ReadCase
no_control flags values = refuses 33 0x03 (control_payload flags values)

-- the flags of lamp, mode and volume, then the three values; without its flag a value is 0, and mode 3 is not refused
abbrev pub control_cases : List ReadCase
control_cases =
    control 0 0 (0 ∷ 0 ∷ 0 ∷ 0 ∷ 0 ∷ 0 ∷ [])
    ∷ control 1 0 (1 ∷ 0 ∷ 0 ∷ 0 ∷ 0 ∷ 0 ∷ [])
    ∷ control 2 0 (0 ∷ 1 ∷ 0 ∷ 0 ∷ 0 ∷ 0 ∷ [])
    ∷ control 4 0 (0 ∷ 0 ∷ 1 ∷ 0 ∷ 0 ∷ 4660 ∷ [])
    ∷ control 7 1 (1 ∷ 1 ∷ 1 ∷ 1 ∷ 0 ∷ 4660 ∷ [])
    ∷ control 7 2 (1 ∷ 1 ∷ 1 ∷ 0 ∷ 1 ∷ 4660 ∷ [])
    ∷ control 7 4 (1 ∷ 1 ∷ 1 ∷ 0 ∷ 2 ∷ 4660 ∷ [])
    ∷ control 6 1 (0 ∷ 1 ∷ 1 ∷ 0 ∷ 0 ∷ 4660 ∷ [])
    ∷ control 5 3 (1 ∷ 0 ∷ 1 ∷ 1 ∷ 0 ∷ 4660 ∷ [])
    ∷ control 5 7 (1 ∷ 0 ∷ 1 ∷ 1 ∷ 0 ∷ 4660 ∷ [])
    ∷ control 0 6 (0 ∷ 0 ∷ 0 ∷ 0 ∷ 0 ∷ 0 ∷ [])
    ∷ no_control 2 6 ∷ no_control 7 7
    ∷ no_control 8 0 ∷ no_control 16 0 ∷ no_control 32 0 ∷ no_control 64 0 ∷ no_control 128 0
    ∷ no_control 0 8 ∷ no_control 0 16 ∷ no_control 0 32 ∷ no_control 0 64 ∷ no_control 0 128
    ∷ []

-- ---- the module's networks: each bit of 0D alone, the reserved ones too

-- the two bytes, the higher first
abbrev pub network : ℕ → ℕ → List ℕ → ReadCase
network high low values = reads 0x0D (high ∷ low ∷ []) values

-- bits 0 to 5, strength, bits 11 and 12
abbrev pub network_cases : List ReadCase
network_cases =
    network 0 1 (1 ∷ 0 ∷ 0 ∷ 0 ∷ 0 ∷ 0 ∷ 0 ∷ 0 ∷ 0 ∷ [])
    ∷ network 0 2 (0 ∷ 1 ∷ 0 ∷ 0 ∷ 0 ∷ 0 ∷ 0 ∷ 0 ∷ 0 ∷ [])
    ∷ network 0 4 (0 ∷ 0 ∷ 1 ∷ 0 ∷ 0 ∷ 0 ∷ 0 ∷ 0 ∷ 0 ∷ [])
    ∷ network 0 8 (0 ∷ 0 ∷ 0 ∷ 1 ∷ 0 ∷ 0 ∷ 0 ∷ 0 ∷ 0 ∷ [])
    ∷ network 0 16 (0 ∷ 0 ∷ 0 ∷ 0 ∷ 1 ∷ 0 ∷ 0 ∷ 0 ∷ 0 ∷ [])
    ∷ network 0 32 (0 ∷ 0 ∷ 0 ∷ 0 ∷ 0 ∷ 1 ∷ 0 ∷ 0 ∷ 0 ∷ [])
    ∷ network 1 0 (0 ∷ 0 ∷ 0 ∷ 0 ∷ 0 ∷ 0 ∷ 1 ∷ 0 ∷ 0 ∷ [])
    ∷ network 2 0 (0 ∷ 0 ∷ 0 ∷ 0 ∷ 0 ∷ 0 ∷ 2 ∷ 0 ∷ 0 ∷ [])
    ∷ network 4 0 (0 ∷ 0 ∷ 0 ∷ 0 ∷ 0 ∷ 0 ∷ 4 ∷ 0 ∷ 0 ∷ [])
    ∷ network 8 0 (0 ∷ 0 ∷ 0 ∷ 0 ∷ 0 ∷ 0 ∷ 0 ∷ 1 ∷ 0 ∷ [])
    ∷ network 16 0 (0 ∷ 0 ∷ 0 ∷ 0 ∷ 0 ∷ 0 ∷ 0 ∷ 0 ∷ 1 ∷ [])
    ∷ network 0 64 (replicate 9 0) ∷ network 0 128 (replicate 9 0)
    ∷ network 32 0 (replicate 9 0) ∷ network 64 0 (replicate 9 0) ∷ network 128 0 (replicate 9 0)
    ∷ network 0xE0 0xC0 (replicate 9 0)
    ∷ network 0xFF 0xFF (1 ∷ 1 ∷ 1 ∷ 1 ∷ 1 ∷ 1 ∷ 7 ∷ 1 ∷ 1 ∷ [])
    ∷ []

-- ---- numbers of several bytes, all different

-- 64 bytes of texts and key, then the timeout
abbrev pub texts_key_timeout : List ℕ
texts_key_timeout = replicate 64 7 ++ 0x12 ∷ 0x34 ∷ []

-- attributes
abbrev pub attribute_bytes : List ℕ
attribute_bytes = 1 ∷ 2 ∷ 3 ∷ 4 ∷ 5 ∷ 6 ∷ 7 ∷ 8 ∷ []

-- a count of 258 bytes has two bytes that differ
abbrev pub number_cases : List ReadCase
number_cases =
    reads 0x02 texts_key_timeout (66 ∷ 4660 ∷ [])
    ∷ reads 0x02 (texts_key_timeout ++ attribute_bytes) (74 ∷ 4660 ∷ 72623859790382856 ∷ [])
    ∷ reads 0x02 (texts_key_timeout ++ attribute_bytes ++ replicate 32 9) (106 ∷ 4660 ∷ 72623859790382856 ∷ [])
    ∷ reads 0x18 (0x07 ∷ 0xEA ∷ 11 ∷ 16 ∷ 6 ∷ 34 ∷ 58 ∷ []) (2026 ∷ 11 ∷ 16 ∷ 6 ∷ 34 ∷ 58 ∷ [])
    ∷ reads 0x18 (0x07 ∷ 0xEA ∷ 11 ∷ 16 ∷ 6 ∷ 34 ∷ 58 ∷ 0x12 ∷ 0x34 ∷ 0x56 ∷ 0x78 ∷ [])
    (2026 ∷ 11 ∷ 16 ∷ 6 ∷ 34 ∷ 58 ∷ 305419896 ∷ [])
    ∷ reads 0x18 (replicate 7 255) (65535 ∷ 255 ∷ 255 ∷ 255 ∷ 255 ∷ 255 ∷ [])
    ∷ reads 0x19 (0x12 ∷ 0x34 ∷ 0x56 ∷ 0x78 ∷ 0 ∷ 3 ∷ 7 ∷ 8 ∷ 9 ∷ []) (305419896 ∷ [])
    ∷ reads 0x19 (0x12 ∷ 0x34 ∷ 0x56 ∷ 0x78 ∷ 1 ∷ 2 ∷ replicate 258 7) (305419896 ∷ [])
    ∷ refuses 32 0x19 (0x12 ∷ 0x34 ∷ 0x56 ∷ 0x78 ∷ 1 ∷ 2 ∷ replicate 257 7)
    ∷ refuses 32 0x19 (0x12 ∷ 0x34 ∷ 0x56 ∷ 0x78 ∷ 1 ∷ 2 ∷ replicate 259 7)
    ∷ reads 0x1B (0 ∷ 3 ∷ 7 ∷ 8 ∷ 9 ∷ 0x12 ∷ 0x34 ∷ []) (4660 ∷ [])
    ∷ reads 0x1B (1 ∷ 2 ∷ (replicate 258 7 ++ 0x12 ∷ 0x34 ∷ [])) (4660 ∷ [])
    ∷ refuses 32 0x1B (1 ∷ 2 ∷ replicate 259 7)
    ∷ refuses 32 0x1B (1 ∷ 2 ∷ replicate 261 7)
    ∷ reads 0x1D (0x12 ∷ 0x34 ∷ 0x56 ∷ 0x78 ∷ []) (4660 ∷ 22136 ∷ [])
    ∷ reads 0x1D (0x12 ∷ 0x34 ∷ 0x56 ∷ 0x78 ∷ 7 ∷ 8 ∷ 9 ∷ []) (4660 ∷ 22136 ∷ [])
    ∷ []

-- ---- bytes that stand for a name, and first bytes

-- ways, codes, and what 03, 04 and 05 begin with
abbrev pub byte_cases : List ReadCase
byte_cases =
    refuses 33 0x09 (0 ∷ []) ∷ reads 0x09 (1 ∷ []) (1 ∷ []) ∷ reads 0x09 (2 ∷ []) (2 ∷ []) ∷ refuses 33 0x09 (3 ∷ [])
    ∷ refuses 33 0x09 (255 ∷ [])
    ∷ refuses 33 0x11 (0 ∷ []) ∷ reads 0x11 (1 ∷ []) (1 ∷ []) ∷ reads 0x11 (2 ∷ []) (2 ∷ [])
    ∷ reads 0x11 (3 ∷ []) (3 ∷ []) ∷ reads 0x11 (4 ∷ []) (4 ∷ []) ∷ refuses 33 0x11 (5 ∷ [])
    ∷ refuses 33 0x12 (0 ∷ []) ∷ reads 0x12 (1 ∷ []) (1 ∷ []) ∷ reads 0x12 (2 ∷ []) (2 ∷ [])
    ∷ reads 0x12 (3 ∷ []) (3 ∷ []) ∷ reads 0x12 (4 ∷ []) (4 ∷ []) ∷ refuses 33 0x12 (5 ∷ [])
    ∷ reads 0x03 (2 ∷ []) (2 ∷ [])
    ∷ refuses 33 0x03 (0 ∷ []) ∷ refuses 33 0x03 (3 ∷ []) ∷ refuses 33 0x03 (4 ∷ []) ∷ refuses 33 0x03 (255 ∷ [])
    ∷ refuses 33 0x03 (0 ∷ 0 ∷ 0 ∷ 0 ∷ 0 ∷ []) ∷ refuses 33 0x03 (3 ∷ 0 ∷ 0 ∷ 0 ∷ 0 ∷ [])
    ∷ reads 0x04 [] []
    ∷ refuses 33 0x04 (0 ∷ replicate 8 0) ∷ refuses 33 0x04 (1 ∷ replicate 8 0) ∷ refuses 33 0x04 (2 ∷ replicate 8 0)
    ∷ refuses 33 0x04 (4 ∷ replicate 8 0) ∷ refuses 33 0x04 (255 ∷ replicate 8 0)
    ∷ refuses 33 0x05 (0 ∷ replicate 8 0) ∷ refuses 33 0x05 (1 ∷ replicate 8 0) ∷ refuses 33 0x05 (2 ∷ replicate 8 0)
    ∷ refuses 33 0x05 (3 ∷ replicate 8 0) ∷ refuses 33 0x05 (5 ∷ replicate 8 0)
    ∷ []

-- ---- two refusals at once: PROTOCOL 7.7

-- 31 before 32 and 33, whatever the size; 32 before 33, where size and value are both wrong
abbrev pub competing_cases : List ReadCase
competing_cases =
    refuses 31 0x00 [] ∷ refuses 31 0x21 (9 ∷ []) ∷ refuses 31 0x26 (replicate 9 255) ∷ refuses 31 0xFF (replicate 66 0)
    ∷ refuses 32 0x09 (0 ∷ 0 ∷ []) ∷ refuses 32 0x09 (3 ∷ 1 ∷ [])
    ∷ refuses 32 0x11 (0 ∷ 0 ∷ []) ∷ refuses 32 0x11 (5 ∷ 1 ∷ [])
    ∷ refuses 32 0x12 (0 ∷ 0 ∷ []) ∷ refuses 32 0x12 (5 ∷ 1 ∷ [])
    ∷ refuses 32 0x03 (1 ∷ 8 ∷ 0 ∷ 0 ∷ []) ∷ refuses 32 0x03 (1 ∷ 2 ∷ 6 ∷ 0 ∷ 0 ∷ 0 ∷ []) ∷ refuses 32 0x03 (2 ∷ 0 ∷ [])
    ∷ refuses 32 0x04 (3 ∷ 16 ∷ replicate 6 0) ∷ refuses 32 0x04 (3 ∷ 12 ∷ replicate 8 0)
    ∷ refuses 32 0x05 (4 ∷ 16 ∷ replicate 6 0) ∷ refuses 32 0x05 (4 ∷ 12 ∷ replicate 8 0)
    ∷ []

-- ---- commands without a payload

-- each is read, and one byte is SIZE
abbrev pub empty_cases : List ReadCase
empty_cases = map (λ c. reads c [] []) empty_commands ++ map (λ c. refuses 32 c (0 ∷ [])) empty_commands

-- ---- worked_readings: reading gives the expected row in every case of these tables
pub record WorkedReadings : Type 0 where
  pub empty : AsExpected empty_cases
  pub status : AsExpected (status_cases 0x04 3)
  pub report : AsExpected (status_cases 0x05 4)
  pub control : AsExpected control_cases
  pub network : AsExpected network_cases
  pub numbers : AsExpected number_cases
  pub single_bytes : AsExpected byte_cases
  pub competing : AsExpected competing_cases
