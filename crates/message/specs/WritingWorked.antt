-- Claims: literal messages with their bytes. With one name set at a time, a name that stands for another bit, number or
-- place gives other bytes. PROTOCOL 7.10 to 7.22, example 4 of section 11.
use Rattle.std.specs.Prelude.{ℕ, ◌≤◌, ◌≡◌, Bool, true, false, List, [], ◌∷◌, ◌++◌, map, length, drop, replicate}
use Rattle.std.specs.Prelude.{Option, None, Some}
use Rattle.base.specs.Rows.{row}
use Rattle.base.specs.Outcomes.{output}
use Rattle.message.specs.Messages.{command_in, payload_in}
use Rattle.message.specs.Writing.{send_of}
use Rattle.message.specs.declared.counter.Control.{Control}
use Rattle.message.specs.declared.counter.Mode.{Mode}
use Rattle.message.specs.declared.counter.Mode.TheVariants as mode
use Rattle.message.specs.declared.counter.Status.{Status}
use Rattle.message.specs.declared.values.Code.TheVariants as code
use Rattle.message.specs.declared.values.Extra.TheVariants as extra
use Rattle.message.specs.declared.values.Message.{Message}
use Rattle.message.specs.declared.values.Message.TheVariants as message
use Rattle.message.specs.declared.values.Way.TheVariants as way

-- ---- example_4: a report, to the last byte of its frame

-- volume 3, leaf 255, mode gather, feeding
abbrev pub example4 : Message
example4 =
    message.Report
    (record {
      feeding = true;
      lamp = false;
      mode = mode.Gather;
      volume = 3;
      leaf = 255;
      double = false;
      skipped = false;
      fault = false;
    })

-- its 19 bytes under sequence number 2
abbrev pub example4_bytes : List ℕ
example4_bytes =
    0xFF ∷ 0xFF ∷ 0x00 ∷ 0x0E ∷ 0x05 ∷ 0x02 ∷ 0x00 ∷ 0x00 ∷ 0x04 ∷ 0x05 ∷ 0x00 ∷ 0x03 ∷ 0x00 ∷ 0x00 ∷ 0x00 ∷ 0xFF ∷ 0x55
    ∷ 0x00 ∷ 0x20 ∷ []

-- into every buffer that has room for them, under every limit that allows its 9 bytes of payload
abbrev pub Example4 : Type 0
Example4 =
    (limit : ℕ) → 14 ≤ limit → (out : List ℕ) → 19 ≤ length out
    → send_of limit example4 2 0 [] out ≡ output (row 0 (19 ∷ [])) (example4_bytes ++ drop 19 out)

-- ---- the cases: a message, and its payload in literal bytes

-- a message, the caller's data, its command and its payload
pub record WriteCase : Type 0 where
  pub message : Message
  pub opaque : List ℕ
  pub command : ℕ
  pub payload : List ℕ

-- without the caller's data
abbrev pub writes : Message → ℕ → List ℕ → WriteCase
writes m command payload = record { message = m; opaque = []; command = command; payload = payload }

-- with it
abbrev pub with_opaque : Message → List ℕ → ℕ → List ℕ → WriteCase
with_opaque m opaque command payload = record { message = m; opaque = opaque; command = command; payload = payload }

-- command and payload are as expected, case by case
abbrev pub AsWritten : List WriteCase → Type 0
AsWritten cases =
    map (λ (c : WriteCase). command_in c.message ∷ payload_in c.message c.opaque) cases
    ≡ map (λ (c : WriteCase). c.command ∷ c.payload) cases

-- ---- the counter

-- a status with these values, volume 4,660 and leaf 1,450,744,508
abbrev pub status_with : Bool → Bool → Mode → Bool → Bool → Bool → Status
status_with feeding lamp mode double skipped fault =
    record {
      feeding = feeding;
      lamp = lamp;
      mode = mode;
      volume = 4660;
      leaf = 1450744508;
      double = double;
      skipped = skipped;
      fault = fault;
    }

-- its bytes: the first, volume and leaf, the last
abbrev pub bytes_with : ℕ → ℕ → List ℕ
bytes_with first last = first ∷ 0x12 ∷ 0x34 ∷ 0x56 ∷ 0x78 ∷ 0x9A ∷ 0xBC ∷ last ∷ []

-- under 04 and under 05
abbrev pub status_written : Status → ℕ → ℕ → List WriteCase
status_written s first last =
    writes (message.Status s) 0x04 (3 ∷ bytes_with first last)
    ∷ writes (message.Report s) 0x05 (4 ∷ bytes_with first last)
    ∷ []

-- one name at a time
abbrev pub status_writings : List WriteCase
status_writings =
    status_written (status_with false false mode.Fold false false false) 0 0
    ++ status_written (status_with true false mode.Fold false false false) 1 0
    ++ status_written (status_with false true mode.Fold false false false) 2 0
    ++ status_written (status_with false false mode.Gather false false false) 4 0
    ++ status_written (status_with false false mode.Sew false false false) 8 0
    ++ status_written (status_with false false mode.Fold true false false) 0 1
    ++ status_written (status_with false false mode.Fold false true false) 0 2
    ++ status_written (status_with false false mode.Fold false false true) 0 4

-- a control with these flags, lamp and mode, and volume 4,660
abbrev pub control_with : Bool → Bool → Bool → Bool → Mode → Control
control_with set_lamp set_mode set_volume lamp mode =
    record {
      flags = record { lamp = set_lamp; mode = set_mode; volume = set_volume };
      lamp = lamp;
      mode = mode;
      volume = 4660;
    }

-- one flag at a time, and each value with its flag
abbrev pub control_writings : List WriteCase
control_writings =
    writes (message.Control (control_with false false false true mode.Sew)) 0x03 (1 ∷ 0 ∷ 0 ∷ 0 ∷ 0 ∷ [])
    ∷ writes (message.Control (control_with true false false true mode.Sew)) 0x03 (1 ∷ 1 ∷ 1 ∷ 0 ∷ 0 ∷ [])
    ∷ writes (message.Control (control_with true false false false mode.Sew)) 0x03 (1 ∷ 1 ∷ 0 ∷ 0 ∷ 0 ∷ [])
    ∷ writes (message.Control (control_with false true false true mode.Fold)) 0x03 (1 ∷ 2 ∷ 0 ∷ 0 ∷ 0 ∷ [])
    ∷ writes (message.Control (control_with false true false true mode.Gather)) 0x03 (1 ∷ 2 ∷ 2 ∷ 0 ∷ 0 ∷ [])
    ∷ writes (message.Control (control_with false true false true mode.Sew)) 0x03 (1 ∷ 2 ∷ 4 ∷ 0 ∷ 0 ∷ [])
    ∷ writes (message.Control (control_with false false true true mode.Sew)) 0x03 (1 ∷ 4 ∷ 0 ∷ 0x12 ∷ 0x34 ∷ [])
    ∷ writes message.Query 0x03 (2 ∷ [])
    ∷ []

-- ---- the module

-- the state of its networks
abbrev pub network_with : Bool → Bool → Bool → Bool → Bool → Bool → ℕ → Bool → Bool → Message
network_with softap station onboarding binding router server strength app testing =
    message.Network (record {
      softap = softap;
      station = station;
      onboarding = onboarding;
      binding = binding;
      router = router;
      server = server;
      strength = strength;
      app = app;
      testing = testing;
    })

-- one name at a time
abbrev pub network_writings : List WriteCase
network_writings =
    writes (network_with true false false false false false 0 false false) 0x0D (0 ∷ 1 ∷ [])
    ∷ writes (network_with false true false false false false 0 false false) 0x0D (0 ∷ 2 ∷ [])
    ∷ writes (network_with false false true false false false 0 false false) 0x0D (0 ∷ 4 ∷ [])
    ∷ writes (network_with false false false true false false 0 false false) 0x0D (0 ∷ 8 ∷ [])
    ∷ writes (network_with false false false false true false 0 false false) 0x0D (0 ∷ 16 ∷ [])
    ∷ writes (network_with false false false false false true 0 false false) 0x0D (0 ∷ 32 ∷ [])
    ∷ writes (network_with false false false false false false 7 false false) 0x0D (7 ∷ 0 ∷ [])
    ∷ writes (network_with false false false false false false 0 true false) 0x0D (8 ∷ 0 ∷ [])
    ∷ writes (network_with false false false false false false 0 false true) 0x0D (16 ∷ 0 ∷ [])
    ∷ []

-- ways and codes by their names
abbrev pub named_writings : List WriteCase
named_writings =
    writes (message.Onboarding way.SoftAp) 0x09 (1 ∷ [])
    ∷ writes (message.Onboarding way.AirLink) 0x09 (2 ∷ [])
    ∷ writes (message.ModuleReject code.Sum) 0x11 (1 ∷ [])
    ∷ writes (message.ModuleReject code.Command) 0x11 (2 ∷ [])
    ∷ writes (message.ModuleReject code.Other) 0x11 (3 ∷ [])
    ∷ writes (message.ModuleReject code.FileType) 0x11 (4 ∷ [])
    ∷ writes (message.BoxReject code.Sum) 0x12 (1 ∷ [])
    ∷ writes (message.BoxReject code.Command) 0x12 (2 ∷ [])
    ∷ writes (message.BoxReject code.Other) 0x12 (3 ∷ [])
    ∷ writes (message.BoxReject code.FileType) 0x12 (4 ∷ [])
    ∷ []

-- ---- numbers and the caller's data

-- a time, with or without the seconds since 1970
abbrev pub time_with : Option ℕ → Message
time_with u =
    message.Time
    (record { year = 2026; month = 11; day = 16; hour = 6; minute = 34; second = 58; unix = u })

-- every byte of a number different; the numbers of 02 are between texts and key and the secret
abbrev pub number_writings : List WriteCase
number_writings =
    writes (message.Empty 0x07) 0x07 []
    ∷ with_opaque (message.Information 4660 extra.Absent) (replicate 64 7) 0x02 (replicate 64 7 ++ 0x12 ∷ 0x34 ∷ [])
    ∷ with_opaque (message.Information 4660 (extra.Attributes 72623859790382856)) (replicate 64 7) 0x02
    (replicate 64 7 ++ 0x12 ∷ 0x34 ∷ 1 ∷ 2 ∷ 3 ∷ 4 ∷ 5 ∷ 6 ∷ 7 ∷ 8 ∷ [])
    ∷ with_opaque (message.Information 4660 (extra.AttributesAndSecret 72623859790382856))
    (replicate 64 7 ++ replicate 32 9) 0x02
    (replicate 64 7 ++ 0x12 ∷ 0x34 ∷ 1 ∷ 2 ∷ 3 ∷ 4 ∷ 5 ∷ 6 ∷ 7 ∷ 8 ∷ replicate 32 9)
    ∷ writes (time_with None) 0x18 (0x07 ∷ 0xEA ∷ 11 ∷ 16 ∷ 6 ∷ 34 ∷ 58 ∷ [])
    ∷ writes (time_with (Some 305419896)) 0x18
    (0x07 ∷ 0xEA ∷ 11 ∷ 16 ∷ 6 ∷ 34 ∷ 58 ∷ 0x12 ∷ 0x34 ∷ 0x56 ∷ 0x78 ∷ [])
    ∷ with_opaque (message.Announcement 305419896) (7 ∷ 8 ∷ 9 ∷ []) 0x19
    (0x12 ∷ 0x34 ∷ 0x56 ∷ 0x78 ∷ 0 ∷ 3 ∷ 7 ∷ 8 ∷ 9 ∷ [])
    ∷ with_opaque (message.Announcement 0) (replicate 258 7) 0x19 (0 ∷ 0 ∷ 0 ∷ 0 ∷ 1 ∷ 2 ∷ replicate 258 7)
    ∷ with_opaque (message.Ready 4660) (7 ∷ 8 ∷ 9 ∷ []) 0x1B (0 ∷ 3 ∷ 7 ∷ 8 ∷ 9 ∷ 0x12 ∷ 0x34 ∷ [])
    ∷ with_opaque (message.Ready 4660) (replicate 258 7) 0x1B (1 ∷ 2 ∷ (replicate 258 7 ++ 0x12 ∷ 0x34 ∷ []))
    ∷ with_opaque (message.Piece 4660 22136) (7 ∷ 8 ∷ 9 ∷ []) 0x1D (0x12 ∷ 0x34 ∷ 0x56 ∷ 0x78 ∷ 7 ∷ 8 ∷ 9 ∷ [])
    ∷ []

-- ---- worked_writings: the command and the payload are as expected in every case of these tables
pub record WorkedWritings : Type 0 where
  pub status : AsWritten status_writings
  pub control : AsWritten control_writings
  pub network : AsWritten network_writings
  pub named : AsWritten named_writings
  pub numbers : AsWritten number_writings
