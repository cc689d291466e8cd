-- Statement: each message as the values of its row and as the payload that it is written as. PROTOCOL 7.21 to 7.25.
use Rattle.std.specs.Prelude.{ℕ, ◌+◌, ◌*◌, Bool, true, ◌&&◌, List, [], ◌∷◌, ◌++◌, length, take, drop, eqb, ltb, leb}
use Rattle.std.specs.Prelude.{Option, None, Some}
use Rattle.base.specs.Numbers.{two, four}
use Rattle.message.specs.Numbers.{num, eight}
use Rattle.message.specs.Counter.{status_in, control_in, effective_control, status_bytes, control_bytes}
use Rattle.message.specs.Commands.{kind_of}
use Rattle.message.specs.Layouts.{way_number, code_number, size_fits}
use Rattle.message.specs.declared.values.Extra.{Extra}
use Rattle.message.specs.declared.values.Extra.TheVariants as extra
use Rattle.message.specs.declared.values.Message.{Message}
use Rattle.message.specs.declared.values.Message.TheVariants as message
use Rattle.message.specs.declared.values.Network.{Network}
use Rattle.message.specs.declared.values.Time.{Time}

-- ---- values, as a row has them after the command: PROTOCOL 7.21

-- 02: the payload's size, the timeout, and the attributes where it has them
abbrev pub information_in : ℕ → Extra → List ℕ
information_in timeout extra.Absent = 66 ∷ timeout ∷ []
information_in timeout (extra.Attributes attributes) = 74 ∷ timeout ∷ attributes ∷ []
information_in timeout (extra.AttributesAndSecret attributes) = 106 ∷ timeout ∷ attributes ∷ []

-- 0D: bits 0 to 5, strength, bits 11 and 12
abbrev pub network_in : Network → List ℕ
network_in n =
    num n.softap ∷ num n.station ∷ num n.onboarding ∷ num n.binding ∷ num n.router ∷ num n.server
    ∷ n.strength ∷ num n.app ∷ num n.testing ∷ []

-- 18: the seconds since 1970, where it has them
abbrev pub unix_in : Option ℕ → List ℕ
unix_in None = []
unix_in (Some seconds) = seconds ∷ []

-- 18
abbrev pub time_in : Time → List ℕ
time_in c = c.year ∷ c.month ∷ c.day ∷ c.hour ∷ c.minute ∷ c.second ∷ unix_in c.unix

-- ---- payloads. `opaque` is the caller's data: texts, key and secret, check code, or data. PROTOCOL 7.24

-- 02: numbers between the 64 bytes of texts and key and the secret
abbrev pub information_bytes : List ℕ → List ℕ → List ℕ
information_bytes numbers opaque = take 64 opaque ++ (numbers ++ drop 64 opaque)

-- 02: timeout and attributes
abbrev pub information_numbers : ℕ → Extra → List ℕ
information_numbers timeout extra.Absent = two timeout []
information_numbers timeout (extra.Attributes attributes) = two timeout (eight attributes [])
information_numbers timeout (extra.AttributesAndSecret attributes) = two timeout (eight attributes [])

-- 02: the size of the caller's data
abbrev pub information_opaque : Extra → ℕ
information_opaque extra.Absent = 64
information_opaque (extra.Attributes attributes) = 64
information_opaque (extra.AttributesAndSecret attributes) = 96

-- 0D: the high byte first; the reserved bits are 0
abbrev pub network_bytes : Network → List ℕ
network_bytes n =
    (n.strength + num n.app * 8 + num n.testing * 16)
    ∷ (num n.softap + num n.station * 2 + num n.onboarding * 4
    + num n.binding * 8 + num n.router * 16 + num n.server * 32)
    ∷ []

-- 18: before others
abbrev pub time_bytes : Time → List ℕ → List ℕ
time_bytes c more = two c.year (c.month ∷ c.day ∷ c.hour ∷ c.minute ∷ c.second ∷ more)

-- 18: the seconds since 1970, where it has them
abbrev pub unix_bytes : Option ℕ → List ℕ
unix_bytes None = []
unix_bytes (Some seconds) = four seconds []

-- 19 and 1B: a check code whose size a count of 2 bytes can name
abbrev pub countable : ℕ → Bool
countable n = leb n 65535

-- ---- the form of each message

-- what a message is written and read as
pub record Form : Type 0 where
  pub command : ℕ
  -- its values after the command, and the values that its reader finds
  pub values : List ℕ
  pub read : List ℕ
  -- whether the caller's data may have a size; if not, SIZE (32)
  pub takes : ℕ → Bool
  -- whether each value may be written; if not, FIELD (33). Only a strength can have more bits than its field
  pub allows : Bool
  -- its payload, with the caller's data
  pub payload : List ℕ → List ℕ

-- with the caller's data, and values that are all allowed
abbrev pub opaque_form : ℕ → List ℕ → (ℕ → Bool) → (List ℕ → List ℕ) → Form
opaque_form command values takes payload =
    record { command = command; values = values; read = values; takes = takes; allows = true; payload = payload }

-- without the caller's data
abbrev pub bare_read : ℕ → List ℕ → List ℕ → Bool → List ℕ → Form
bare_read command values read allows payload =
    record {
      command = command;
      values = values;
      read = read;
      takes = λ n. eqb n 0;
      allows = allows;
      payload = λ opaque. payload;
    }

-- without the caller's data, and with no value that a reader ignores
abbrev pub bare : ℕ → List ℕ → Bool → List ℕ → Form
bare command values allows payload = bare_read command values values allows payload

-- the form of each message
abbrev pub form_of : Message → Form
form_of (message.Empty command) = opaque_form command [] (λ n. eqb n 0 && size_fits (kind_of command) []) (λ opaque. [])
form_of (message.Information timeout more) =
    opaque_form 0x02 (information_in timeout more) (λ n. eqb n (information_opaque more))
    (information_bytes (information_numbers timeout more))
form_of (message.Control control) =
    bare_read 0x03 (1 ∷ control_in control) (1 ∷ control_in (effective_control control)) true
    (1 ∷ control_bytes control)
form_of message.Query = bare 0x03 (2 ∷ []) true (2 ∷ [])
form_of (message.Status status) = bare 0x04 (3 ∷ status_in status) true (3 ∷ status_bytes status)
form_of (message.Report status) = bare 0x05 (4 ∷ status_in status) true (4 ∷ status_bytes status)
form_of (message.Onboarding way) = bare 0x09 (way_number way ∷ []) true (way_number way ∷ [])
form_of (message.Network network) = bare 0x0D (network_in network) (ltb network.strength 8) (network_bytes network)
form_of (message.ModuleReject code) = bare 0x11 (code_number code ∷ []) true (code_number code ∷ [])
form_of (message.BoxReject code) = bare 0x12 (code_number code ∷ []) true (code_number code ∷ [])
form_of (message.Time time) = bare 0x18 (time_in time) true (time_bytes time (unix_bytes time.unix))
form_of (message.Announcement size) =
    opaque_form 0x19 (size ∷ []) countable (λ opaque. four size (two (length opaque) opaque))
form_of (message.Ready piece) =
    opaque_form 0x1B (piece ∷ []) countable (λ opaque. two (length opaque) (opaque ++ two piece []))
form_of (message.Piece index total) =
    opaque_form 0x1D (index ∷ total ∷ []) (λ n. true) (λ opaque. two index (two total opaque))

-- ---- the forms looked up

-- the command of a message
abbrev pub command_in : Message → ℕ
command_in m = (form_of m).command

-- its values, the command first
abbrev pub message_in : Message → List ℕ
message_in m = (form_of m).command ∷ (form_of m).values

-- the values that its reader finds
abbrev pub read_in : Message → List ℕ
read_in m = (form_of m).command ∷ (form_of m).read

-- whether the caller's data has the size that the message needs; if not, SIZE (32)
abbrev pub opaque_fits : Message → ℕ → Bool
opaque_fits m n = (form_of m).takes n

-- whether each value may be written; if not, FIELD (33)
abbrev pub allowed_in : Message → Bool
allowed_in m = (form_of m).allows

-- its payload
abbrev pub payload_in : Message → List ℕ → List ℕ
payload_in m opaque = (form_of m).payload opaque
