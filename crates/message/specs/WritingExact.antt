-- Claims: the payload that every message is written as, byte by byte at its literal place. PROTOCOL 7.10 to 7.22.
use Rattle.std.specs.Prelude.{ℕ, ◌+◌, ◌*◌, ◌/◌, ◌%◌, ◌≡◌, cond, ◌&&◌, List, [], ◌∷◌, ◌++◌, length, take, drop}
use Rattle.std.specs.Prelude.{None, Some}
use Rattle.message.specs.Counter.{mode_number}
use Rattle.message.specs.Layouts.{way_number, code_number}
use Rattle.message.specs.Messages.{payload_in}
use Rattle.message.specs.declared.counter.Control.{Control}
use Rattle.message.specs.declared.counter.Status.{Status}
use Rattle.message.specs.declared.values.Code.{Code}
use Rattle.message.specs.declared.values.Extra.TheVariants as extra
use Rattle.message.specs.declared.values.Message.TheVariants as message
use Rattle.message.specs.declared.values.Network.{Network}
use Rattle.message.specs.declared.values.Time.{Time}
use Rattle.message.specs.declared.values.Way.{Way}

-- ---- writes_exactly: the payload of every message, whatever its values and the caller's data are

-- a number in four bytes, before others
abbrev pub in_four : ℕ → List ℕ → List ℕ
in_four n more = n / 16777216 ∷ n / 65536 % 256 ∷ n / 256 % 256 ∷ n % 256 ∷ more

-- timeout and attributes, before others
abbrev pub timeout_and : ℕ → ℕ → List ℕ → List ℕ
timeout_and timeout attributes more =
    timeout / 256 ∷ timeout % 256 ∷ in_four (attributes / 4294967296) (in_four (attributes % 4294967296) more)

-- a status
abbrev pub status_spelled : Status → List ℕ
status_spelled s =
    (cond s.feeding 1 0 + cond s.lamp 2 0 + mode_number s.mode * 4) ∷ s.volume / 256 ∷ s.volume % 256
    ∷ in_four s.leaf ((cond s.double 1 0 + cond s.skipped 2 0 + cond s.fault 4 0) ∷ [])

-- a control; without its flag a value is written as 0
abbrev pub control_spelled : Control → List ℕ
control_spelled c =
    (cond c.flags.lamp 1 0 + cond c.flags.mode 2 0 + cond c.flags.volume 4 0)
    ∷ (cond (c.flags.lamp && c.lamp) 1 0 + cond c.flags.mode (mode_number c.mode * 2) 0)
    ∷ cond c.flags.volume (c.volume / 256) 0 ∷ cond c.flags.volume (c.volume % 256) 0 ∷ []

-- the module's networks
abbrev pub network_spelled : Network → List ℕ
network_spelled n =
    (n.strength + cond n.app 8 0 + cond n.testing 16 0)
    ∷ (cond n.softap 1 0 + cond n.station 2 0 + cond n.onboarding 4 0
    + cond n.binding 8 0 + cond n.router 16 0 + cond n.server 32 0)
    ∷ []

-- a time, before the seconds since 1970
abbrev pub time_spelled : Time → List ℕ → List ℕ
time_spelled t more =
    t.year / 256 ∷ t.year % 256 ∷ t.month ∷ t.day ∷ t.hour ∷ t.minute ∷ t.second ∷ more

-- of all messages
pub record WritesExactly (opaque : List ℕ) : Type 0 where
  pub empty : (command : ℕ) → payload_in (message.Empty command) opaque ≡ []
  pub information :
      (timeout : ℕ)
      → payload_in (message.Information timeout extra.Absent) opaque
      ≡ take 64 opaque ++ timeout / 256 ∷ timeout % 256 ∷ drop 64 opaque
  pub attributes :
      (timeout a : ℕ)
      → payload_in (message.Information timeout (extra.Attributes a)) opaque
      ≡ take 64 opaque ++ timeout_and timeout a (drop 64 opaque)
  pub secret :
      (timeout a : ℕ)
      → payload_in (message.Information timeout (extra.AttributesAndSecret a)) opaque
      ≡ take 64 opaque ++ timeout_and timeout a (drop 64 opaque)
  pub control : (c : Control) → payload_in (message.Control c) opaque ≡ 1 ∷ control_spelled c
  pub query : payload_in message.Query opaque ≡ 2 ∷ []
  pub status : (s : Status) → payload_in (message.Status s) opaque ≡ 3 ∷ status_spelled s
  pub report : (s : Status) → payload_in (message.Report s) opaque ≡ 4 ∷ status_spelled s
  pub onboarding : (w : Way) → payload_in (message.Onboarding w) opaque ≡ way_number w ∷ []
  pub network : (n : Network) → payload_in (message.Network n) opaque ≡ network_spelled n
  pub module_reject : (c : Code) → payload_in (message.ModuleReject c) opaque ≡ code_number c ∷ []
  pub box_reject : (c : Code) → payload_in (message.BoxReject c) opaque ≡ code_number c ∷ []
  pub time : (t : Time) → t.unix ≡ None → payload_in (message.Time t) opaque ≡ time_spelled t []
  pub seconds :
      (t : Time) (n : ℕ) → t.unix ≡ Some n → payload_in (message.Time t) opaque ≡ time_spelled t (in_four n [])
  pub announcement :
      (size : ℕ)
      → payload_in (message.Announcement size) opaque
      ≡ in_four size (length opaque / 256 ∷ length opaque % 256 ∷ opaque)
  pub ready :
      (piece : ℕ)
      → payload_in (message.Ready piece) opaque
      ≡ length opaque / 256 ∷ length opaque % 256 ∷ (opaque ++ piece / 256 ∷ piece % 256 ∷ [])
  pub piece :
      (index total : ℕ)
      → payload_in (message.Piece index total) opaque
      ≡ index / 256 ∷ index % 256 ∷ total / 256 ∷ total % 256 ∷ opaque
