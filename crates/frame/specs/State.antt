-- Model: the reader's state, held to the code's records by states_injective and named_states. PROTOCOL 3.1, 4.17.
-- docs/STATES.md has the range of each field.
use Rattle.std.specs.Prelude.{ℕ, Bool, true, false, List, Option, Some, None}
use Rattle.frame.specs.declared.reader.Reader.{Reader}
use Rattle.frame.specs.declared.scan.Phase.{Phase as CodePhase}
use Rattle.frame.specs.declared.scan.Scan.{Scan as CodeScan}
use Rattle.frame.specs.declared.scan.Step.{Step as CodeStep}
use Rattle.frame.specs.declared.scan.Verdict.{Verdict}
use Rattle.frame.specs.declared.scan.Phase.TheVariants as phase

-- phase, a term of ours: how far a frame is begun. PROTOCOL 3.4 to 3.11
pub data Phase : Type 0 where
  Idle : Phase  -- no frame is open; the last byte is not FF, or there is none
  Half : Phase  -- no frame is open; the last byte is FF
  Header : Phase  -- a frame is open without a body byte; the last byte ends its header
  Open : Phase  -- a frame is open with a body byte; the last byte is not FF
  Escape : Phase  -- a frame is open with a body byte; an FF waits for the next byte

-- where the reader is. `consumed` and `start` are places on the wire, `filled` is a place in the body: PROTOCOL 1.5
pub record Scan : Type 0 where
  pub phase : Phase
  pub consumed : ℕ
  pub start : ℕ
  pub filled : ℕ
  pub length : ℕ
  pub sum : ℕ

-- a scan, and the array for a body: PROTOCOL 3.1
pub record State : Type 0 where
  pub scan : Scan
  pub body : List ℕ

-- what one byte on the wire decides, if anything
pub data Event : Type 0 where
  Quiet : Event
  Decided : (verdict : Verdict) → Event

-- what one byte on the wire does: the next scan, the body byte to store, if any, and what is decided
pub record Step : Type 0 where
  pub scan : Scan
  pub put : Bool
  pub byte : ℕ
  pub event : Event

-- ---- the code's values in these terms

-- a phase
abbrev pub phase_of : CodePhase → Phase
phase_of phase.Idle = Idle
phase_of phase.Half = Half
phase_of phase.Header = Header
phase_of phase.Open = Open
phase_of phase.Escape = Escape

-- a scan
abbrev pub scan_of : CodeScan → Scan
scan_of s =
    record {
      phase = phase_of s.phase;
      consumed = s.consumed.0;
      start = s.start.0;
      filled = s.filled.0;
      length = s.length;
      sum = s.sum;
    }

-- whether a body byte is stored
abbrev pub put_in : Option ℕ → Bool
put_in None = false
put_in (Some byte) = true

-- the body byte to store, or 0
abbrev pub byte_in : Option ℕ → ℕ
byte_in None = 0
byte_in (Some byte) = byte

-- what is decided
abbrev pub event_of : Option Verdict → Event
event_of None = Quiet
event_of (Some verdict) = Decided verdict

-- a step
abbrev pub step_of : CodeStep → Step
step_of s =
    record { scan = scan_of s.scan; put = put_in s.stored; byte = byte_in s.stored; event = event_of s.verdict }

-- a reader
abbrev pub state_of : Reader → State
state_of r = record { scan = scan_of r.scan; body = r.body }
