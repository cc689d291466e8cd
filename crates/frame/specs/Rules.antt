-- Model: the byte rules, held to the frames of a stream by stream_correct and each_decision.
-- PROTOCOL 3.2, 3.4 to 3.18, 4.6, 4.17 to 4.20.
use Rattle.std.specs.Prelude.{ℕ, ◌+◌, ◌-◌, ◌*◌, ◌%◌, ◌^◌, ◌≤◌, Bool, true, false, cond, ◌&&◌, List, ◌==◌, nat_le}
use Rattle.std.specs.Prelude.{nat_lt, slice_set}
use Rattle.frame.specs.State.{Phase, Idle, Half, Header, Open, Escape, Scan, Step, Event, Quiet, Decided}
use Rattle.frame.specs.Wire.{head_size, widest}
use Rattle.frame.specs.declared.scan.Verdict.{Verdict}
use Rattle.frame.specs.declared.scan.Verdict.TheVariants.{Frame, Short, Long, Stuff, StuffLate, Cut, Sum}

-- ---- states

-- the bytes that a reader may consume in all: PROTOCOL 4.18
abbrev pub max_consumed : ℕ
max_consumed = 2 ^ 62

-- the greatest count of body bytes so far: PROTOCOL 4.17
abbrev pub max_filled : ℕ → ℕ
max_filled limit = limit + 1

-- whether the fields are in range: PROTOCOL 4.17
abbrev pub in_range_of : ℕ → Scan → Bool
in_range_of limit s = nat_le s.consumed max_consumed && nat_le s.filled (max_filled limit)

-- what the byte rules require: state and limit are in range, and n bytes more may be consumed
pub record Ready (limit : ℕ) (s : Scan) (n : ℕ) : Type 0 where
  pub room : s.consumed + n ≤ 2 ^ 62
  pub inside : s.filled ≤ limit + 1
  pub small : limit ≤ widest

-- no frame is open, and the last byte is not FF
abbrev pub closed_of : ℕ → Scan
closed_of consumed = record { phase = Idle; consumed = consumed; start = 0; filled = 0; length = 0; sum = 0 }

-- no frame is open, and the last byte is FF
abbrev pub half_of : ℕ → Scan
half_of consumed = record { phase = Half; consumed = consumed; start = 0; filled = 0; length = 0; sum = 0 }

-- a header was made, whose second byte is at the place `at`: PROTOCOL 3.4
abbrev pub header_of : ℕ → ℕ → Scan
header_of at consumed =
    record { phase = Header; consumed = consumed; start = at - 1; filled = 0; length = 0; sum = 0 }

-- an FF that is not the header's waits for the next byte: PROTOCOL 3.8
abbrev pub escape_of : Scan → ℕ → Scan
escape_of s consumed =
    record {
      phase = Escape;
      consumed = consumed;
      start = s.start;
      filled = s.filled;
      length = s.length;
      sum = s.sum;
    }

-- ---- one byte on the wire

-- no byte goes to the body
abbrev pub silent_of : Scan → Event → Step
silent_of s e = record { scan = s; put = false; byte = 0; event = e }

-- CUT: the header that refuses an open frame opens the next one. PROTOCOL 3.10
abbrev pub cut_of : ℕ → ℕ → Step
cut_of at consumed = silent_of (header_of at consumed) (Decided Cut)

-- the byte v goes to the body
abbrev pub stored_of : Scan → ℕ → Event → Step
stored_of s v e = record { scan = s; put = true; byte = v; event = e }

-- the body goes on with the byte v; its length so far is l
abbrev pub grown_of : Scan → ℕ → ℕ → Step
grown_of s l v =
    stored_of
    (record {
      phase = Open;
      consumed = s.consumed + 1;
      start = s.start;
      filled = s.filled + 1;
      length = l;
      sum = (s.sum + v) % 2 ^ 8;
    })
    v Quiet

-- the frame is decided with the body byte v, and no frame is open: PROTOCOL 3.16
abbrev pub ended_of : Scan → ℕ → Verdict → Step
ended_of s v w = stored_of (closed_of (s.consumed + 1)) v (Decided w)

-- FRAME or SUM: PROTOCOL 3.13, 3.14, 4.20
abbrev pub completed_of : Scan → ℕ → Step
completed_of s v = cond (v == s.sum) (ended_of s v Frame) (ended_of s v (Sum v s.sum))

-- SHORT and LONG: PROTOCOL 3.12
abbrev pub measured_of : ℕ → Scan → ℕ → ℕ → Step
measured_of limit s l v =
    cond (nat_lt l 5) (ended_of s v Short) (cond (nat_lt limit l) (ended_of s v Long) (grown_of s l v))

-- the body byte v: PROTOCOL 3.12 to 3.14. The second test against the limit is for a record that a
-- caller made up: PROTOCOL 3.18
abbrev pub body_byte_of : ℕ → Scan → ℕ → Step
body_byte_of limit s v =
    cond (s.filled == 0) (grown_of s v v)
    (cond (s.filled == 1) (measured_of limit s (s.length * 256 + v) v)
    (cond (nat_lt s.length s.filled) (completed_of s v)
    (cond (nat_lt limit s.filled) (completed_of s v) (grown_of s s.length v))))

-- a byte FF, by phase: PROTOCOL 3.4, 3.5, 3.8, 3.10
abbrev pub on_ff_in : Phase → Scan → Step
on_ff_in Idle s = silent_of (half_of (s.consumed + 1)) Quiet
on_ff_in Half s = silent_of (header_of s.consumed (s.consumed + 1)) Quiet
on_ff_in Header s = silent_of (header_of s.consumed (s.consumed + 1)) Quiet
on_ff_in Open s = silent_of (escape_of s (s.consumed + 1)) Quiet
on_ff_in Escape s = cut_of s.consumed (s.consumed + 1)

-- a byte FF
abbrev pub on_ff_of : Scan → Step
on_ff_of s = on_ff_in s.phase s

-- a byte that belongs to no body, and after which no frame is open
abbrev pub outside_of : ℕ → Event → Step
outside_of at e = silent_of (closed_of (at + 1)) e

-- STUFF or STUFFLATE, where the byte x breaks the stuffing after so many body bytes: PROTOCOL 4.6, 4.19
abbrev pub broken_of : ℕ → ℕ → Verdict
broken_of filled x = cond (nat_lt filled head_size) (Stuff x) (StuffLate x)

-- a byte that follows an FF that waits: PROTOCOL 3.9, 3.11
abbrev pub on_escaped_of : ℕ → Scan → ℕ → Step
on_escaped_of limit s x =
    cond (x == 85) (body_byte_of limit s 255) (outside_of s.consumed (Decided (broken_of s.filled x)))

-- a byte other than FF, by phase: PROTOCOL 3.6, 3.7, 3.15
abbrev pub on_other_in : Phase → ℕ → Scan → ℕ → Step
on_other_in Idle limit s x = outside_of s.consumed Quiet
on_other_in Half limit s x = outside_of s.consumed Quiet
on_other_in Header limit s x = body_byte_of limit s x
on_other_in Open limit s x = body_byte_of limit s x
on_other_in Escape limit s x = on_escaped_of limit s x

-- a byte other than FF
abbrev pub on_other_of : ℕ → Scan → ℕ → Step
on_other_of limit s x = on_other_in s.phase limit s x

-- any byte
abbrev pub advance_of : ℕ → Scan → ℕ → Step
advance_of limit s x = cond (x == 255) (on_ff_of s) (on_other_of limit s x)

-- whether something is decided
abbrev pub decides_of : Event → Bool
decides_of Quiet = false
decides_of (Decided v) = true

-- a body byte goes to its own place, and no other byte changes: PROTOCOL 3.2
abbrev pub put_of : Bool → List ℕ → ℕ → ℕ → List ℕ
put_of true body at v = slice_set body at v
put_of false body at v = body
