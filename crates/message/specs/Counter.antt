-- Statement: the counter's own layout, to the bit: status in 8 bytes and control in 4. PROTOCOL 7.17 to 7.20.
use Rattle.std.specs.Prelude.{ℕ, ◌+◌, ◌*◌, ◌^◌, ◌<◌, ◌≡◌, Bool, true, cond, ◌&&◌, List, [], ◌∷◌, get_or, eqb, ltb}
use Rattle.std.specs.Prelude.{Result, MatchResult}
use Rattle.base.specs.Numbers.{two, four, four_at, two_at}
use Rattle.message.specs.Numbers.{num, bits, bit}
use Rattle.message.specs.declared.counter.Control.{Control}
use Rattle.message.specs.declared.counter.Mode.{Mode}
use Rattle.message.specs.declared.counter.Mode.TheVariants as mode
use Rattle.message.specs.declared.counter.Status.{Status}
use Rattle.message.specs.declared.values.UnknownNumber.{UnknownNumber}

-- Counter, status, control, leaf and volume are terms of ours: PROTOCOL 7.17 to 7.20. A status `s` and a control `c`,
-- each without the payload's first byte:
--
--   s  byte 0     bit 7..4  3..2    1      0          c  byte 0     bit 7..3    2      1     0
--                     zero  mode  lamp  feeding          (flags)        zero  volume  mode  lamp
--      byte 1, 2  volume                                 byte 1     bit 7..3   2..1    0
--      byte 3..6  leaf                                   (values)       zero   mode  lamp
--      byte 7     bit 7..3    2        1       0         byte 2, 3  volume
--                     zero  fault  skipped  double

-- ---- read

-- feeding, lamp, mode, volume, leaf, double, skipped, fault
abbrev pub status_values : List ℕ → List ℕ
status_values s =
    bit 0 (get_or s 0 0) ∷ bit 1 (get_or s 0 0) ∷ bits 2 2 (get_or s 0 0) ∷ two_at s 1 ∷ four_at s 3
    ∷ bit 0 (get_or s 7 0) ∷ bit 1 (get_or s 7 0) ∷ bit 2 (get_or s 7 0) ∷ []

-- a bit that must be zero is not set, and the mode is not 3: PROTOCOL 7.20
abbrev pub status_allowed : List ℕ → Bool
status_allowed s = ltb (get_or s 0 0) (2 ^ 4) && (ltb (get_or s 7 0) (2 ^ 3) && ltb (bits 2 2 (get_or s 0 0)) 3)

-- the flags of lamp, mode and volume, then lamp, mode and volume; without its flag a value is 0: PROTOCOL 7.18
abbrev pub control_values : List ℕ → List ℕ
control_values c =
    bit 0 (get_or c 0 0) ∷ bit 1 (get_or c 0 0) ∷ bit 2 (get_or c 0 0)
    ∷ (bit 0 (get_or c 0 0) * bit 0 (get_or c 1 0)) ∷ (bit 1 (get_or c 0 0) * bits 1 2 (get_or c 1 0))
    ∷ (bit 2 (get_or c 0 0) * two_at c 2) ∷ []

-- a bit that must be zero is not set; mode 3 is refused only where the mode's flag is set: PROTOCOL 7.20
abbrev pub control_allowed : List ℕ → Bool
control_allowed c =
    ltb (get_or c 0 0) (2 ^ 3)
    && (ltb (get_or c 1 0) (2 ^ 3) && cond (eqb (bit 1 (get_or c 0 0)) 0) true (ltb (bits 1 2 (get_or c 1 0)) 3))

-- ---- the same values of the code's structs

-- the number of each mode
abbrev pub mode_number : Mode → ℕ
mode_number mode.Fold = 0
mode_number mode.Gather = 1
mode_number mode.Sew = 2

-- the mode with a number, or that number, where it stands for none
abbrev pub NamesMode : ℕ → Result Mode UnknownNumber → Type 0
NamesMode n r = MatchResult r (λ m. (mode_number m ≡ n) × (n < 3)) (λ e. (e.0 ≡ n) × (2 < n))

-- the values of a status, in the order of `status_values`
abbrev pub status_in : Status → List ℕ
status_in s =
    num s.feeding ∷ num s.lamp ∷ mode_number s.mode ∷ s.volume ∷ s.leaf
    ∷ num s.double ∷ num s.skipped ∷ num s.fault ∷ []

-- the values of a control, in the order of `control_values`
abbrev pub control_in : Control → List ℕ
control_in c =
    num c.flags.lamp ∷ num c.flags.mode ∷ num c.flags.volume ∷ num c.lamp ∷ mode_number c.mode
    ∷ c.volume ∷ []

-- a control as its reader finds it: without its flag a value is 0
abbrev pub effective_control : Control → Control
effective_control c =
    record {
      flags = c.flags;
      lamp = c.flags.lamp && c.lamp;
      mode = cond c.flags.mode c.mode mode.Fold;
      volume = num c.flags.volume * c.volume;
    }

-- ---- written

-- a status in its 8 bytes
abbrev pub status_bytes : Status → List ℕ
status_bytes s =
    (num s.feeding + num s.lamp * 2 + mode_number s.mode * 4)
    ∷ two s.volume (four s.leaf ((num s.double + num s.skipped * 2 + num s.fault * 4) ∷ []))

-- a control in its 4 bytes; without its flag a value is written as 0: PROTOCOL 7.18
abbrev pub control_bytes : Control → List ℕ
control_bytes c =
    (num c.flags.lamp + num c.flags.mode * 2 + num c.flags.volume * 4)
    ∷ (num c.flags.lamp * num c.lamp + num c.flags.mode * mode_number c.mode * 2)
    ∷ two (num c.flags.volume * c.volume) []
