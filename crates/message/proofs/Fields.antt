-- The counter's status and control and the network's state are read back from their bytes. Assumes nothing.
use Prim.Native.Nat.{ℕ, ◌*◌, ◌<◌}
use mathlib.Core.Path.{◌≡◌, refl}
use mathlib.Core.Bool.{Bool, true, false, cond, ◌&&◌}
use mathlib.Core.List.{List, [], ◌∷◌}
use native.Mathlib.Omega.{arith}
use borrow.Author.Tests.{lt-ltb, ltb-true}
use lib.Dec.{ltb}
use lib.ListN.{get_or}
use Rattle.message.specs.Numbers.{num, bits, bit}
use Rattle.base.specs.Numbers.{two_at}
use Rattle.message.specs.Counter.{status_values, status_allowed, control_values, control_allowed, mode_number}
use Rattle.message.specs.Counter.{status_in, control_in, effective_control, status_bytes, control_bytes}
use Rattle.message.specs.Layouts.{way_allowed, way_number, code_allowed, code_number, network_values}
use Rattle.message.specs.Messages.{network_in, network_bytes}
use Rattle.message.specs.declared.counter.Mode.{Mode}
use Rattle.message.specs.declared.counter.Mode.TheVariants as mode
use Rattle.message.specs.declared.counter.Status.{Status}
use Rattle.message.specs.declared.counter.Control.{Control}
use Rattle.message.specs.declared.values.Way.{Way}
use Rattle.message.specs.declared.values.Way.TheVariants as way
use Rattle.message.specs.declared.values.Code.{Code}
use Rattle.message.specs.declared.values.Code.TheVariants as code
use Rattle.message.specs.declared.values.Network.{Network}
use Rattle.base.proofs.Lists.{all_same}
use Rattle.message.proofs.Numbers.{mode_max, set_max, small}
use Rattle.base.proofs.Tests.{cond_same}

-- ---- status

module _ (s : Status) where
  abbrev flags : List Bool
  flags = s.feeding ∷ s.lamp ∷ s.double ∷ s.skipped ∷ s.fault ∷ []

  pub status_back : status_values (status_bytes s) ≡ status_in s
  status_back = all_same _ _ (omega (arith, mode_max s.mode, small flags))

  pub status_allowed_lem : status_allowed (status_bytes s) ≡ true
  status_allowed_lem =
      let first : get_or (status_bytes s) 0 0 < 16 = omega (arith, mode_max s.mode, small flags) in
      let last : get_or (status_bytes s) 7 0 < 8 = omega (arith, small flags) in
      let mode : bits 2 2 (get_or (status_bytes s) 0 0) < 3 = omega (arith, mode_max s.mode, small flags) in
      simp lt-ltb

-- ---- control

-- a flag counts once
once : (f : Bool) (n : ℕ) → num f * (num f * n) ≡ num f * n
once true n = omega arith
once false n = omega arith

pub num_and : (f b : Bool) → num f * num b ≡ num (f && b)
num_and true b = omega arith
num_and false b = omega arith

num_mode : (f : Bool) (m : Mode) → num f * mode_number m ≡ mode_number (cond f m mode.Fold)
num_mode true m = omega arith
num_mode false m = omega arith

module _ (c : Control) where
  abbrev lamp : Bool
  lamp = c.flags.lamp && c.lamp

  -- what its bytes hold
  record Bits : Type 0 where
    first : get_or (control_bytes c) 0 0 < 8
    second : get_or (control_bytes c) 1 0 < 8
    set_lamp : bit 0 (get_or (control_bytes c) 0 0) ≡ num c.flags.lamp
    set_mode : bit 1 (get_or (control_bytes c) 0 0) ≡ num c.flags.mode
    set_volume : bit 2 (get_or (control_bytes c) 0 0) ≡ num c.flags.volume
    lamp_is : bit 0 (get_or (control_bytes c) 1 0) ≡ num c.flags.lamp * num c.lamp
    mode_is : bits 1 2 (get_or (control_bytes c) 1 0) ≡ num c.flags.mode * mode_number c.mode
    volume_is : two_at (control_bytes c) 2 ≡ num c.flags.volume * c.volume

  held : Bits
  held = omega (
    arith,
    small (c.flags.lamp ∷ c.flags.mode ∷ c.flags.volume ∷ lamp ∷ []),
    num_and c.flags.lamp c.lamp,
    set_max c.flags.mode c.mode,
  )

  pub control_back : control_values (control_bytes c) ≡ control_in (effective_control c)
  control_back =
      let b : Bits = held in
      cc (
        once c.flags.lamp (num c.lamp),
        once c.flags.mode (mode_number c.mode),
        once c.flags.volume c.volume,
        num_and c.flags.lamp c.lamp,
        num_mode c.flags.mode c.mode,
      )

  pub control_allowed_lem : control_allowed (control_bytes c) ≡ true
  control_allowed_lem =
      let b : Bits = held in
      let mode : bits 1 2 (get_or (control_bytes c) 1 0) < 3 = omega (arith, set_max c.flags.mode c.mode) in
      simp (lt-ltb, b.first, b.second, cond_same)

-- a control that was read has no values left to ignore
pub effective_control_lem : (s : List ℕ) (c : Control) → control_values s ≡ control_in c
    → control_in (effective_control c) ≡ control_in c
effective_control_lem s c e =
    cc (
      once c.flags.lamp (bit 0 (get_or s 1 0)),
      num_and c.flags.lamp c.lamp,
      once c.flags.mode (bits 1 2 (get_or s 1 0)),
      num_mode c.flags.mode c.mode,
      once c.flags.volume (two_at s 2),
    )

-- ---- ways and codes

pub way_allowed_lem : (w : Way) → way_allowed (way_number w) ≡ true
way_allowed_lem way.SoftAp = refl
way_allowed_lem way.AirLink = refl

pub code_allowed_lem : (c : Code) → code_allowed (code_number c) ≡ true
code_allowed_lem code.Sum = refl
code_allowed_lem code.Command = refl
code_allowed_lem code.Other = refl
code_allowed_lem code.FileType = refl

-- ---- network

pub network_back : (n : Network) → ltb n.strength 8 ≡ true → network_values (network_bytes n) ≡ network_in n
network_back n h =
    let flags : List Bool = n.softap ∷ n.station ∷ n.onboarding ∷ n.binding ∷ n.router ∷ n.server ∷ n.app
    ∷ n.testing ∷ [] in
    all_same _ _ (omega (arith, ltb-true, small flags))
