-- What each message is written as, byte by byte. Assumes nothing.
use Prim.Native.Nat.{ℕ, ◌*◌, ◌/◌, ◌%◌}
use mathlib.Core.Path.{◌≡◌, refl, ap, ◌∙◌}
use mathlib.Core.Bool.{Bool, true, false, cond, ◌&&◌}
use mathlib.Core.List.{List, [], ◌∷◌, ◌++◌}
use native.Mathlib.Omega.{arith}
use lib.ListN.{take, drop}
use Rattle.base.specs.Numbers.{two, four}
use Rattle.base.proofs.NumbersExact.{numbers_spelled}
use Rattle.message.specs.Numbers.{num, eight}
use Rattle.message.specs.Counter.{mode_number, status_bytes, control_bytes}
use Rattle.message.specs.Messages.{network_bytes, time_bytes, unix_bytes}
use Rattle.message.specs.WritingExact.{in_four, status_spelled, control_spelled, network_spelled}
use Rattle.message.specs.WritingExact.{WritesExactly}
use Rattle.message.specs.declared.counter.Status.{Status}
use Rattle.message.specs.declared.counter.Control.{Control}
use Rattle.message.specs.declared.values.Network.{Network}
use Rattle.message.proofs.Fields.{num_and}

-- a number in four bytes
fours : (n : ℕ) (r : List ℕ) → four n r ≡ in_four n r
fours n r = (numbers_spelled 0 0 0 0 n r).four_of

eights : (n : ℕ) (r : List ℕ) → eight n r ≡ in_four (n / 4294967296) (in_four (n % 4294967296) r)
eights n r = rw (fours (n % 4294967296) r) (fours (n / 4294967296) _)

-- a bit's weight, and a value that counts where its flag is set
weight : (b : Bool) (n : ℕ) → num b * n ≡ cond b n 0
weight true n = omega arith
weight false n = omega arith

one : (b : Bool) → num b ≡ cond b 1 0
one true = refl
one false = refl

lamps : (set b : Bool) → num set * num b ≡ cond (set && b) 1 0
lamps set b = num_and set b ∙ one (set && b)

modes : (set : Bool) (n : ℕ) → num set * n * 2 ≡ cond set (n * 2) 0
modes true n = omega arith
modes false n = omega arith

volumes : (set : Bool) (n : ℕ) → two (num set * n) [] ≡ cond set (n / 256) 0 ∷ cond set (n % 256) 0 ∷ []
volumes true n = ap (λ (k : ℕ). two k []) (weight true n)
volumes false n = ap (λ (k : ℕ). two k []) (weight false n)

statuses : (s : Status) → status_bytes s ≡ status_spelled s
statuses s =
    rw (
      one s.feeding,
      one s.double,
      weight s.lamp 2,
      weight s.skipped 2,
      weight s.fault 4,
      fours s.leaf _,
    )

controls : (c : Control) → control_bytes c ≡ control_spelled c
controls c =
    rw (
      lamps c.flags.lamp c.lamp,
      modes c.flags.mode (mode_number c.mode),
      volumes c.flags.volume c.volume,
      one c.flags.lamp,
      weight c.flags.mode 2,
      weight c.flags.volume 4,
    )

networks : (n : Network) → network_bytes n ≡ network_spelled n
networks n =
    rw (
      weight n.app 8,
      weight n.testing 16,
      one n.softap,
      weight n.station 2,
      weight n.onboarding 4,
      weight n.binding 8,
      weight n.router 16,
      weight n.server 32,
    )

pub writes_exactly : (opaque : List ℕ) → WritesExactly opaque
writes_exactly opaque =
    record {
      empty = λ command. refl;
      information = λ timeout. refl;
      attributes = λ timeout a. ap (λ (l : List ℕ). take 64 opaque ++ two timeout l) (eights a (drop 64 opaque));
      secret = λ timeout a. ap (λ (l : List ℕ). take 64 opaque ++ two timeout l) (eights a (drop 64 opaque));
      control = λ c. ap (λ (l : List ℕ). 1 ∷ l) (controls c);
      query = refl;
      status = λ s. ap (λ (l : List ℕ). 3 ∷ l) (statuses s);
      report = λ s. ap (λ (l : List ℕ). 4 ∷ l) (statuses s);
      onboarding = λ w. refl;
      network = networks;
      module_reject = λ c. refl;
      box_reject = λ c. refl;
      time = λ t e. ap (λ u. time_bytes t (unix_bytes u)) e;
      seconds = λ t n e. ap (λ u. time_bytes t (unix_bytes u)) e ∙ ap (time_bytes t) (fours n []);
      announcement = λ size. fours size _;
      ready = λ piece. refl;
      piece = λ index total. refl;
    }
