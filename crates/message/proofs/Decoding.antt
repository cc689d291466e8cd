-- Laws of reading: a payload's size as tests of its length, and reading by a command's profile. Assumes nothing.
use Prim.Native.Nat.{ℕ, zero, suc, ◌+◌}
use mathlib.Core.Path.{◌≡◌, refl, sym, ap}
use mathlib.Core.Bool.{Bool, true, false, cond, not, ◌&&◌}
use mathlib.Core.List.{List, [], ◌∷◌}
use native.Mathlib.Omega.{arith}
use lib.ListN.{length, get_or}
use lib.Dec.{eqb, leb, leb-zero, leb-suc-suc, eqb-suc-zero}
use Rattle.base.proofs.Keys.{among_none, among_next}
use Rattle.base.specs.Numbers.{two_at}
use Rattle.message.specs.Commands.{exactly, from, counted, kind_of}
use Rattle.base.specs.Keys.{among}
use Rattle.message.specs.Layouts.{sizes_of, chosen_of, fits, size_fits}
use Rattle.message.specs.Reading.{decode_as, decode_of}
use Rattle.message.specs.declared.kind.Kind.{Kind}
use Rattle.message.proofs.CommandLists.{sole_of, only}
use Rattle.message.proofs.Tests.{and_true}

-- ---- a payload's size, as tests of its length

pub fits_exactly : (sizes p : List ℕ) → fits (exactly sizes) p ≡ among (length p) sizes
unfolding fits
fits_exactly sizes p = refl

pub fits_from : (least : ℕ) (p : List ℕ) → fits (from least) p ≡ leb least (length p)
unfolding fits
fits_from least p = refl

pub fits_any : (p : List ℕ) → fits (from 0) p ≡ true
unfolding fits
fits_any p = leb-zero (length p)

nonempty : (n : ℕ) → leb 1 n ≡ not (eqb n 0)
nonempty zero = refl
nonempty (suc n) = rw (leb-suc-suc 0 n, leb-zero, eqb-suc-zero)

pub fits_some : (p : List ℕ) → fits (from 1) p ≡ not (eqb (length p) 0)
unfolding fits
fits_some p = nonempty (length p)

pub fits_counted : (before after : ℕ) (p : List ℕ)
    → fits (counted before after) p ≡ eqb (length p) (before + 2 + after + two_at p before)
unfolding fits
fits_counted before after p = ap (eqb (length p)) (omega arith)

pub size_fits_lem : (k : Kind) (p : List ℕ) → size_fits k p
    ≡ (fits (sizes_of k) p && fits (chosen_of k (get_or p 0 0)) p)
unfolding size_fits
size_fits_lem k p = refl

-- ---- a kind that has one size, or a least one

pub whole : (t : Bool) → cond t true false ≡ t
whole true = refl
whole false = refl

module _ (k : Kind) (p : List ℕ) (any : chosen_of k (get_or p 0 0) ≡ from 0) where
  pub sized_one : (n : ℕ) → sizes_of k ≡ exactly (n ∷ []) → eqb (length p) n ≡ size_fits k p
  sized_one n e = sym (simp (size_fits_lem, any, e, fits_any, fits_exactly, among_next, among_none, and_true, whole))

  pub sized_counted : (before after : ℕ) → sizes_of k ≡ counted before after
      → eqb (length p) (before + 2 + after + two_at p before) ≡ size_fits k p
  sized_counted before after e = sym (simp (size_fits_lem, any, e, fits_any, fits_counted, and_true))

-- ---- a command's profile

-- a payload is read by the kind of its command, and a kind that has one command reads as that one
pub decode_kind : (k : Kind) (command : ℕ) (p : List ℕ) → kind_of command ≡ k
    → decode_of command p ≡ decode_as k (sole_of k command) p
decode_kind k command p e = rw e (ap (λ (c : ℕ). decode_as k c p) (only command k _ refl e))

pub decode_sole : (command : ℕ) (p : List ℕ)
    → decode_of command p ≡ decode_as (kind_of command) (sole_of (kind_of command) command) p
decode_sole command p = decode_kind (kind_of command) command p refl

-- what reading by a command needs, where a kind has one size
pub ruleset decoding = (decode_sole, size_fits_lem, fits_exactly, fits_any, among_next, among_none)
