-- Each part that reading gives lies in its payload, by the accepted sizes, and is returned whole. Assumes nothing.
use Prim.Native.Nat.{ℕ, ◌+◌, ◌≤◌, min}
use mathlib.Core.Path.{◌≡◌}
use mathlib.Core.Bool.{true}
use mathlib.Core.List.{List, [], ◌∷◌}
use native.Mathlib.Omega.{arith}
use borrow.Author.Tests.{eqb-true, leb-true}
use denote.Ref.{Bor}
use lib.ListN.{length}
use lib.Dec.{eqb}
use Rattle.base.proofs.Tests.{by_test, both}
use Rattle.base.proofs.Keys.{among_holds}
use Rattle.message.proofs.CommandLists.{by_kind}
use Rattle.base.specs.Keys.{among}
use Rattle.message.specs.Parts.{texts_and, EachPlace, PartAt}
use Rattle.message.specs.Commands.{kind_of}
use Rattle.message.specs.Layouts.{is_listed, sizes_of, allowed, parts_in, fits, size_fits}
use Rattle.message.specs.Table.{Read}
use Rattle.message.specs.PartsWithin.{PartsWithin, WholePart, PartReturned}
use Rattle.message.specs.declared.kind.Kind.{Kind}
use Rattle.message.specs.declared.kind.Kind.TheVariants as kind
use Rattle.message.specs.declared.parts.Place.{Place}

abbrev Within : List ℕ → Place → Type 0
Within p s = s.start + s.size ≤ length p

-- of a payload that has one of its kind's sizes
abbrev Fitting : Kind → Type 0
Fitting k = (p : List ℕ) → fits (sizes_of k) p ≡ true → EachPlace (Within p) (parts_in k p)

-- 02 has texts and key in 64 bytes, and the secret in its longest size
information_within : Fitting kind.Information
unfolding among fits
information_within p h =
    let least : 66 ≤ length p = among_holds (λ n. 66 ≤ n) (length p) (66 ∷ 74 ∷ 106 ∷ []) (omega arith) h in
    by_test (λ s. EachPlace (Within p) (texts_and s)) (eqb (length p) 106) (λ e. omega (arith, eqb-true))
    (λ _. omega arith)

kind_within : (k : Kind) → Fitting k
unfolding among fits
kind_within =
    by_kind Fitting (λ p h. omega arith) (λ p h. omega arith) information_within (λ p h. omega arith)
    (λ p h. omega arith)
    (λ p h. omega arith) (λ p h. omega arith) (λ p h. omega arith) (λ p h. omega arith) (λ p h. omega arith)
    (λ p h. omega arith)
    (λ p h. omega (arith, eqb-true)) (λ p h. omega (arith, eqb-true)) (λ p h. omega (arith, leb-true))

pub parts_within : PartsWithin
unfolding size_fits
parts_within command p =
    let k : Kind = kind_of command in
    by_test (λ (r : Read). EachPlace (Within p) r.parts) (is_listed k)
    (λ _. by_test (λ (r : Read). EachPlace (Within p) r.parts) (size_fits k p)
    (λ e. by_test (λ (r : Read). EachPlace (Within p) r.parts) (allowed k p)
    (λ _. kind_within k p (both (fits (sizes_of k) p) e).0) (λ _. omega arith))
    (λ _. omega arith))
    (λ _. omega arith)

-- a place that lies in the payload is not clipped
whole : (payload : Bor (List ℕ)) (s : Place) → Within payload.now s → (part : Bor (List ℕ)) → PartAt payload part s
    → WholePart payload part s
whole payload s h part found =
    let front : min s.start (length payload.now) ≡ s.start = omega arith in
    record { part_is = rw front at found; within = h }

pub part_returned : PartReturned
part_returned command payload =
    let w = parts_within command payload.now in (
      whole payload _ w.0,
      whole payload _ w.1,
      whole payload _ w.2,
      whole payload _ w.3,
      whole payload _ w.4,
      whole payload _ w.5,
      whole payload _ w.6,
      whole payload _ w.7,
    )
