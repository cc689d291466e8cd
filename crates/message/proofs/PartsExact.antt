-- The places of the parts: those of the kind where a payload is read, and none elsewhere. Assumes nothing.
use Prim.Native.Nat.{ℕ, ◌-◌}
use mathlib.Core.Path.{◌≡◌, refl, ap, ◌∙◌}
use mathlib.Core.Bool.{true, false, cond}
use mathlib.Core.List.{List, [], ◌∷◌}
use mathlib.Core.Logic.{◌≢◌}
use native.Mathlib.Omega.{arith}
use lib.ListN.{length, replicate}
use Rattle.base.specs.Keys.{among}
use Rattle.base.proofs.Tests.{by_test, cond_same}
use Rattle.message.specs.Parts.{no_parts}
use Rattle.message.specs.Commands.{table, profile_in, kind_of}
use Rattle.message.specs.Layouts.{is_listed, allowed, parts_in, fits, size_fits}
use Rattle.message.specs.Table.{Read}
use Rattle.message.specs.Reading.{decode_as}
use Rattle.message.specs.PartsExact.{places_in, PartsExactly, WorkedParts}
use Rattle.message.specs.declared.kind.Kind.{Kind}
use Rattle.message.specs.declared.kind.Kind.TheVariants as kind
use Rattle.message.specs.declared.kind.Profile.{Profile}
use Rattle.message.proofs.CommandLists.{every, unless}
use Rattle.message.proofs.Decoding.{size_fits_lem, fits_any, fits_exactly}
use Rattle.message.proofs.ReadingExact.{announced, ready_sized, piece_sized}

abbrev None : Read → Type 0
None r = places_in r.parts ≡ replicate 16 0

abbrev Spared : Read → Type 0
Spared r = r.row.number ≢ 0 → None r

module _ (k : Kind) (command : ℕ) (p : List ℕ) where
  -- what is read has its kind's
  read_parts : is_listed k ≡ true → size_fits k p ≡ true → allowed k p ≡ true → (decode_as k command p).parts
      ≡ parts_in k p
  read_parts l s a = rw (l, s, a)

  -- what is refused has none
  refused_parts : Spared (decode_as k command p)
  refused_parts =
      by_test Spared (is_listed k) (λ _. by_test Spared (size_fits k p) (λ _. by_test Spared (allowed k p)
      (λ _ h. absurd (h refl)) (λ _ _. refl)) (λ _ _. refl)) (λ _ _. refl)

  -- a kind that has none gives none
  no_parts_lem : parts_in k p ≡ no_parts → None (decode_as k command p)
  no_parts_lem e =
      by_test None (is_listed k) (λ _. by_test None (size_fits k p) (λ _. by_test None (allowed k p)
      (λ _. ap places_in e) (λ _. refl)) (λ _. refl)) (λ _. refl)

abbrev parted : List ℕ
parted = 0x02 ∷ 0x19 ∷ 0x1B ∷ 0x1D ∷ []

no_part : (c : ℕ) (p : List ℕ) → among c parted ≡ false → parts_in (kind_of c) p ≡ no_parts
unfolding among table profile_in
no_part c p h =
    unless no_parts h
    (every (λ c. cond (among c parted) no_parts (parts_in (kind_of c) p)) (λ _. no_parts) refl
    (λ c none _. ap (λ (l : Profile). cond (among c parted) no_parts (parts_in l.kind p)) none ∙ cond_same
    (among c parted) no_parts) c)

pub parts_exactly : PartsExactly
unfolding table profile_in among
parts_exactly =
    let informed : (n : ℕ) (p : List ℕ) → length p ≡ n → among n (66 ∷ 74 ∷ 106 ∷ []) ≡ true
    → places_in (decode_as kind.Information 0x02 p).parts ≡ places_in (parts_in kind.Information p) =
    λ n p h one. ap places_in
    (read_parts kind.Information 0x02 p refl (simp (size_fits_lem, fits_exactly, fits_any, h, one)) refl) in
    record {
      information = λ p h. informed 66 p h refl ∙ rw h;
      attributes = λ p h. informed 74 p h refl ∙ rw h;
      secret = λ p h. informed 106 p h refl ∙ rw h;
      announcement = λ w x y z h l p e. ap places_in
          (read_parts kind.Announcement 0x19 (w ∷ x ∷ y ∷ z ∷ h ∷ l ∷ p) refl (announced w x y z h l p e) refl);
      ready = λ h l p e. ap places_in (read_parts kind.Ready 0x1B (h ∷ l ∷ p) refl (ready_sized h l p e) refl);
      piece = λ a b c d p.
          let after : length (a ∷ b ∷ c ∷ d ∷ p) - 4 ≡ length p = omega arith in
          ap places_in (read_parts kind.Piece 0x1D (a ∷ b ∷ c ∷ d ∷ p) refl (piece_sized a b c d p) refl) ∙ rw after;
      refused = λ c p. refused_parts (kind_of c) c p;
      others = λ c p h. no_parts_lem (kind_of c) c p (no_part c p h);
    }

pub worked_parts : WorkedParts
unfolding among table profile_in size_fits fits
worked_parts =
    record {
      information = refl;
      with_attributes = refl;
      with_secret = refl;
      announcement = refl;
      ready = refl;
      piece = refl;
      time = refl;
      refused = refl;
    }
