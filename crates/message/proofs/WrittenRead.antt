-- What may be written is read as the same message, with the same parts. Assumes nothing.
use Prim.Native.Nat.{ℕ, ◌+◌, ◌-◌, ◌≤◌}
use mathlib.Core.Path.{◌≡◌, refl, sym, ap, ◌∙◌}
use mathlib.Core.Bool.{true, cond, ◌&&◌}
use mathlib.Core.List.{List, [], ◌∷◌}
use native.Mathlib.Omega.{arith}
use borrow.Author.Tests.{eqb-true, eq-eqb, le-leb}
use lib.Dec.{eqb}
use lib.ListN.{length, length-append}
use lib.Seq.{take_at, take-length, take_all, take-nil, drop-nil}
use Rattle.base.specs.Numbers.{two, two_at}
use Rattle.base.proofs.Tests.{both, cond_same}
use Rattle.message.specs.Parts.{no_parts, bytes_in}
use Rattle.message.specs.Commands.{from, counted, table, profile_in, kind_of}
use Rattle.message.specs.Layouts.{is_listed, allowed, values_of, parts_in, fits, size_fits}
use Rattle.message.specs.Messages.{unix_in, time_bytes, unix_bytes, command_in, read_in, payload_in}
use Rattle.message.specs.Table.{Read, got, refusal}
use Rattle.base.specs.Keys.{among}
use Rattle.message.specs.Reading.{decode_as}
use Rattle.message.specs.WrittenRead.{Writable, opaque_parts, WrittenRead}
use Rattle.message.specs.declared.kind.Kind.{Kind}
use Rattle.message.specs.declared.kind.Kind.TheVariants as kind
use Rattle.message.specs.declared.parts.Parts.{Parts}
use Rattle.std.specs.Prelude.{Option, None, Some}
use Rattle.message.specs.declared.values.Message.{Message}
use Rattle.message.specs.declared.values.Message.TheVariants as message
use Rattle.base.proofs.Lists.{no_bytes, all_same}
use Rattle.base.proofs.Numbers.{two_after, two_back}
use Rattle.message.proofs.Fields.{status_back, status_allowed_lem, control_back, control_allowed_lem, network_back}
use Rattle.message.proofs.Fields.{way_allowed_lem, code_allowed_lem}
use Rattle.message.proofs.Information.{information_back}
use Rattle.message.proofs.Accepted.{Accepted, accepted, Back, read_back}
use Rattle.message.proofs.CommandLists.{by_kind}

-- ---- no payload

-- what an empty payload is read as
pub empty_read : (k : Kind) (c : ℕ)
    → decode_as k c [] ≡ cond (is_listed k) (cond (size_fits k []) (got (c ∷ []) no_parts) (refusal 32)) (refusal 31)
unfolding size_fits fits among
empty_read =
    by_kind (λ k. (c : ℕ) → decode_as k c [] ≡ cond (is_listed k)
    (cond (size_fits k []) (got (c ∷ []) no_parts) (refusal 32)) (refusal 31))
    (λ c. refl) (λ c. refl) (λ c. refl) (λ c. refl) (λ c. refl) (λ c. refl) (λ c. refl) (λ c. refl) (λ c. refl)
    (λ c. refl)
    (λ c. refl) (λ c. refl) (λ c. refl) (λ c. refl)

empty_accepted : (k : Kind) (c : ℕ) → is_listed k ≡ true → size_fits k [] ≡ true → Accepted k c [] (c ∷ [])
empty_accepted k c l h =
    let read : decode_as k c [] ≡ got (c ∷ []) no_parts = rw (empty_read k c, l, h) in
    accepted (ap (λ (r : Read). r.row) read)

-- an empty payload has no parts, and neither has empty data of the caller
pub no_parts_lem : (s : Parts) (c : ℕ) → bytes_in s [] ≡ opaque_parts c []
no_parts_lem s c = simp (take-nil, drop-nil, cond_same)

-- the parts where only a check code or data is there
abbrev pub alone : List ℕ → List ℕ → List (List ℕ)
alone code piece = [] ∷ [] ∷ [] ∷ [] ∷ [] ∷ [] ∷ code ∷ piece ∷ []

-- ---- sizes

module _ (p : List ℕ) where
  any_size : fits (from 0) p ≡ true
  unfolding fits
  any_size = le-leb 0 (length p) (omega arith)

  least_size : (least : ℕ) → least ≤ length p → (fits (from least) p && fits (from 0) p) ≡ true
  unfolding fits
  least_size least h = rw (le-leb least (length p) h) any_size

  counted_size : (before after : ℕ) → length p ≡ before + 2 + two_at p before + after
      → (fits (counted before after) p && fits (from 0) p) ≡ true
  unfolding fits
  counted_size before after h = rw (eq-eqb (length p) (before + 2 + two_at p before + after) h) any_size

-- ---- each message

plain :
    {k : Kind} {c : ℕ} {p vs opaque : List ℕ} → is_listed k ≡ true → size_fits k p ≡ true
    → bytes_in (parts_in k p) p ≡ opaque_parts c opaque
    → allowed k p ≡ true → c ∷ values_of k p ≡ vs → Back k c p vs opaque
plain l s parts a v = record { values = record { listed = l; sized = s; allows = a; values = v }; parts = parts }

back : (m : Message) (opaque : List ℕ) → Writable m opaque
    → Back (kind_of (command_in m)) (command_in m) (payload_in m opaque) (read_in m) opaque
unfolding table profile_in among size_fits fits
back (message.Empty c) opaque w =
    let size = both (eqb (length opaque) 0) w.sized in
    let none : opaque ≡ [] = no_bytes opaque (eqb-true (length opaque) 0 size.0) in
    record {
      values = empty_accepted (kind_of c) c w.listed size.1;
      parts = no_parts_lem (parts_in (kind_of c) []) c ∙ ap (opaque_parts c) (sym none);
    }
back (message.Information timeout more) opaque w = information_back timeout more opaque w.sized
back (message.Control control) opaque w =
    plain refl refl refl (control_allowed_lem control)
    (ap (λ (l : List ℕ). 0x03 ∷ 1 ∷ l) (control_back control))
back message.Query opaque w = plain refl refl refl refl refl
back (message.Status status) opaque w =
    plain refl refl refl (status_allowed_lem status) (ap (λ (l : List ℕ). 0x04 ∷ 3 ∷ l) (status_back status))
back (message.Report status) opaque w =
    plain refl refl refl (status_allowed_lem status) (ap (λ (l : List ℕ). 0x05 ∷ 4 ∷ l) (status_back status))
back (message.Onboarding way) opaque w = plain refl refl refl (way_allowed_lem way) refl
back (message.Network network) opaque w = plain refl refl refl refl
    (ap (λ (l : List ℕ). 0x0D ∷ l) (network_back network w.allows))
back (message.ModuleReject code) opaque w = plain refl refl refl (code_allowed_lem code) refl
back (message.BoxReject code) opaque w = plain refl refl refl (code_allowed_lem code) refl
back (message.Time time) opaque w = time_back time.unix
  where
    time_back : (u : Option ℕ) → Back kind.Time 0x18 (time_bytes time (unix_bytes u))
        (0x18 ∷ time.year ∷ time.month ∷ time.day ∷ time.hour ∷ time.minute ∷ time.second ∷ unix_in u) opaque
    time_back None = plain refl refl refl refl (all_same _ _ (omega arith))
    time_back (Some seconds) = plain refl refl refl refl (all_same _ _ (omega arith))
back (message.Announcement size) opaque w =
    plain refl (counted_size (payload_in (message.Announcement size) opaque) 4 0 (omega arith))
    (ap (λ (l : List ℕ). alone l []) (rw (two_back (length opaque)) (take-length opaque))) refl
    (all_same _ _ (omega arith))
back (message.Ready size) opaque w =
    plain refl
    (counted_size (payload_in (message.Ready size) opaque) 0 2 (omega (arith, length-append opaque (two size []))))
    (ap (λ (l : List ℕ). alone l []) (take_at opaque (two size []) _ (sym (two_back (length opaque))))) refl
    (rw (
      two_back (length opaque),
      two_after (two (length opaque) opaque) {k = 2 + length opaque} (omega arith) size [],
    ))
back (message.Piece index total) opaque w =
    plain refl (least_size (payload_in (message.Piece index total) opaque) 4 (omega arith))
    (ap (alone []) (take_all (length (payload_in (message.Piece index total) opaque) - 4) opaque (omega arith))) refl
    (all_same _ _ (omega arith))

pub written_read : WrittenRead
written_read m opaque w = read_back m opaque (back m opaque w)
