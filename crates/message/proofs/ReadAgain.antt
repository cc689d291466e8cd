-- A payload that is read is its message, with the caller's data in it, and nothing to ignore. Assumes nothing.
use Prim.Native.Nat.{ℕ, ◌+◌, ◌-◌, ◌≤◌}
use mathlib.Core.Path.{◌≡◌, refl, sym, ap, ◌∙◌}
use mathlib.Core.Bool.{true, false, cond, true≢false}
use mathlib.Core.List.{List, [], ◌∷◌, cons≢nil, tail-eq_of_cons-eq}
use native.Mathlib.Omega.{arith}
use borrow.Author.Tests.{eqb-true, eqb-false}
use lib.Dec.{eqb, eqb-suc-zero}
use lib.ListN.{length, get_or, take, drop, length-drop, drop_of_length-le}
use lib.Seq.{length-take-le, take_all, take-nil, drop-nil, drop_at}
use Rattle.base.specs.Numbers.{two_at}
use Rattle.base.specs.Keys.{among}
use Rattle.message.specs.Counter.{control_values, control_in}
use Rattle.message.specs.Parts.{place, nowhere, bytes_of, bytes_in}
use Rattle.message.specs.Commands.{table, profile_in, kind_of}
use Rattle.message.specs.Layouts.{values_of, parts_in, fits, size_fits}
use Rattle.message.specs.Messages.{command_in, message_in, read_in}
use Rattle.message.specs.WrittenRead.{opaque_parts, Decodes}
use Rattle.message.specs.ReadWritten.{opaque_of}
use Rattle.message.specs.declared.counter.Control.{Control}
use Rattle.message.specs.declared.kind.Kind.{Kind}
use Rattle.message.specs.declared.kind.Kind.TheVariants as kind
use Rattle.message.specs.declared.values.Message.{Message}
use Rattle.message.specs.declared.values.Message.TheVariants as message
use Rattle.base.proofs.Tests.{either_way, both, cond_same}
use Rattle.base.proofs.Keys.{among_holds}
use Rattle.message.proofs.CommandLists.{by_kind}
use Rattle.message.proofs.Numbers.{value}
use Rattle.message.proofs.Fields.{effective_control_lem}
use Rattle.message.proofs.Information.{in_front}
use Rattle.message.proofs.Accepted.{Accepted, read_back}
use Rattle.message.proofs.WrittenRead.{no_parts_lem, alone}

-- ---- no payload

zero_length : (p : List ℕ) → (eqb (length p) 0 ≡ false → ⊥) → p ≡ []
zero_length [] h = refl
zero_length (x ∷ p) h = absurd (h (eqb-suc-zero (length p)))

-- a payload that has no values is empty
pub empty_payload : (k : Kind) (p : List ℕ) → size_fits k p ≡ true → values_of k p ≡ [] → p ≡ []
unfolding size_fits fits among
empty_payload =
    by_kind (λ k. (p : List ℕ) → size_fits k p ≡ true → values_of k p ≡ [] → p ≡ [])
    (λ p h e. absurd (true≢false (sym h))) (λ p h e. zero_length p (λ q. true≢false (sym (rw q at h))))
    (λ p h e. absurd (cons≢nil e)) (λ p h e. absurd (cons≢nil e)) (λ p h e. zero_length p (λ q. cons≢nil (rw q at e)))
    (λ p h e. absurd (cons≢nil e)) (λ p h e. absurd (cons≢nil e)) (λ p h e. absurd (cons≢nil e))
    (λ p h e. absurd (cons≢nil e))
    (λ p h e. absurd (cons≢nil e)) (λ p h e. absurd (cons≢nil e)) (λ p h e. absurd (cons≢nil e))
    (λ p h e. absurd (cons≢nil e))
    (λ p h e. absurd (cons≢nil e))

pub opaque_none : (c : ℕ) → opaque_of c [] ≡ []
opaque_none c = simp (take-nil, drop-nil, cond_same)

-- ---- values

-- the control of a payload that is read as one
pub control_read :
    (p : List ℕ) (c : Control) → Accepted kind.Action 0x03 p (0x03 ∷ 1 ∷ control_in c)
    → control_values (drop 1 p) ≡ control_in c
control_read p c a =
    let first : get_or p 0 0 ≡ 1 = value 1 a.values in
    let values : cond (eqb (get_or p 0 0) 1) (control_values (drop 1 p)) [] ≡ control_in c =
    ap (λ (l : List ℕ). drop 2 l)
    a.values in
    rw first at values

-- ---- parts of device information

-- what its size is
record Sized (n : ℕ) : Type 0 where
  least : 66 ≤ n
  short : (n ≡ 106 → ⊥) → n ≤ 74
  most : n ≤ 106

module _ (p : List ℕ) (s : Sized (length p)) where
  text : (start count : ℕ) → start + count ≤ 64 → bytes_of (place start count) p ≡ take count
      (drop start (opaque_of 0x02 p))
  text start count h = sym (in_front p (drop 74 p) 64 start count h (omega arith))

  -- all bytes after the numbers are the caller's data
  last : bytes_of (cond (eqb (length p) 106) (place 74 32) nowhere) p ≡ drop 64 (opaque_of 0x02 p)
  last =
      rw (drop_at (take 64 p) (drop 74 p) 64 (length-take-le 64 p (omega arith)))
      (either_way (eqb (length p) 106)
      (λ e. rw e (take_all 32 (drop 74 p) (omega (arith, length-drop 74 p))))
      (λ e. rw e (sym (drop_of_length-le p {i = 74} (s.short (eqb-false _ _ e))))))

  information_same : bytes_in (parts_in kind.Information p) p ≡ opaque_parts 0x02 (opaque_of 0x02 p)
  information_same =
      cc (
        text 0 8 (omega arith),
        text 8 8 (omega arith),
        text 16 8 (omega arith),
        text 24 8 (omega arith),
        text 32 32 (omega arith),
        last,
      )

-- ---- each message

-- only a control has values that may be ignored, and each part is the caller's data
record Same (p : List ℕ) (m : Message) : Type 0 where
  values : read_in m ≡ message_in m
  parts : bytes_in (parts_in (kind_of (command_in m)) p) p ≡ opaque_parts (command_in m) (opaque_of (command_in m) p)

same : (p : List ℕ) (m : Message) → Accepted (kind_of (command_in m)) (command_in m) p (message_in m) → Same p m
unfolding table profile_in among size_fits fits
same p (message.Empty c) a =
    let e : p ≡ [] = empty_payload (kind_of c) p a.sized (tail-eq_of_cons-eq a.values) in
    record {
      values = refl;
      parts = rw e (no_parts_lem (parts_in (kind_of c) []) c ∙ ap (opaque_parts c) (sym (opaque_none c)));
    }
same p (message.Information timeout more) a =
    let size = (both (among (length p) (66 ∷ 74 ∷ 106 ∷ [])) a.sized).0 in
    record {
      values = refl;
      parts = information_same p (among_holds Sized (length p) (66 ∷ 74 ∷ 106 ∷ []) (omega arith) size);
    }
same p (message.Control control) a =
    record {
      values = ap (λ (l : List ℕ). 0x03 ∷ 1 ∷ l) (effective_control_lem (drop 1 p) control (control_read p control a));
      parts = refl;
    }
same p message.Query a = record { values = refl; parts = refl }
same p (message.Status status) a = record { values = refl; parts = refl }
same p (message.Report status) a = record { values = refl; parts = refl }
same p (message.Onboarding way) a = record { values = refl; parts = refl }
same p (message.Network network) a = record { values = refl; parts = refl }
same p (message.ModuleReject code) a = record { values = refl; parts = refl }
same p (message.BoxReject code) a = record { values = refl; parts = refl }
same p (message.Time time) a = record { values = refl; parts = refl }
same p (message.Announcement size) a =
    let counted : length p ≡ 4 + 2 + two_at p 4 + 0 = eqb-true _ _
    (both (eqb (length p) (4 + 2 + two_at p 4 + 0)) a.sized).0 in
    record {
      values = refl;
      parts = ap (λ (l : List ℕ). alone l []) (take_all (two_at p 4) (drop 6 p) (omega (arith, length-drop 6 p)));
    }
same p (message.Ready piece) a = record { values = refl; parts = refl }
same p (message.Piece index total) a =
    record {
      values = refl;
      parts = ap (alone []) (take_all (length p - 4) (drop 4 p) (omega (arith, length-drop 4 p)));
    }

-- the payload has what a reader of its message is to find
pub read_again :
    (p : List ℕ) (m : Message) → Accepted (kind_of (command_in m)) (command_in m) p (message_in m)
    → Decodes m (opaque_of (command_in m) p) (command_in m) p
read_again p m a =
    let s = same p m a in
    read_back m (opaque_of (command_in m) p) (record { values = rw s.values a; parts = s.parts })
