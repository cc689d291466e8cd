-- A payload is read exactly where its command is listed, its size fits and its values are allowed. Assumes nothing.
use Prim.Native.Nat.{ℕ}
use mathlib.Core.Path.{◌≡◌, refl, sym, ap, ◌∙◌}
use mathlib.Core.Bool.{true}
use mathlib.Core.List.{List, ◌∷◌}
use Rattle.base.specs.Rows.{Row, row}
use Rattle.message.specs.Parts.{bytes_in}
use Rattle.message.specs.Commands.{kind_of}
use Rattle.message.specs.Layouts.{is_listed, allowed, values_of, parts_in, size_fits}
use Rattle.message.specs.Messages.{command_in, read_in}
use Rattle.message.specs.Table.{Read, got, refusal}
use Rattle.message.specs.Reading.{decode_as, decode_of}
use Rattle.message.specs.WrittenRead.{opaque_parts, Decodes}
use Rattle.message.specs.declared.kind.Kind.{Kind}
use Rattle.message.specs.declared.values.Message.{Message}
use Rattle.message.proofs.Tests.{passed}

pub record Accepted (k : Kind) (command : ℕ) (p vs : List ℕ) : Type 0 where
  pub listed : is_listed k ≡ true
  pub sized : size_fits k p ≡ true
  pub allows : allowed k p ≡ true
  pub values : command ∷ values_of k p ≡ vs

module _ {k : Kind} {command : ℕ} {p vs : List ℕ} where
  pub accept : Accepted k command p vs → decode_as k command p ≡ got vs (parts_in k p)
  accept a = simp (a.listed, a.sized, a.allows, a.values)

  pub accepted : (decode_as k command p).row ≡ row 0 vs → Accepted k command p vs
  accepted e =
      let t = passed (λ (r : Read). r.row) refusal (λ n. refl) (is_listed k) (size_fits k p) (allowed k p)
      (got (command ∷ values_of k p) (parts_in k p)) e in
      record {
        listed = t.0;
        sized = t.1;
        allows = t.2;
        values = ap (λ (r : Read). r.row.values) (sym t.3) ∙ ap (λ (r : Row). r.values) e;
      }

-- ---- what was written, with the caller's data

-- the payload is accepted with these values, and has the parts of the caller's data
pub record Back (k : Kind) (command : ℕ) (p vs opaque : List ℕ) : Type 0 where
  pub values : Accepted k command p vs
  pub parts : bytes_in (parts_in k p) p ≡ opaque_parts command opaque

-- what is accepted is read
pub read_back :
    (m : Message) (opaque : List ℕ) {p : List ℕ}
    → Back (kind_of (command_in m)) (command_in m) p (read_in m) opaque → Decodes m opaque (command_in m) p
read_back m opaque {p} b =
    let read : decode_of (command_in m) p ≡ got (read_in m) (parts_in (kind_of (command_in m)) p) = accept b.values in
    record { message = ap (λ (r : Read). r.row) read; parts = ap (λ (r : Read). bytes_in r.parts p) read ∙ b.parts }
