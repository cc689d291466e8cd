-- What is read may be written, as both allow the same values and sizes, and is then read as the same. Assumes nothing.
use Prim.Native.Nat.{ℕ, ◌+◌, ◌-◌, ◌<◌, ◌≤◌, min}
use mathlib.Core.Path.{◌≡◌, refl, sym, ◌∙◌}
use mathlib.Core.Bool.{true}
use mathlib.Core.List.{List, [], tail-eq_of_cons-eq}
use native.Mathlib.Omega.{arith}
use borrow.Author.Tests.{lt-ltb, eqb-true, eq-eqb, le-leb}
use lib.Dec.{eqb}
use lib.ListN.{length, get_or, take, drop, length-append, length-take, length-drop}
use Rattle.base.proofs.Tests.{both}
use Rattle.base.specs.Numbers.{two_at}
use Rattle.message.specs.Commands.{table, profile_in, kind_of}
use Rattle.message.specs.Layouts.{fits, size_fits}
use Rattle.base.specs.Keys.{among}
use Rattle.message.specs.Messages.{command_in, message_in}
use Rattle.message.specs.WrittenRead.{Writable}
use Rattle.message.specs.ReadWritten.{opaque_of, ReadWritten, ReadsWritten}
use Rattle.message.specs.declared.values.Extra.TheVariants as extra
use Rattle.message.specs.declared.values.Message.{Message}
use Rattle.message.specs.declared.values.Message.TheVariants as message
use Rattle.message.proofs.Numbers.{value}
use Rattle.message.proofs.Accepted.{Accepted, accepted}
use Rattle.message.proofs.WrittenRead.{written_read}
use Rattle.message.proofs.ReadAgain.{empty_payload, opaque_none, read_again}

-- ---- the caller's data of device information
opaque_length : (p : List ℕ) (size : ℕ) → length p ≡ size
    → eqb (length (opaque_of 0x02 p)) (min 64 size + (size - 74)) ≡ true
opaque_length p size e = eq-eqb (length (opaque_of 0x02 p)) (min 64 size + (size - 74))
    (simp (length-append, length-take, length-drop, e))

-- ---- each message

module _ (p : List ℕ) (bytes : (i : ℕ) → get_or p i 0 < 256) where
  may_write : (m : Message) → Accepted (kind_of (command_in m)) (command_in m) p (message_in m)
      → Writable m (opaque_of (command_in m) p)
  unfolding table profile_in among size_fits fits
  may_write (message.Empty c) a =
      let e : p ≡ [] = empty_payload (kind_of c) p a.sized (tail-eq_of_cons-eq a.values) in
      record { listed = a.listed; sized = rw (e, opaque_none c) (rw e at a.sized); allows = refl }
  may_write (message.Information timeout extra.Absent) a = record
      { listed = refl; sized = opaque_length p 66 (value 1 a.values); allows = refl }
  may_write (message.Information timeout (extra.Attributes attributes)) a = record
      { listed = refl; sized = opaque_length p 74 (value 1 a.values); allows = refl }
  may_write (message.Information timeout (extra.AttributesAndSecret attributes)) a = record
      { listed = refl; sized = opaque_length p 106 (value 1 a.values); allows = refl }
  may_write (message.Control control) a = record { listed = refl; sized = refl; allows = refl }
  may_write message.Query a = record { listed = refl; sized = refl; allows = refl }
  may_write (message.Status status) a = record { listed = refl; sized = refl; allows = refl }
  may_write (message.Report status) a = record { listed = refl; sized = refl; allows = refl }
  may_write (message.Onboarding way) a = record { listed = refl; sized = refl; allows = refl }
  may_write (message.Network network) a = record
      { listed = refl; sized = refl; allows = lt-ltb network.strength 8 (omega (arith, value 7 a.values)) }
  may_write (message.ModuleReject code) a = record { listed = refl; sized = refl; allows = refl }
  may_write (message.BoxReject code) a = record { listed = refl; sized = refl; allows = refl }
  may_write (message.Time time) a = record { listed = refl; sized = refl; allows = refl }
  may_write (message.Announcement size) a =
      let counted : length p ≡ 4 + 2 + two_at p 4 + 0 = eqb-true _ _
      (both (eqb (length p) (4 + 2 + two_at p 4 + 0)) a.sized).0 in
      record {
        listed = refl;
        sized = le-leb (length (drop 6 p)) 65535 (omega (arith, length-drop 6 p, bytes 4, bytes 5));
        allows = refl;
      }
  may_write (message.Ready size) a =
      let most : length (take (two_at p 0) (drop 2 p)) ≤ 65535 = omega
      (arith, length-take (two_at p 0) (drop 2 p), bytes 0, bytes 1) in
      record { listed = refl; sized = le-leb _ 65535 most; allows = refl }
  may_write (message.Piece index total) a = record { listed = refl; sized = refl; allows = refl }

  -- the payload and what is written again are read alike
  again : (m : Message) → Accepted (kind_of (command_in m)) (command_in m) p (message_in m)
      → ReadWritten (command_in m) p m
  again m a =
      let w : Writable m (opaque_of (command_in m) p) = may_write m a in
      let written = written_read m (opaque_of (command_in m) p) w in
      let read = read_again p m a in
      record {
        command_is = refl;
        writable = w;
        message = written.message ∙ sym read.message;
        parts = written.parts ∙ sym read.parts;
      }

pub read_written : ReadsWritten
read_written command p bytes m e =
    let a : Accepted (kind_of command) command p (message_in m) = accepted e in
    let same : command ≡ command_in m = value 0 a.values in
    rw same (again p bytes m (rw same at a))
