-- A call that writes a message: its answer from the frame writer's, its refusals from its tests. Assumes nothing.
use Prim.Native.Nat.{ℕ, ◌+◌}
use mathlib.Core.Path.{◌≡◌, refl, ap, ◌∙◌}
use mathlib.Core.Bool.{Bool, true, false, cond}
use mathlib.Core.List.{List, [], ◌∷◌}
use native.Mathlib.Omega.{arith}
use borrow.Author.Tests.{le-ltb, lt-ltb}
use lib.Dec.{eqb}
use lib.ListN.{length}
use Rattle.base.specs.Rows.{Row, row}
use Rattle.base.specs.Keys.{among}
use Rattle.base.specs.Outcomes.{Output, output}
use Rattle.base.proofs.Asking.{asks_never, asks_either}
use Rattle.base.proofs.Keys.{agree}
use Rattle.base.proofs.Tests.{cond_same}
use Rattle.frame.specs.Calls.{write_of}
use Rattle.frame.proofs.WriterExact.{write_asked}
use Rattle.message.specs.Commands.{table, profile_in, kind_of}
use Rattle.message.specs.Layouts.{is_listed, fits, size_fits}
use Rattle.message.specs.Messages.{command_in, opaque_fits, allowed_in, payload_in}
use Rattle.message.specs.CommandLists.{empty_commands}
use Rattle.message.specs.SendingExact.{message_wire, SendsExactly, SendAsked, RefusesExactly}
use Rattle.message.specs.SendingExact.{TakesOpaque, EmptyOpaque, OpaqueExactly}
use Rattle.message.specs.declared.kind.Profile.{Profile}
use Rattle.message.specs.declared.values.Extra.TheVariants as extra
use Rattle.message.specs.declared.values.Message.{Message}
use Rattle.message.specs.declared.values.Message.TheVariants as message
use Rattle.message.proofs.CommandLists.{command_lists, every, unless}
use Rattle.message.proofs.Tests.{and_true, and_false}

pub send_exactly : SendsExactly
send_exactly limit m number flags opaque out w =
    let w-length = length (message_wire m number flags opaque) in
    let needed = length (payload_in m opaque) + 5 in
    record {
      payload = λ h. rw (w.listed, w.sized, w.allows, lt-ltb limit needed h);
      room = λ h r. rw (w.listed, w.sized, w.allows, le-ltb limit needed h, lt-ltb (length out) w-length r);
      written = λ h r. rw (w.listed, w.sized, w.allows, le-ltb limit needed h, le-ltb (length out) w-length r);
    }

-- the tests before PAYLOAD and ROOM do not depend on the output
pub send_asked : SendAsked
send_asked limit m number flags opaque =
    let answer : Output → Row = λ w. w.row in
    let written : List ℕ → Output = λ out. write_of limit (command_in m) number flags (payload_in m opaque) out in
    let refusal : ℕ → List ℕ → Output = λ n out. output (row n []) out in
    let allows : List ℕ → Output = λ out. cond (allowed_in m) (written out) (refusal 33 out) in
    let sized : List ℕ → Output = λ out. cond (opaque_fits m (length opaque)) (allows out) (refusal 32 out) in
    asks_either answer (is_listed (kind_of (command_in m))) sized (refusal 31)
    (asks_either answer (opaque_fits m (length opaque)) allows (refusal 32)
    (asks_either answer (allowed_in m) written (refusal 33)
    (write_asked limit (command_in m) number flags (payload_in m opaque))
    (asks_never (row 33 []) (λ e. omega arith)))
    (asks_never (row 32 []) (λ e. omega arith)))
    (asks_never (row 31 []) (λ e. omega arith))

pub refused_exactly : RefusesExactly
refused_exactly limit m number flags opaque out =
    record {
      unlisted = λ l. rw l;
      size = λ l s. rw (l, s);
      field = λ l s a. rw (l, s, a);
    }

-- ---- the three tests

plain : {takes : ℕ → Bool} {allows : Bool} (m : Message) → is_listed (kind_of (command_in m)) ≡ true
    → ((n : ℕ) → opaque_fits m n ≡ takes n) → allowed_in m ≡ allows → TakesOpaque m (command_in m) takes allows
plain m l t a = record { command_is = refl; listed = l; opaque = t; values = a }

-- an empty payload does not fit any other command
takes_none : (command : ℕ) → among command (0x04 ∷ empty_commands) ≡ false → size_fits (kind_of command) [] ≡ false
unfolding among table profile_in size_fits fits
takes_none command h =
    unless false h
    (every (λ c. cond (among c (0x04 ∷ empty_commands)) false (size_fits (kind_of c) [])) (λ _. false) refl
    (λ c none _. ap (λ (l : Profile). cond (among c (0x04 ∷ empty_commands)) false (size_fits l.kind [])) none
    ∙ cond_same (among c (0x04 ∷ empty_commands)) false) command)

-- a command with no payload
empty_opaque : (command : ℕ) → EmptyOpaque command
unfolding among table profile_in size_fits fits
empty_opaque command =
    record {
      command_is = refl;
      values = refl;
      listed = command_lists.listed command;
      empty = λ h n.
          let fits_none : size_fits (kind_of command) [] ≡ true =
          agree (λ c. size_fits (kind_of c) []) (λ _. true) (0x04 ∷ empty_commands) command refl h in
          rw fits_none (and_true (eqb n 0));
      others = λ h n. rw (takes_none command h) (and_false (eqb n 0));
    }

pub opaque_exactly : OpaqueExactly
unfolding table profile_in
opaque_exactly =
    record {
      empty = empty_opaque;
      information = λ t. plain (message.Information t extra.Absent) refl (λ n. refl) refl;
      attributes = λ t a. plain (message.Information t (extra.Attributes a)) refl (λ n. refl) refl;
      secret = λ t a. plain (message.Information t (extra.AttributesAndSecret a)) refl (λ n. refl) refl;
      control = λ c. plain (message.Control c) refl (λ n. refl) refl;
      query = plain message.Query refl (λ n. refl) refl;
      status = λ s. plain (message.Status s) refl (λ n. refl) refl;
      report = λ s. plain (message.Report s) refl (λ n. refl) refl;
      onboarding = λ w. plain (message.Onboarding w) refl (λ n. refl) refl;
      network = λ m. plain (message.Network m) refl (λ n. refl) refl;
      module_reject = λ c. plain (message.ModuleReject c) refl (λ n. refl) refl;
      box_reject = λ c. plain (message.BoxReject c) refl (λ n. refl) refl;
      time = λ t. plain (message.Time t) refl (λ n. refl) refl;
      announcement = λ s. plain (message.Announcement s) refl (λ n. refl) refl;
      ready = λ s. plain (message.Ready s) refl (λ n. refl) refl;
      piece = λ i t. plain (message.Piece i t) refl (λ n. refl) refl;
    }
