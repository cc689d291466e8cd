-- The replies of the box: the frame writer writes them, and reading accepts each as a message. Assumes nothing.
use Prim.Native.Nat.{ℕ, ◌+◌}
use mathlib.Core.Path.{◌≡◌, refl, sym, subst}
use mathlib.Core.Bool.{cond, ◌&&◌}
use mathlib.Core.List.{List, [], ◌∷◌}
use lib.ListN.{get_or}
use lib.Dec.{eqb}
use Rattle.base.proofs.Tests.{by_test, either_way}
use Rattle.base.specs.Keys.{among}
use Rattle.message.specs.Commands.{table, profile_in, kind_of, from_box, owed_of}
use Rattle.message.specs.Layouts.{code_number, is_listed, allowed, values_of, fits, size_fits}
use Rattle.message.specs.Table.{Read}
use Rattle.message.specs.Owed.{handed, owed_after, code_for}
use Rattle.message.specs.Reading.{decode_of}
use Rattle.message.specs.RepliesRead.{BoxSends, RepliesAreRead}
use Rattle.message.specs.declared.kind.Kind.{Kind}
use Rattle.message.specs.declared.kind.Cause.{Cause}
use Rattle.message.specs.declared.kind.Cause.TheVariants as cause
use Rattle.message.specs.declared.kind.Owed.{Owed}
use Rattle.message.specs.declared.kind.Owed.TheVariants as owes
use Rattle.message.specs.declared.values.Message.TheVariants as message
use Rattle.base.proofs.Keys.{Each, among_holds}
use Rattle.message.proofs.CommandLists.{command_lists}

-- ---- what is owed is read

abbrev Rejects : Cause → Type 0
Rejects why = BoxSends 0x12 (code_number (code_for why) ∷ []) (message.BoxReject (code_for why))

abbrev Replied : ℕ → Owed → Type 0
Replied command owes.Nothing = Unit
Replied command owes.AskInformation = Unit
Replied command owes.AskStatus = Unit
Replied command owes.AskBegin = Unit
Replied command owes.AskStore = Unit
Replied command owes.AskStop = Unit
Replied command (owes.Acknowledge c) = (c ≡ command + 1) × BoxSends c [] (message.Empty c)
Replied command (owes.Reject why) = Rejects why

abbrev replied : List ℕ
replied = 0x01 ∷ 0x03 ∷ 0x07 ∷ 0x0D ∷ 0x0F ∷ 0x19 ∷ 0x1D ∷ 0x1F ∷ []

abbrev OwnRead : ℕ → Type 0
OwnRead c = Replied c (owed_of c)

-- the commands that are owed a reply
profiles_read : Each OwnRead replied
unfolding table profile_in among fits size_fits
profiles_read =
    let control : OwnRead 0x03 = (refl, (refl, refl)) in
    let heartbeat : OwnRead 0x07 = (refl, (refl, refl)) in
    let network : OwnRead 0x0D = (refl, (refl, refl)) in
    let restart : OwnRead 0x0F = (refl, (refl, refl)) in
    (tt, (control, (heartbeat, (network, (restart, (tt, (tt, (tt, tt))))))))

reject_read : (why : Cause) → Rejects why
unfolding table profile_in among fits size_fits
reject_read cause.Sum = (refl, refl)
reject_read cause.Command = (refl, refl)
reject_read cause.Size = (refl, refl)
reject_read cause.Field = (refl, refl)
reject_read cause.BoxCommand = (refl, refl)

owed_read : (command : ℕ) → OwnRead command
owed_read command =
    either_way (among command replied) (among_holds OwnRead command replied profiles_read)
    (λ h. subst (Replied command) (sym (command_lists.no_reply command h)) tt)

module _ (command : ℕ) where
  abbrev Owes_read : Read → Type 0
  Owes_read r = Replied command (owed_after command r.row)

  unless_box : (why : Cause) (d : Owed) → Replied command d
      → Replied command
      (cond (from_box command) (owes.Reject why) (cond (handed (owed_of command)) (owed_of command) d))
  unless_box why d a =
      by_test (Replied command) (from_box command) (λ _. reject_read why)
      (λ _. by_test (Replied command) (handed (owed_of command)) (λ _. owed_read command) (λ _. a))

  owes_read : (p : List ℕ) → Owes_read (decode_of command p)
  owes_read p =
      let k : Kind = kind_of command in
      by_test Owes_read (is_listed k)
      (λ _. by_test Owes_read (size_fits k p)
      (λ _. by_test Owes_read (allowed k p)
      (λ _. unless_box _ _
      (by_test (Replied command) (eqb command 0x03 && eqb (get_or (values_of k p) 0 0) 2) (λ _. tt)
      (λ _. owed_read command)))
      (λ _. unless_box _ _ (reject_read cause.Field)))
      (λ _. unless_box _ _ (reject_read cause.Size)))
      (λ _. unless_box _ _ (reject_read cause.Command))

pub replies_are_read : RepliesAreRead
replies_are_read command p =
    record {
      acknowledged = λ c e. rw e at (owes_read command p);
      rejected = λ why e. rw e at (owes_read command p);
      wrong_sum_lem = reject_read cause.Sum;
    }
