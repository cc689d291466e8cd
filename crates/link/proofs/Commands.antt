-- What may wait, what only the box sends, and what the module replies:
-- each list looked up in the table of commands. Assumes nothing.
use Rattle.std.proofs.Common.{◌≡◌, ◌+◌, Bool, true, false, ◌&&◌, ◌||◌, ◌∷◌, sym, refl, ◌∙◌}
use Rattle.base.specs.Keys.{among}
use Rattle.message.specs.Commands.{table, profile_in, kind_of, from_box}
use Rattle.message.specs.Layouts.{is_listed}
use Rattle.message.specs.CommandLists.{box_commands}
use Rattle.message.proofs.CommandLists.{command_lists}
use Rattle.message.specs.Owed.{owed_for}
use Rattle.message.specs.declared.kind.Owed.TheVariants.{Nothing}
use Rattle.base.proofs.Keys.{agree}
use Rattle.link.specs.Sending.{wait_commands, may_wait}
use Rattle.link.specs.Commands.{replies_to_module, BoxCommands, ModuleReplies}

-- a test that is passed where one of two is, and only there
joined : (a b d : Bool) → (a ≡ true → (b || d) ≡ true) → (b ≡ true → a ≡ true) → (d ≡ true → a ≡ true) → a ≡ (b || d)
joined true b d f g h = sym (f refl)
joined false true d f g h = g refl
joined false false true f g h = h refl
joined false false false f g h = refl

-- two tests of which the first rules out the second
apart : (b d : Bool) → (b ≡ true → d ≡ false) → (b && d) ≡ false
apart true d f = f refl
apart false d f = refl

pub box_commands_lem : BoxCommands
unfolding among table profile_in
box_commands_lem command =
    record {
      either = joined (from_box command) (may_wait command) (among command replies_to_module)
          (λ h. agree (λ c. may_wait c || among c replies_to_module) (λ _. true) box_commands command refl
          (sym (command_lists.from_box_is command) ∙ h))
          (agree from_box (λ _. true) wait_commands command refl)
          (agree from_box (λ _. true) replies_to_module command refl);
      not_both = apart (may_wait command) _
          (agree (λ c. among c replies_to_module) (λ _. false) wait_commands command refl);
    }

pub module_replies : ModuleReplies
unfolding among table profile_in
module_replies command h =
    record {
      listed = agree (λ c. is_listed (kind_of (c + 1))) (λ _. true) wait_commands command refl h;
      not_box = agree (λ c. from_box (c + 1)) (λ _. false) wait_commands command refl h;
      no_reply = λ values. agree (λ c. owed_for ((c + 1) ∷ values)) (λ _. Nothing) wait_commands command refl h;
    }
