-- Claims: the commands that wait and their replies, compared with the senders of the messages. PROTOCOL 7.3, 8.10, 9.1.
use Rattle.std.specs.Prelude.{◌≡◌, ℕ, ◌+◌, true, false, ◌&&◌, ◌||◌, List, [], ◌∷◌}
use Rattle.base.specs.Keys.{among}
use Rattle.message.specs.Commands.{kind_of, from_box}
use Rattle.message.specs.Layouts.{is_listed}
use Rattle.message.specs.Owed.{owed_for}
use Rattle.message.specs.declared.kind.Owed.TheVariants.{Nothing}
use Rattle.link.specs.Sending.{may_wait}

-- ---- box_commands_lem: what only the box sends (PROTOCOL 7.3) either may wait or replies to the module, never both
abbrev pub replies_to_module : List ℕ
replies_to_module = 0x02 ∷ 0x04 ∷ 0x08 ∷ 0x0E ∷ 0x10 ∷ 0x12 ∷ 0x1A ∷ 0x1E ∷ 0x20 ∷ []

-- of one command
pub record BoxCommand (command : ℕ) : Type 0 where
  pub either : from_box command ≡ (may_wait command || among command replies_to_module)
  pub not_both : (may_wait command && among command replies_to_module) ≡ false

-- of every command
abbrev pub BoxCommands : Type 0
BoxCommands = (command : ℕ) → BoxCommand command

-- ---- module_replies: the reply to a command that may wait is listed, comes from the module,
-- and without a fault the box owes it no reply: PROTOCOL 8.10
pub record ModuleReply (command : ℕ) : Type 0 where
  pub listed : is_listed (kind_of (command + 1)) ≡ true
  pub not_box : from_box (command + 1) ≡ false
  pub no_reply : (values : List ℕ) → owed_for ((command + 1) ∷ values) ≡ Nothing

-- of every command that may wait
abbrev pub ModuleReplies : Type 0
ModuleReplies = (command : ℕ) → may_wait command ≡ true → ModuleReply command
