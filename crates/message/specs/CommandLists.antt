-- Claims: the table of commands against lists in literal numbers. PROTOCOL 7.1 to 7.3, 8.2 to 8.4, 8.9, 8.10.
use Rattle.std.specs.Prelude.{ℕ, ◌+◌, ◌≡◌, true, false, cond, ◌||◌, List, [], ◌∷◌, map}
use Rattle.base.specs.Keys.{among}
use Rattle.message.specs.Commands.{TableEntry, is_box, table, kind_of, from_box, owed_of}
use Rattle.message.specs.Layouts.{is_listed, sizes_of}
use Rattle.message.specs.Owed.{owed_for, handed}
use Rattle.message.specs.declared.kind.Kind.TheVariants as kind
use Rattle.message.specs.declared.kind.Owed.TheVariants as owes

-- ---- box_listed: a command that only the box sends is listed
abbrev pub BoxListed : Type 0
BoxListed = (command : ℕ) → from_box command ≡ true → is_listed (kind_of command) ≡ true

-- ---- command_lists: who sends each command, which are listed, what kind of payload each has, what reply each is owed

-- the commands of some lines that only the box sends
abbrev pub sent_by_box : List TableEntry → List ℕ
sent_by_box [] = []
sent_by_box (e ∷ es) = cond (is_box e.profile.sender) (e.command ∷ sent_by_box es) (sent_by_box es)

-- the commands that only the box sends: PROTOCOL 7.3
abbrev pub box_commands : List ℕ
box_commands =
    0x02 ∷ 0x04 ∷ 0x05 ∷ 0x08 ∷ 0x09 ∷ 0x0B ∷ 0x0E ∷ 0x10 ∷ 0x12
    ∷ 0x13 ∷ 0x15 ∷ 0x17 ∷ 0x1A ∷ 0x1B ∷ 0x1E ∷ 0x20 ∷ 0x27 ∷ 0x29 ∷ []

-- the commands that are handed to the caller whatever their payload is: PROTOCOL 8.9
abbrev pub handed_commands : List ℕ
handed_commands = 0x19 ∷ 0x1D ∷ 0x1F ∷ []

-- the commands without a payload: PROTOCOL 7.2
abbrev pub empty_commands : List ℕ
empty_commands =
    0x01 ∷ 0x06 ∷ 0x07 ∷ 0x08 ∷ 0x0A ∷ 0x0B ∷ 0x0C ∷ 0x0E ∷ 0x0F ∷ 0x10 ∷ 0x13 ∷ 0x14
    ∷ 0x15 ∷ 0x16 ∷ 0x17 ∷ 0x1A ∷ 0x1C ∷ 0x1E ∷ 0x1F ∷ 0x20 ∷ 0x27 ∷ 0x28 ∷ 0x29 ∷ 0x2A ∷ []

-- the other listed commands
abbrev pub other_commands : List ℕ
other_commands = 0x02 ∷ 0x03 ∷ 0x04 ∷ 0x05 ∷ 0x09 ∷ 0x0D ∷ 0x11 ∷ 0x12 ∷ 0x18 ∷ 0x19 ∷ 0x1B ∷ 0x1D ∷ []

-- of every command
pub record CommandLists : Type 0 where
  -- the sizes in the table are those of the layouts
  pub sizes : map (λ e. e.sizes) table ≡ map (λ e. sizes_of e.profile.kind) table
  pub box : sent_by_box table ≡ box_commands
  pub from_box_is : (command : ℕ) → from_box command ≡ among command box_commands
  pub listed : (command : ℕ) → is_listed (kind_of command)
      ≡ (among command empty_commands || among command other_commands)
  pub empty : (command : ℕ) → among command empty_commands ≡ true → kind_of command ≡ kind.Empty
  pub others :
      map kind_of other_commands
      ≡ kind.Information ∷ kind.Action ∷ kind.Status ∷ kind.Report ∷ kind.Onboarding ∷ kind.Network
      ∷ kind.ModuleReject ∷ kind.BoxReject ∷ kind.Time ∷ kind.Announcement ∷ kind.Ready ∷ kind.Piece ∷ []
  -- the reply owed without fault: command plus 1, device information, what is handed to the caller, or nothing
  pub acknowledged :
      (command : ℕ) → among command (0x03 ∷ 0x07 ∷ 0x0D ∷ 0x0F ∷ []) ≡ true
      → owed_of command ≡ owes.Acknowledge (command + 1)
  pub information : owed_of 0x01 ≡ owes.AskInformation
  pub control : (values : List ℕ) → owed_for (0x03 ∷ 1 ∷ values) ≡ owes.Acknowledge 0x04
  pub query : (values : List ℕ) → owed_for (0x03 ∷ 2 ∷ values) ≡ owes.AskStatus
  pub begin : owed_of 0x19 ≡ owes.AskBegin
  pub store : owed_of 0x1D ≡ owes.AskStore
  pub stop : owed_of 0x1F ≡ owes.AskStop
  pub handed_over : (command : ℕ) → handed (owed_of command) ≡ among command handed_commands
  pub no_reply :
      (command : ℕ) → among command (0x01 ∷ 0x03 ∷ 0x07 ∷ 0x0D ∷ 0x0F ∷ 0x19 ∷ 0x1D ∷ 0x1F ∷ []) ≡ false
      → owed_of command ≡ owes.Nothing
