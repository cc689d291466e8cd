-- Claims: a reply of the box is a message that only the box sends, and reading accepts it. PROTOCOL 8.2, 8.5 to 8.8.
use Rattle.std.specs.Prelude.{ℕ, ◌+◌, ◌≡◌, true, List, [], ◌∷◌}
use Rattle.base.specs.Rows.{row}
use Rattle.message.specs.Commands.{from_box}
use Rattle.message.specs.Layouts.{code_number}
use Rattle.message.specs.Messages.{message_in}
use Rattle.message.specs.Owed.{code_for}
use Rattle.message.specs.Reading.{read_of}
use Rattle.message.specs.Replies.{owed_to}
use Rattle.message.specs.declared.kind.Cause.{Cause}
use Rattle.message.specs.declared.kind.Owed.TheVariants as owes
use Rattle.message.specs.declared.values.Code.TheVariants as code
use Rattle.message.specs.declared.values.Message.{Message}
use Rattle.message.specs.declared.values.Message.TheVariants as message

-- ---- replies_are_read: every acknowledgement and every rejection that the box owes

-- a command and a payload that the box may send, as this message
abbrev pub BoxSends : ℕ → List ℕ → Message → Type 0
BoxSends command p m = (from_box command ≡ true) × (read_of command p ≡ row 0 (message_in m))

-- to a frame, and to a wrong sum
pub record RepliesRead (command : ℕ) (p : List ℕ) : Type 0 where
  pub acknowledged :
      (c : ℕ) → owed_to command p ≡ owes.Acknowledge c → (c ≡ command + 1) × BoxSends c [] (message.Empty c)
  pub rejected :
      (cause : Cause) → owed_to command p ≡ owes.Reject cause
      → BoxSends 0x12 (code_number (code_for cause) ∷ []) (message.BoxReject (code_for cause))
  pub wrong_sum_lem : BoxSends 0x12 (1 ∷ []) (message.BoxReject code.Sum)

-- to every frame
abbrev pub RepliesAreRead : Type 0
RepliesAreRead = (command : ℕ) (p : List ℕ) → RepliesRead command p
