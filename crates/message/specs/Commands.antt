-- Statement: the table of commands, one line a command. PROTOCOL 7.1 to 7.3, 8.2 to 8.4, 8.9.
use Rattle.std.specs.Prelude.{ℕ, Bool, true, false, cond, List, [], ◌∷◌, eqb}
use Rattle.message.specs.declared.kind.Kind.{Kind}
use Rattle.message.specs.declared.kind.Kind.TheVariants.{Unlisted, Empty, Information, Action, Status, Report}
use Rattle.message.specs.declared.kind.Kind.TheVariants.{Onboarding, Network, ModuleReject, BoxReject, Time}
use Rattle.message.specs.declared.kind.Kind.TheVariants.{Announcement, Ready, Piece}
use Rattle.message.specs.declared.kind.Owed.{Owed}
use Rattle.message.specs.declared.kind.Owed.TheVariants.{Nothing, AskInformation, Acknowledge}
use Rattle.message.specs.declared.kind.Owed.TheVariants.{AskBegin, AskStore, AskStop}
use Rattle.message.specs.declared.kind.Profile.{Profile}
use Rattle.message.specs.declared.kind.Sender.{Sender}
use Rattle.message.specs.declared.kind.Sender.TheVariants as sender

-- ---- the columns

-- the sizes that a payload may have
pub data Sizes : Type 0 where
  -- one of these sizes
  exactly : List ℕ → Sizes
  -- this size or more
  from : ℕ → Sizes
  -- bytes before a count, the count n in 2 bytes, n bytes, and bytes after them
  counted : ℕ → ℕ → Sizes

-- no payload
abbrev pub nothing : Sizes
nothing = exactly (0 ∷ [])

-- only the box sends the command; the box is a term of ours, for the device's microcontroller
abbrev pub by_box : Sender
by_box = sender.Box

-- the module sends the command
abbrev pub to_box : Sender
to_box = sender.Module

-- whether a sender is the box
abbrev pub is_box : Sender → Bool
is_box sender.Module = false
is_box sender.Box = true

-- the profile of a command, a term of ours: the kind of its payload, who sends it, and the reply that
-- is owed to it where it has no fault; 19, 1D and 1F are owed theirs with a fault too (`owed_after`)
abbrev pub profile_with : Kind → Sender → Owed → Profile
profile_with kind sender owed = record { kind = kind; sender = sender; owed = owed }

-- a line of the table: a command, the sizes of its payload, and its profile
pub record TableEntry : Type 0 where
  pub command : ℕ
  pub sizes : Sizes
  pub profile : Profile

-- a line from its columns
abbrev pub entry : ℕ → Sizes → Kind → Sender → Owed → TableEntry
entry command sizes kind sender owed =
    record { command = command; sizes = sizes; profile = profile_with kind sender owed }

-- ---- the table

-- command, sizes of the payload, its kind (`layout_of` has the fields), sender, owed reply. The reply to 03 is the one
-- to a control; the one to a query is in `owed_for`
unfoldable pub table : List TableEntry
table =
    entry 0x01 nothing Empty to_box AskInformation
    ∷ entry 0x02 (exactly (66 ∷ 74 ∷ 106 ∷ [])) Information by_box Nothing
    ∷ entry 0x03 (from 1) Action to_box (Acknowledge 0x04)
    ∷ entry 0x04 (from 0) Status by_box Nothing
    ∷ entry 0x05 (from 1) Report by_box Nothing
    ∷ entry 0x06 nothing Empty to_box Nothing
    ∷ entry 0x07 nothing Empty to_box (Acknowledge 0x08)
    ∷ entry 0x08 nothing Empty by_box Nothing
    ∷ entry 0x09 (exactly (1 ∷ [])) Onboarding by_box Nothing
    ∷ entry 0x0A nothing Empty to_box Nothing
    ∷ entry 0x0B nothing Empty by_box Nothing
    ∷ entry 0x0C nothing Empty to_box Nothing
    ∷ entry 0x0D (exactly (2 ∷ [])) Network to_box (Acknowledge 0x0E)
    ∷ entry 0x0E nothing Empty by_box Nothing
    ∷ entry 0x0F nothing Empty to_box (Acknowledge 0x10)
    ∷ entry 0x10 nothing Empty by_box Nothing
    ∷ entry 0x11 (exactly (1 ∷ [])) ModuleReject to_box Nothing
    ∷ entry 0x12 (exactly (1 ∷ [])) BoxReject by_box Nothing
    ∷ entry 0x13 nothing Empty by_box Nothing
    ∷ entry 0x14 nothing Empty to_box Nothing
    ∷ entry 0x15 nothing Empty by_box Nothing
    ∷ entry 0x16 nothing Empty to_box Nothing
    ∷ entry 0x17 nothing Empty by_box Nothing
    ∷ entry 0x18 (exactly (7 ∷ 11 ∷ [])) Time to_box Nothing
    ∷ entry 0x19 (counted 4 0) Announcement to_box AskBegin
    ∷ entry 0x1A nothing Empty by_box Nothing
    ∷ entry 0x1B (counted 0 2) Ready by_box Nothing
    ∷ entry 0x1C nothing Empty to_box Nothing
    ∷ entry 0x1D (from 4) Piece to_box AskStore
    ∷ entry 0x1E nothing Empty by_box Nothing
    ∷ entry 0x1F nothing Empty to_box AskStop
    ∷ entry 0x20 nothing Empty by_box Nothing
    ∷ entry 0x27 nothing Empty by_box Nothing
    ∷ entry 0x28 nothing Empty to_box Nothing
    ∷ entry 0x29 nothing Empty by_box Nothing
    ∷ entry 0x2A nothing Empty to_box Nothing
    ∷ []

-- ---- the table looked up

-- the profile of a command that the table does not list
abbrev pub unlisted : Profile
unlisted = profile_with Unlisted to_box Nothing

-- the profile of a command in some lines
unfoldable pub profile_in : List TableEntry → ℕ → Profile
profile_in [] c = unlisted
profile_in (e ∷ es) c = cond (eqb c e.command) e.profile (profile_in es c)

-- the profile of a command in the whole table
abbrev pub profile_of : ℕ → Profile
profile_of c = profile_in table c

-- the kind of a command's payload
abbrev pub kind_of : ℕ → Kind
kind_of c = (profile_of c).kind

-- whether only the box sends a command: PROTOCOL 7.3
abbrev pub from_box : ℕ → Bool
from_box c = is_box (profile_of c).sender

-- the reply that is owed to a command without fault
abbrev pub owed_of : ℕ → Owed
owed_of c = (profile_of c).owed
