-- Statement: which commands wait, under which numbers, and which received frame fits. PROTOCOL 9.1, 9.2, 9.6, 9.9.
-- It uses base's `among` of the model, held by looked_up.
use Rattle.std.specs.Prelude.{ℕ, ◌+◌, ◌-◌, ◌%◌, Bool, ◌&&◌, Option, Some, List, [], ◌∷◌, ◌==◌}
use Rattle.base.specs.Keys.{among}
use Rattle.link.specs.declared.state.Waiting.{Waiting}

-- PROTOCOL 9.1
abbrev pub wait_commands : List ℕ
wait_commands = 0x05 ∷ 0x09 ∷ 0x0B ∷ 0x13 ∷ 0x15 ∷ 0x17 ∷ 0x1B ∷ 0x27 ∷ 0x29 ∷ []

-- whether a command is one of them; every other is UNSENT (PROTOCOL 9.11), also a reply of the box, as 02
abbrev pub may_wait : ℕ → Bool
may_wait command = among command wait_commands

-- what waits in a link, or nothing
abbrev pub Wait : Type 0
Wait = Option Waiting

-- a command waits under a number, last sent at a clock, with so many repeats
abbrev pub waits_for : ℕ → ℕ → ℕ → ℕ → Wait
waits_for command number sent repeats =
    Some (record { command = command; number = number; sent = sent; repeats = repeats })

-- the first sequence number: PROTOCOL 9.2. The definitions take it as `first`, and the contracts state this one
abbrev pub first_number : ℕ
first_number = 0

-- the repeats that a command gets at most: PROTOCOL 9.6. The definitions take it as `max`
abbrev pub max_repeats : ℕ
max_repeats = 2

-- the sequence number of the k-th accepted command, k from 0: PROTOCOL 9.2, with `first` for 0
abbrev pub number_at : ℕ → ℕ → ℕ
number_at first k = first + k % (256 - first)

-- whether a received frame with this command and number fits what waits; fits is a term of ours: PROTOCOL 9.9
abbrev pub fits_of : ℕ → ℕ → ℕ → ℕ → Bool
fits_of command number waiting under = command == waiting + 1 && number == under
