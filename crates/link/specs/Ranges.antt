-- Claims: the ranges of a link, in the literal numbers of docs/STATES.md, and for any first number. PROTOCOL 9.15.
use Rattle.std.specs.Prelude.{◌≡◌, ℕ, ◌<◌, ◌≤◌, true, false, ◌≢◌, None, List, [], ◌∷◌}
use Rattle.base.specs.Rows.{row}
use Rattle.base.specs.Outcomes.{Outcome, outcome}
use Rattle.base.specs.Keys.{among}
use Rattle.link.specs.Sending.{Wait, waits_for, first_number, max_repeats}
use Rattle.link.specs.Calls.{link_of, fresh_of}
use Rattle.link.specs.Logs.{Call}
use Rattle.link.specs.LogsComputed.{call_of}
use Rattle.link.specs.declared.state.Link.{Link}

-- ---- link_ranges: each field alone, whatever the others are, and all fields together: PROTOCOL 9.15

-- what a call answers, and the link that it leaves
abbrev pub answer_to : Link → Call → Outcome Link
answer_to l c = call_of first_number max_repeats l c

-- what comes back is STATE, and the link as it was
abbrev pub IsState : Outcome Link → Link → Type 0
IsState y l = y ≡ outcome (row 17 (0 ∷ [])) l

-- the call answers STATE, and the link stays
abbrev pub OutOfRange : Link → Call → Type 0
OutOfRange l c = IsState (answer_to l c) l

-- the call answers something else
abbrev pub InRange : Link → Call → Type 0
InRange l c = (answer_to l c).row.number ≢ 17

-- the nine commands of PROTOCOL 9.1
abbrev pub waiters : List ℕ
waiters = 0x05 ∷ 0x09 ∷ 0x0B ∷ 0x13 ∷ 0x15 ∷ 0x17 ∷ 0x1B ∷ 0x27 ∷ 0x29 ∷ []

-- of a call; both sequence numbers are free, and the code's fields have none above 255
pub record LinkRange (c : Call) : Type 0 where
  pub repeats_out : (next command number sent repeats : ℕ)
      → 3 ≤ repeats → OutOfRange (link_of next (waits_for command number sent repeats)) c
  pub command_out : (next command number sent repeats : ℕ)
      → among command waiters ≡ false → OutOfRange (link_of next (waits_for command number sent repeats)) c
  pub idle_in : (next : ℕ) → InRange (link_of next None) c
  pub waiting_in : (next command number sent repeats : ℕ)
      → repeats ≤ 2 → among command waiters ≡ true → InRange (link_of next (waits_for command number sent repeats)) c

-- of every call, and a fresh link
pub record LinkRanges : Type 0 where
  pub each : (c : Call) → LinkRange c
  pub fresh : fresh_of first_number ≡ link_of 0 None

-- ---- link_whole: every link has this form
abbrev pub LinkWhole : Type 0
LinkWhole = (l : Link) → link_of l.next l.waiting ≡ l

-- ---- below_first: with any first number, one below it is out of range; below the code's own there is none
pub record BelowFirst (first max : ℕ) (c : Call) : Type 0 where
  pub next_out : (next : ℕ) (wait : Wait) → next < first
      → IsState (call_of first max (link_of next wait) c) (link_of next wait)
  pub number_out : (next command number sent repeats : ℕ) → number < first
      → IsState (call_of first max (link_of next (waits_for command number sent repeats)) c)
      (link_of next (waits_for command number sent repeats))

-- of every call, with any bound of the repeats
abbrev pub BelowEachFirst : Type 0
BelowEachFirst = (first max : ℕ) (c : Call) → BelowFirst first max c
