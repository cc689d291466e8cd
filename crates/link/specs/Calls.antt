-- Model: what each call answers and leaves, held to the statements by link_ranges, calls_exact and link_history.
-- `first` is the first sequence number, and `max` bounds the repeats; the contracts have `first_number` and
-- `max_repeats`. PROTOCOL 9.2, 9.5 to 9.13, 9.15.
use Rattle.std.specs.Prelude.{ℕ, ◌+◌, Bool, true, cond, ◌&&◌, ◌==◌, nat_le, nat_lt, Option, None, Some, Result}
use Rattle.base.specs.Outcomes.{Outcome, outcome}
use Rattle.link.specs.Sending.{Wait, waits_for, may_wait, fits_of, first_number, max_repeats}
use Rattle.link.specs.Clock.{is_due}
use Rattle.link.specs.Table.{state_row, busy_row, unsent_row, stray_row, accepted_row, nothing_row, again_row}
use Rattle.link.specs.Table.{given_up_row, replied_row, offer_row_of, tick_row_of, receive_row_of}
use Rattle.link.specs.declared.state.Link.{Link}
use Rattle.base.specs.declared.writes.StateError.{StateError}
use Rattle.link.specs.declared.offers.OfferError.{OfferError}
use Rattle.link.specs.declared.ticks.Tick.{Tick}
use Rattle.link.specs.declared.receives.Replied.{Replied}
use Rattle.link.specs.declared.receives.ReceiveError.{ReceiveError}

-- ---- links

-- a link of a next number and what waits
abbrev pub link_of : ℕ → Wait → Link
link_of next wait = record { next = next; waiting = wait }

-- a fresh link: PROTOCOL 9.2
abbrev pub fresh_of : ℕ → Link
fresh_of first = link_of first None

-- the link with nothing waiting, its number kept
abbrev pub idle_of : Link → Link
idle_of l = link_of l.next None

-- ---- what the code answers and leaves: the row of its answer, and the link

-- of an offer
abbrev pub offered_of : Result ℕ OfferError → Link → Outcome Link
offered_of answer l = outcome (offer_row_of answer) l

-- of a tick
abbrev pub ticked_of : Result (Option Tick) StateError → Link → Outcome Link
ticked_of answer l = outcome (tick_row_of answer) l

-- of a received frame
abbrev pub received_of : Result Replied ReceiveError → Link → Outcome Link
received_of answer l = outcome (receive_row_of answer) l

-- ---- numbers and ranges

-- the number that follows another: PROTOCOL 9.2
abbrev pub following_of : ℕ → ℕ → ℕ
following_of first number = cond (number == 255) first (number + 1)

-- the ranges of what waits; the clock of the last sending is free: PROTOCOL 9.15
abbrev pub wait_in_range : ℕ → ℕ → Wait → Bool
wait_in_range first max None = true
wait_in_range first max (Some w) = nat_le first w.number && (nat_le w.repeats max && may_wait w.command)

-- the ranges of a link: PROTOCOL 9.15. A link in range that no fresh one becomes has the same equations
abbrev pub in_range : ℕ → ℕ → Link → Bool
in_range first max l = nat_le first l.next && wait_in_range first max l.waiting

-- ---- an offer

-- accepted: PROTOCOL 9.2, 9.5
abbrev pub accept_of : ℕ → ℕ → ℕ → ℕ → Outcome Link
accept_of first next command clock =
    outcome (accepted_row next) (link_of (following_of first next) (waits_for command next clock 0))

-- of a command that may wait, to a link in range: PROTOCOL 9.10
abbrev pub offer_in : Wait → ℕ → Link → ℕ → ℕ → Outcome Link
offer_in None first l command clock = accept_of first l.next command clock
offer_in (Some w) first l command clock = outcome busy_row l

-- of any command, to any link: the order of PROTOCOL 9.13
abbrev pub offer_of : ℕ → ℕ → Link → ℕ → ℕ → Outcome Link
offer_of first max l command clock =
    cond (in_range first max l)
    (cond (may_wait command) (offer_in l.waiting first l command clock) (outcome unsent_row l))
    (outcome state_row l)

-- ---- a tick

-- a due one: PROTOCOL 9.5 to 9.7
abbrev pub due_tick_of : ℕ → Link → ℕ → ℕ → ℕ → ℕ → Outcome Link
due_tick_of max l command number repeats clock =
    cond (nat_lt repeats max)
    (outcome (again_row command number) (link_of l.next (waits_for command number clock (repeats + 1))))
    (outcome (given_up_row command number) (idle_of l))

-- of a link in range: PROTOCOL 9.8 for a tick that is not due
abbrev pub tick_in : Wait → ℕ → Link → ℕ → Outcome Link
tick_in None max l clock = outcome nothing_row l
tick_in (Some w) max l clock =
    cond (is_due clock w.sent) (due_tick_of max l w.command w.number w.repeats clock) (outcome nothing_row l)

-- of any link: PROTOCOL 9.13
abbrev pub tick_of : ℕ → ℕ → Link → ℕ → Outcome Link
tick_of first max l clock = cond (in_range first max l) (tick_in l.waiting max l clock) (outcome state_row l)

-- ---- a received frame

-- by a link in range: PROTOCOL 9.9, 9.12
abbrev pub receive_in : Wait → Link → ℕ → ℕ → Outcome Link
receive_in None l command number = outcome stray_row l
receive_in (Some w) l command number =
    cond (fits_of command number w.command w.number) (outcome (replied_row w.command w.number) (idle_of l))
    (outcome stray_row l)

-- by any link: PROTOCOL 9.13
abbrev pub receive_of : ℕ → ℕ → Link → ℕ → ℕ → Outcome Link
receive_of first max l command number =
    cond (in_range first max l) (receive_in l.waiting l command number) (outcome state_row l)

-- ---- with the code's own figures, as the contracts state them

-- an offer
abbrev pub offer : Link → ℕ → ℕ → Outcome Link
offer l command clock = offer_of first_number max_repeats l command clock

-- a tick
abbrev pub tick : Link → ℕ → Outcome Link
tick l clock = tick_of first_number max_repeats l clock

-- a received frame
abbrev pub receive : Link → ℕ → ℕ → Outcome Link
receive l command number = receive_of first_number max_repeats l command number
