-- Statement: the number and the values of each answer. PROTOCOL 4.10, 6.7, 9.10 to 9.13.
use Rattle.std.specs.Prelude.{ℕ, [], ◌∷◌, Option, None, Some, Result, Ok, Err}
use Rattle.base.specs.Rows.{Row, row}
use Rattle.base.specs.declared.writes.StateError.{StateError}
use Rattle.link.specs.declared.offers.OfferError.{OfferError}
use Rattle.link.specs.declared.offers.OfferError.TheVariants as offer_error
use Rattle.link.specs.declared.ticks.Tick.{Tick}
use Rattle.link.specs.declared.ticks.Tick.TheVariants.{Again, GivenUp}
use Rattle.link.specs.declared.receives.Replied.{Replied}
use Rattle.link.specs.declared.receives.ReceiveError.{ReceiveError}
use Rattle.link.specs.declared.receives.ReceiveError.TheVariants as receive_error

-- ---- the rows: what is not a refusal stands under 0, which here is not MORE

-- STATE: PROTOCOL 4.10
abbrev pub state_row : Row
state_row = row 17 (0 ∷ [])

-- BUSY: PROTOCOL 9.10
abbrev pub busy_row : Row
busy_row = row 41 []

-- UNSENT: PROTOCOL 9.11
abbrev pub unsent_row : Row
unsent_row = row 42 []

-- STRAY: PROTOCOL 9.12
abbrev pub stray_row : Row
stray_row = row 43 []

-- an accepted offer: PROTOCOL 9.13, and so the rows that follow
abbrev pub accepted_row : ℕ → Row
accepted_row number = row 0 (number ∷ [])

-- a tick with nothing to do
abbrev pub nothing_row : Row
nothing_row = row 0 []

-- a tick that sends again
abbrev pub again_row : ℕ → ℕ → Row
again_row command number = row 0 (1 ∷ command ∷ number ∷ [])

-- a tick that gives up
abbrev pub given_up_row : ℕ → ℕ → Row
given_up_row command number = row 0 (2 ∷ command ∷ number ∷ [])

-- a received frame that fits
abbrev pub replied_row : ℕ → ℕ → Row
replied_row command number = row 0 (command ∷ number ∷ [])

-- ---- the code's answers

-- to an offer
abbrev pub offer_row_of : Result ℕ OfferError → Row
offer_row_of (Ok number) = accepted_row number
offer_row_of (Err offer_error.State) = state_row
offer_row_of (Err offer_error.Unsent) = unsent_row
offer_row_of (Err offer_error.Busy) = busy_row

-- to a tick
abbrev pub tick_row_of : Result (Option Tick) StateError → Row
tick_row_of (Ok None) = nothing_row
tick_row_of (Ok (Some (Again command number))) = again_row command number
tick_row_of (Ok (Some (GivenUp command number))) = given_up_row command number
tick_row_of (Err e) = state_row

-- to a received frame
abbrev pub receive_row_of : Result Replied ReceiveError → Row
receive_row_of (Ok replied) = replied_row replied.command replied.number
receive_row_of (Err receive_error.State) = state_row
receive_row_of (Err receive_error.Stray) = stray_row
