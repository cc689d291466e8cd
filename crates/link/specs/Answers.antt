-- Claims: each answer of the code has its number and values, no two the same, and contracts fix answer and link.
-- PROTOCOL 4.10, 9.10 to 9.13, 12.2, 12.4.
use Rattle.std.specs.Prelude.{◌≡◌, ℕ, [], ◌∷◌, map, Option, None, Some, Result, Ok, Err}
use Rattle.base.specs.Rows.{row}
use Rattle.base.specs.Outcomes.{Outcome}
use Rattle.link.specs.Table.{offer_row_of, tick_row_of, receive_row_of}
use Rattle.link.specs.Calls.{offered_of, ticked_of, received_of}
use Rattle.link.specs.declared.state.Link.{Link}
use Rattle.base.specs.declared.writes.StateError.{StateError}
use Rattle.link.specs.declared.offers.OfferError.{OfferError}
use Rattle.link.specs.declared.offers.OfferError.TheVariants as offer_error
use Rattle.link.specs.declared.ticks.Tick.{Tick}
use Rattle.link.specs.declared.ticks.Tick.TheVariants.{Again, GivenUp}
use Rattle.link.specs.declared.receives.Replied.{Replied}
use Rattle.link.specs.declared.receives.ReceiveError.{ReceiveError}
use Rattle.link.specs.declared.receives.ReceiveError.TheVariants as receive_error

-- ---- rows_injective: two answers of one call never have the same number and
-- values, so an equation of rows fixes the answer
pub record RowsInjective : Type 0 where
  pub offers : (a b : Result ℕ OfferError) → offer_row_of a ≡ offer_row_of b → a ≡ b
  pub ticks : (a b : Result (Option Tick) StateError) → tick_row_of a ≡ tick_row_of b → a ≡ b
  pub receives : (a b : Result Replied ReceiveError) → receive_row_of a ≡ receive_row_of b → a ≡ b

-- ---- named_rows: every answer of the code, with its number and its values: PROTOCOL 4.10, 9.10 to 9.13
pub record NamedRows (c n : ℕ) : Type 0 where
  pub offers :
      map offer_row_of (Ok n ∷ Err offer_error.State ∷ Err offer_error.Unsent ∷ Err offer_error.Busy ∷ [])
      ≡ row 0 (n ∷ []) ∷ row 17 (0 ∷ []) ∷ row 42 [] ∷ row 41 [] ∷ []
  pub ticks :
      map tick_row_of (Ok None ∷ Ok (Some (Again c n)) ∷ Ok (Some (GivenUp c n)) ∷ Err (record {}) ∷ [])
      ≡ row 0 [] ∷ row 0 (1 ∷ c ∷ n ∷ []) ∷ row 0 (2 ∷ c ∷ n ∷ []) ∷ row 17 (0 ∷ []) ∷ []
  pub receives :
      map receive_row_of
      (Ok (record { command = c; number = n }) ∷ Err receive_error.State ∷ Err receive_error.Stray ∷ [])
      ≡ row 0 (c ∷ n ∷ []) ∷ row 17 (0 ∷ []) ∷ row 43 [] ∷ []

-- of every command and number
abbrev pub RowsNamed : Type 0
RowsNamed = (c n : ℕ) → NamedRows c n

-- ---- contracts_complete: the contracts' equations fix the answer and the link, each by itself
pub record ContractsComplete : Type 0 where
  pub offered : (a : Result ℕ OfferError) (l : Link) (y : Outcome Link)
      → offered_of a l ≡ y → (offer_row_of a ≡ y.row) × (l ≡ y.state)
  pub ticked : (a : Result (Option Tick) StateError) (l : Link) (y : Outcome Link)
      → ticked_of a l ≡ y → (tick_row_of a ≡ y.row) × (l ≡ y.state)
  pub received : (a : Result Replied ReceiveError) (l : Link) (y : Outcome Link)
      → received_of a l ≡ y → (receive_row_of a ≡ y.row) × (l ≡ y.state)
