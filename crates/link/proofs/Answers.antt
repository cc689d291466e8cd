-- An answer can be read back from its row, so no two have the same row. Assumes nothing.
use Rattle.std.proofs.Common.{◌≡◌, ℕ, cond, eqb, Option, None, Some, Result, Ok, Err, refl, ap}
use Rattle.base.specs.Rows.{Row}
use Rattle.base.specs.Outcomes.{Outcome}
use Rattle.base.proofs.Rows.{injective_by, under, value}
use Rattle.link.specs.Table.{offer_row_of, tick_row_of, receive_row_of}
use Rattle.link.specs.Answers.{RowsInjective, RowsNamed, ContractsComplete}
use Rattle.link.specs.declared.state.Link.{Link}
use Rattle.base.specs.declared.writes.StateError.{StateError}
use Rattle.link.specs.declared.offers.OfferError.{OfferError}
use Rattle.link.specs.declared.offers.OfferError.TheVariants as offer_error
use Rattle.link.specs.declared.ticks.Tick.{Tick}
use Rattle.link.specs.declared.ticks.Tick.TheVariants.{Again, GivenUp}
use Rattle.link.specs.declared.receives.Replied.{Replied}
use Rattle.link.specs.declared.receives.ReceiveError.{ReceiveError}
use Rattle.link.specs.declared.receives.ReceiveError.TheVariants as receive_error

abbrev offer_from : Row → Result ℕ OfferError
offer_from r =
    under r 0 (Ok (value r 0)) (Err (under r 17 offer_error.State (under r 42 offer_error.Unsent offer_error.Busy)))

offer_back : (a : Result ℕ OfferError) → offer_from (offer_row_of a) ≡ a
offer_back (Ok n) = refl
offer_back (Err offer_error.State) = refl
offer_back (Err offer_error.Unsent) = refl
offer_back (Err offer_error.Busy) = refl

abbrev tick_from : Row → Result (Option Tick) StateError
tick_from r =
    under r 17 (Err (record {}))
    (Ok (cond (eqb (value r 0) 1) (Some (Again (value r 1) (value r 2)))
    (cond (eqb (value r 0) 2) (Some (GivenUp (value r 1) (value r 2))) None)))

tick_back : (a : Result (Option Tick) StateError) → tick_from (tick_row_of a) ≡ a
tick_back (Ok None) = refl
tick_back (Ok (Some (Again c n))) = refl
tick_back (Ok (Some (GivenUp c n))) = refl
tick_back (Err e) = refl

abbrev receive_from : Row → Result Replied ReceiveError
receive_from r =
    under r 0 (Ok (record { command = value r 0; number = value r 1 }))
    (Err (under r 17 receive_error.State receive_error.Stray))

receive_back : (a : Result Replied ReceiveError) → receive_from (receive_row_of a) ≡ a
receive_back (Ok replied) = refl
receive_back (Err receive_error.State) = refl
receive_back (Err receive_error.Stray) = refl

pub rows_injective : RowsInjective
rows_injective =
    record {
      offers = injective_by offer_row_of offer_from offer_back;
      ticks = injective_by tick_row_of tick_from tick_back;
      receives = injective_by receive_row_of receive_from receive_back;
    }

pub named_rows : RowsNamed
named_rows c n = record { offers = refl; ticks = refl; receives = refl }

pub contracts_complete : ContractsComplete
contracts_complete =
    record {
      offered = λ a l y e. (ap (λ (z : Outcome Link). z.row) e, ap (λ (z : Outcome Link). z.state) e);
      ticked = λ a l y e. (ap (λ (z : Outcome Link). z.row) e, ap (λ (z : Outcome Link). z.state) e);
      received = λ a l y e. (ap (λ (z : Outcome Link). z.row) e, ap (λ (z : Outcome Link). z.state) e);
    }
