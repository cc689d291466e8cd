-- An answer can be read back from its row, so no two have the same row. Assumes nothing.
use Prim.Native.Nat.{ℕ}
use mathlib.Core.Path.{◌≡◌, refl, sym, ap, ◌∙◌}
use mathlib.Core.Bool.{Bool, cond, ◌||◌}
use mathlib.Core.List.{List, [], ◌∷◌}
use lib.Dec.{eqb}
use Rattle.std.specs.Prelude.{Option, Some, None, Result, Ok, Err}
use Rattle.base.specs.Rows.{Row}
use Rattle.base.specs.declared.writes.WriteError.TheVariants as unwritten
use Rattle.base.proofs.Rows.{injective_by, under, value}
use Rattle.base.proofs.WritesExact.{unwritten_from}
use Rattle.transfer.specs.Table.{refusal_number, arrive_row_of, cancel_row_of, progress_row_of}
use Rattle.transfer.specs.Calls.{Left, Both, Held}
use Rattle.transfer.specs.AnswerRows.{RowsInjective, RowsNamed, ContractsComplete}
use Rattle.transfer.specs.declared.state.Transfer.{Transfer}
use Rattle.transfer.specs.declared.answers.Refusal.{Refusal}
use Rattle.transfer.specs.declared.answers.Refusal.TheVariants as refusal
use Rattle.transfer.specs.declared.answers.Arrival.{Arrival}
use Rattle.transfer.specs.declared.answers.Arrival.TheVariants as arrived
use Rattle.transfer.specs.declared.answers.ArriveError.{ArriveError}
use Rattle.transfer.specs.declared.answers.ArriveError.TheVariants as error
use Rattle.base.specs.declared.writes.StateError.{StateError}
use Rattle.transfer.specs.declared.state.Progress.{Progress}

abbrev refusal_from : ℕ → Refusal
refusal_from n =
    cond (eqb n 32) refusal.Size
    (cond (eqb n 61) refusal.Empty
    (cond (eqb n 62) refusal.TooBig
    (cond (eqb n 64) refusal.HexLines
    (cond (eqb n 63) refusal.Pieces (cond (eqb n 65) refusal.Turn refusal.Piece)))))

refusal_back : (a : Refusal) → refusal_from (refusal_number a) ≡ a
refusal_back refusal.Size = refl
refusal_back refusal.Empty = refl
refusal_back refusal.TooBig = refl
refusal_back refusal.HexLines = refl
refusal_back refusal.Pieces = refl
refusal_back refusal.Turn = refl
refusal_back refusal.Piece = refl

-- what was not written, or STATE or BUSY
abbrev error_from : Row → ArriveError
error_from r = under r 17 error.State (under r 41 error.Busy (error.Unwritten (unwritten_from r)))

-- whether a row is of one of these
abbrev is_error : Row → Bool
is_error r = eqb r.number 17 || (eqb r.number 41 || (eqb r.number 21 || eqb r.number 22))

abbrev arrive_from : Row → Result Arrival ArriveError
arrive_from r =
    under r 0
    (Ok (cond (eqb (value r 1) 26) (arrived.Began (value r 0) (value r 2))
    (cond (eqb (value r 1) 30) (arrived.Stored (value r 0)) (arrived.Stopped (value r 0)))))
    (cond (is_error r) (Err (error_from r)) (Ok (arrived.Refused (value r 0) (refusal_from r.number))))

refused_back : (n : ℕ) (why : Refusal) → arrive_from (arrive_row_of (Ok (arrived.Refused n why)))
    ≡ Ok (arrived.Refused n why)
refused_back n refusal.Size = refl
refused_back n refusal.Empty = refl
refused_back n refusal.TooBig = refl
refused_back n refusal.HexLines = refl
refused_back n refusal.Pieces = refl
refused_back n refusal.Turn = refl
refused_back n refusal.Piece = refl

arrive_back : (a : Result Arrival ArriveError) → arrive_from (arrive_row_of a) ≡ a
arrive_back (Ok (arrived.Began count ready)) = refl
arrive_back (Ok (arrived.Stored count)) = refl
arrive_back (Ok (arrived.Stopped count)) = refl
arrive_back (Ok (arrived.Refused count why)) = refused_back count why
arrive_back (Err error.State) = refl
arrive_back (Err error.Busy) = refl
arrive_back (Err (error.Unwritten unwritten.Payload)) = refl
arrive_back (Err (error.Unwritten (unwritten.Room needed))) = refl

abbrev cancel_from : Row → Result ℕ ArriveError
cancel_from r = under r 0 (Ok (value r 0)) (Err (error_from r))

cancel_back : (a : Result ℕ ArriveError) → cancel_from (cancel_row_of a) ≡ a
cancel_back (Ok count) = refl
cancel_back (Err error.State) = refl
cancel_back (Err error.Busy) = refl
cancel_back (Err (error.Unwritten unwritten.Payload)) = refl
cancel_back (Err (error.Unwritten (unwritten.Room needed))) = refl

abbrev some_value : List ℕ → Option Progress → Option Progress → Option Progress
some_value [] x y = x
some_value (v ∷ vs) x y = y

abbrev progress_from : Row → Result (Option Progress) StateError
progress_from r =
    under r 17 (Err (record {}))
    (Ok (some_value r.values None (Some (record { stored = value r 0; size = value r 1 }))))

progress_back : (a : Result (Option Progress) StateError) → progress_from (progress_row_of a) ≡ a
progress_back (Ok None) = refl
progress_back (Ok (Some p)) = refl
progress_back (Err e) = refl

pub rows_injective : RowsInjective
rows_injective =
    record {
      refusals = λ a b e. sym (refusal_back a) ∙ ap refusal_from e ∙ refusal_back b;
      arrivals = injective_by arrive_row_of arrive_from arrive_back;
      cancels = injective_by cancel_row_of cancel_from cancel_back;
      progresses = injective_by progress_row_of progress_from progress_back;
    }

pub named_rows : RowsNamed
named_rows n r =
    record {
      refused = refl;
      refusal_rows = refl;
      arrivals = refl;
      cancels = refl;
      progresses = refl;
      checks = refl;
      pairs = refl;
    }

pub contracts_complete : ContractsComplete
contracts_complete =
    record {
      begun = λ r t l out y e. (
        ap (λ (z : Left Both). z.row) e,
        ap (λ (z : Left Both). z.state.transfer) e,
        ap (λ (z : Left Both). z.state.link) e,
        ap (λ (z : Left Both). z.out) e,
      );
      stored = λ r t buffer out y e. (
        ap (λ (z : Left Held). z.row) e,
        ap (λ (z : Left Held). z.state.transfer) e,
        ap (λ (z : Left Held). z.state.buffer) e,
        ap (λ (z : Left Held). z.out) e,
      );
      stopped = λ r t out y e. (
        ap (λ (z : Left Transfer). z.row) e,
        ap (λ (z : Left Transfer). z.state) e,
        ap (λ (z : Left Transfer). z.out) e,
      );
      cancelled = λ r t l out y e. (
        ap (λ (z : Left Both). z.row) e,
        ap (λ (z : Left Both). z.state.transfer) e,
        ap (λ (z : Left Both). z.state.link) e,
        ap (λ (z : Left Both). z.out) e,
      );
    }
