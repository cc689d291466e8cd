-- An answer can be read back from its row, so no two have the same row. Assumes nothing.
use Prim.Native.Nat.{ℕ}
use mathlib.Core.Path.{◌≡◌, refl, ap}
use mathlib.Core.Bool.{cond}
use mathlib.Core.List.{List, [], ◌∷◌}
use Rattle.std.specs.Prelude.{Option, None, Some, Result, Ok, Err}
use lib.Dec.{eqb}
use lib.ListN.{get_or}
use Rattle.base.specs.Rows.{Row}
use Rattle.base.specs.declared.writes.WriteError.TheVariants as unwritten
use Rattle.base.proofs.Rows.{injective_by, under, value}
use Rattle.message.specs.Layouts.{code_number}
use Rattle.message.specs.Table.{cause_number}
use Rattle.message.specs.declared.kind.Cause.{Cause}
use Rattle.message.specs.declared.kind.Cause.TheVariants as cause
use Rattle.message.specs.declared.values.Code.{Code}
use Rattle.message.specs.declared.values.Code.TheVariants as code
use Rattle.transfer.specs.declared.answers.Refusal.{Refusal}
use Rattle.transfer.specs.declared.answers.Refusal.TheVariants as refusal
use Rattle.device.specs.Table.{handle_row_of, ended_row_of}
use Rattle.device.specs.Handling.{After}
use Rattle.device.specs.AnswerRows.{RowsInjective, RowsNamed, ContractsComplete}
use Rattle.device.specs.declared.answers.Handled.{Handled}
use Rattle.device.specs.declared.answers.Handled.TheVariants as done
use Rattle.device.specs.declared.answers.HandleError.{HandleError}
use Rattle.device.specs.declared.answers.HandleError.TheVariants as error
use Rattle.link.specs.declared.receives.Replied.{Replied}

-- ---- numbers

-- one value for this number, and another value otherwise
abbrev at : {A : Type 0} → ℕ → ℕ → A → A → A
at x n a other = cond (eqb x n) a other

abbrev code_from : ℕ → Code
code_from n = at n 1 code.Sum (at n 2 code.Command (at n 3 code.Other code.FileType))

code_back : (c : Code) → code_from (code_number c) ≡ c
code_back code.Sum = refl
code_back code.Command = refl
code_back code.Other = refl
code_back code.FileType = refl

abbrev cause_from : ℕ → Cause
cause_from n = at n 15 cause.Sum (at n 31 cause.Command (at n 32 cause.Size (at n 33 cause.Field cause.BoxCommand)))

cause_back : (c : Cause) → cause_from (cause_number c) ≡ c
cause_back cause.Sum = refl
cause_back cause.Command = refl
cause_back cause.Size = refl
cause_back cause.Field = refl
cause_back cause.BoxCommand = refl

abbrev refusal_from : ℕ → Refusal
refusal_from n =
    at n 32 refusal.Size
    (at n 61 refusal.Empty
    (at n 62 refusal.TooBig
    (at n 64 refusal.HexLines (at n 63 refusal.Pieces (at n 65 refusal.Turn refusal.Piece)))))

-- ---- the answers

-- under 0: nothing, a count, a count and a command, or these and more
abbrev done_from : List ℕ → Handled
done_from [] = done.Nothing
done_from (count ∷ []) = done.Acknowledged count
done_from (count ∷ command ∷ []) = at command 0x1E (done.Stored count) (done.Stopped count)
done_from (count ∷ command ∷ v ∷ l) =
    at command 0x02 (done.InformationWanted v)
    (at command 0x04 (done.StatusWanted v)
    (at command 0x1A (done.Began count v) (done.Rejected count (code_from v) (cause_from (get_or l 0 0)))))

abbrev answer_from : Row → Result Handled HandleError
answer_from r =
    under r 0 (Ok (done_from r.values))
    (under r 17 (Err error.State)
    (under r 41 (Err error.Busy)
    (under r 21 (Err (error.Unwritten unwritten.Payload))
    (under r 22 (Err (error.Unwritten (unwritten.Room (value r 0))))
    (Ok (done.Refused (value r 0) (refusal_from r.number)))))))

refused_back : (count : ℕ) (why : Refusal)
    → answer_from (handle_row_of (Ok (done.Refused count why))) ≡ Ok (done.Refused count why)
refused_back count refusal.Size = refl
refused_back count refusal.Empty = refl
refused_back count refusal.TooBig = refl
refused_back count refusal.HexLines = refl
refused_back count refusal.Pieces = refl
refused_back count refusal.Turn = refl
refused_back count refusal.Piece = refl

answer_back : (a : Result Handled HandleError) → answer_from (handle_row_of a) ≡ a
answer_back (Ok done.Nothing) = refl
answer_back (Ok (done.InformationWanted number)) = refl
answer_back (Ok (done.StatusWanted number)) = refl
answer_back (Ok (done.Acknowledged count)) = refl
answer_back (Ok (done.Rejected count code cause)) = simp (code_back code, cause_back cause)
answer_back (Ok (done.Began count ready)) = refl
answer_back (Ok (done.Stored count)) = refl
answer_back (Ok (done.Stopped count)) = refl
answer_back (Ok (done.Refused count why)) = refused_back count why
answer_back (Err error.State) = refl
answer_back (Err error.Busy) = refl
answer_back (Err (error.Unwritten unwritten.Payload)) = refl
answer_back (Err (error.Unwritten (unwritten.Room needed))) = refl

-- ---- the waits

abbrev wait_from : List ℕ → Option Replied
wait_from [] = None
wait_from (command ∷ l) = Some (record { command = command; number = get_or l 0 0 })

abbrev ended_from : Row → Option Replied
ended_from r = wait_from r.values

ended_back : (a : Option Replied) → ended_from (ended_row_of a) ≡ a
ended_back None = refl
ended_back (Some wait) = refl

-- ---- the claims

pub rows_injective : RowsInjective
rows_injective =
    record {
      answers = injective_by handle_row_of answer_from answer_back;
      waits = injective_by ended_row_of ended_from ended_back;
    }

pub named_rows : RowsNamed
named_rows n m = record { replies = refl; rejected = refl; refused = refl; waits = refl }

pub contracts_complete : ContractsComplete
contracts_complete answer ended d buffer out y e =
    record {
      answer_is = ap (λ (z : After). z.row) e;
      ended_is = ap (λ (z : After). z.ended) e;
      transfer_is = ap (λ (z : After). z.transfer) e;
      link_is = ap (λ (z : After). z.link) e;
      buffer_is = ap (λ (z : After). z.buffer) e;
      out_is = ap (λ (z : After). z.out) e;
    }
