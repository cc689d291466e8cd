-- A command without payload is written by its reading. Assumes nothing.
use Prim.Native.Nat.{ℕ}
use mathlib.Core.Path.{◌≡◌, refl}
use mathlib.Core.Bool.{Bool, true, false, cond, ◌&&◌}
use mathlib.Core.List.{List, [], ◌∷◌}
use lib.ListN.{length}
use lib.Dec.{eqb}
use Rattle.std.specs.Prelude.{Result, Ok, Err}
use Rattle.std.specs.Result.{IsErrAnd}
use Rattle.base.specs.Outcomes.{Output, output}
use Rattle.message.specs.Parts.{no_parts}
use Rattle.message.specs.Commands.{kind_of}
use Rattle.message.specs.Layouts.{is_listed, size_fits}
use Rattle.message.specs.Table.{Read, got, refusal, reading_of, send_row_of}
use Rattle.message.specs.Reading.{decode_of}
use Rattle.message.specs.Writing.{send_as, send_bare, send_of}
use Rattle.message.specs.declared.reader.ReadError.{ReadError}
use Rattle.message.specs.declared.reader.ReadError.TheVariants as refused
use Rattle.message.specs.declared.writer.SendError.{SendError}
use Rattle.message.specs.declared.values.Message.TheVariants as message
use Rattle.message.proofs.Tests.{and_true, and_false}
use Rattle.message.proofs.WrittenRead.{empty_read}

-- ---- no payload, by its reading

-- how an empty payload is read
abbrev empty : ℕ → Bool → Bool → Read
empty c listed sized = cond listed (cond sized (got (c ∷ []) no_parts) (refusal 32)) (refusal 31)

-- a command without payload is written where reading accepts it so, and refused as reading refuses it
pub empty_by_read : (limit c number flags : ℕ) (opaque out : List ℕ)
    → send_of limit (message.Empty c) number flags opaque out
    ≡ cond (eqb (decode_of c []).row.number 0) (send_bare limit true c number flags opaque [] out)
    (output (decode_of c []).row out)
empty_by_read limit c number flags opaque out =
    rw (empty_read (kind_of c) c) (go (is_listed (kind_of c)) (size_fits (kind_of c) []))
  where
    go : (l s : Bool)
        → send_as limit l (eqb (length opaque) 0 && s) true c number flags [] out
        ≡ cond (eqb (empty c l s).row.number 0) (send_bare limit true c number flags opaque [] out)
        (output (empty c l s).row out)
    go true true = rw and_true refl
    go true false = rw and_false refl
    go false s = refl

-- what reading refuses is refused under the same number
pub empty_refused :
    (limit c number flags : ℕ) (opaque out : List ℕ) (e : ReadError) (r : Result ℕ SendError)
    → reading_of (Err e) ≡ decode_of c []
    → IsErrAnd r (λ error. send_row_of (Err error) ≡ (reading_of (Err e)).row)
    → output (send_row_of r) out ≡ send_of limit (message.Empty c) number flags opaque out
empty_refused limit c number flags opaque out e (Ok count) read same = absurd same
empty_refused limit c number flags opaque out e (Err error) read same =
    rw (empty_by_read limit c number flags opaque out, ← read, same) (row_is _ e)
  where
    row_is : (w : Output) (e : ReadError)
        → output (reading_of (Err e)).row out
        ≡ cond (eqb (reading_of (Err e)).row.number 0) w (output (reading_of (Err e)).row out)
    row_is w refused.Command = refl
    row_is w refused.Size = refl
    row_is w refused.Field = refl
