-- write_rows, writes_injective and writes_complete. Assumes nothing.
use Prim.Native.Nat.{ℕ}
use Rattle.std.specs.Prelude.{Result, Ok, Err}
use mathlib.Core.Bool.{false}
use mathlib.Core.Path.{◌≡◌, refl, ap}
use mathlib.Core.List.{List}
use borrow.Author.Tests.{lt-ltb, le-ltb}
use lib.ListN.{length}
use lib.Dec.{eqb}
use Rattle.base.specs.Rows.{Row}
use Rattle.base.specs.Outcomes.{Output, output, rowed}
use Rattle.base.specs.Writes.{unwritten_row_of, write_row_of}
use Rattle.base.specs.WritesExact.{WriteRows, WritesInjective, WritesCompleteAlways}
use Rattle.base.specs.declared.writes.WriteError.{WriteError}
use Rattle.base.specs.declared.writes.WriteError.TheVariants as unwritten
use Rattle.base.proofs.Rows.{injective_by, under, value}

pub write_rows : (n : ℕ) → WriteRows n
write_rows n = record { wrote = refl; payload = refl; room = refl }

-- ---- an answer, read back from its row

-- why nothing was written
abbrev pub unwritten_from : Row → WriteError
unwritten_from r = under r 21 unwritten.Payload (unwritten.Room (value r 0))

pub unwritten_back : (a : WriteError) → unwritten_from (unwritten_row_of a) ≡ a
unwritten_back unwritten.Payload = refl
unwritten_back (unwritten.Room n) = refl

-- the whole of it
abbrev pub written_from : Row → Result ℕ WriteError
written_from r = under r 0 (Ok (value r 0)) (Err (unwritten_from r))

written_back : (a : Result ℕ WriteError) → written_from (write_row_of a) ≡ a
written_back (Ok c) = refl
written_back (Err unwritten.Payload) = refl
written_back (Err (unwritten.Room n)) = refl

pub writes_injective : WritesInjective
writes_injective =
    record {
      whys = injective_by unwritten_row_of unwritten_from unwritten_back;
      writings = injective_by write_row_of written_from written_back;
    }

-- equal outputs have the same row and the same buffer
module _ {a b : Output} (e : a ≡ b) where
  row_in : a.row ≡ b.row
  row_in = ap (λ (z : Output). z.row) e

  out_in : a.out ≡ b.out
  out_in = ap (λ (z : Output). z.out) e

pub writes_complete : WritesCompleteAlways
writes_complete r after =
    let same = writes_injective.writings in
    record {
      fixed = λ w e. (row_in e, out_in e);
      fits = λ bytes out e h.
          let whole = rw (le-ltb (length out) (length bytes) h) at e in
          (same r (Ok (length bytes)) (row_in whole), out_in whole);
      room = λ bytes out e h.
          let none = rw (lt-ltb (length out) (length bytes) h) at e in (
            same r (Err (unwritten.Room (length bytes))) (row_in none),
            out_in none,
          );
    }

-- ---- a refusal to write is passed on

-- it is not under 0
pub unwritten_refuses : (why : WriteError) → eqb (unwritten_row_of why).number 0 ≡ false
unwritten_refuses unwritten.Payload = refl
unwritten_refuses (unwritten.Room needed) = refl

-- so another row for a count does not show it otherwise
pub unwritten_rowed : (f : ℕ → Row) (why : WriteError) (out : List ℕ)
    → output (unwritten_row_of why) out ≡ rowed f (output (unwritten_row_of why) out)
unwritten_rowed f why out = rw (unwritten_refuses why)
