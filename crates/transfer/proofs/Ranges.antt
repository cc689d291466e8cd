-- The ranges of a transfer. Assumes nothing.
use Prim.Native.Nat.{ℕ, zero, suc, ◌+◌, ◌*◌, ◌≤◌, ◌<◌}
use mathlib.Core.Path.{◌≡◌, refl, sym, ap, ◌∙◌}
use mathlib.Core.Bool.{Bool, true, false, ◌&&◌, ◌||◌, true≢false}
use mathlib.Core.List.{List, [], ◌∷◌}
use native.Mathlib.Nat.{zero-mul, mul-le-mul_right, suc-mul}
use native.Mathlib.Omega.{arith}
use borrow.Author.Tests.{ne_eqb, eqb-false, leb-true, leb-false}
use lib.Dec.{eqb, leb}
use Rattle.std.specs.Prelude.{Option, Some, None}
use Rattle.base.specs.Rows.{Row, row}
use Rattle.base.proofs.Tests.{either_way}
use Rattle.transfer.specs.Pieces.{max_pieces, pieces_of}
use Rattle.transfer.specs.Checks.{in_range_of}
use Rattle.transfer.specs.Calls.{progress_in, progress_of}
use Rattle.transfer.specs.Logs.{Call, beginning, storing, stopping, cancelling}
use Rattle.transfer.specs.LogsComputed.{call_of}
use Rattle.transfer.specs.History.{LinkOut}
use Rattle.transfer.specs.Ranges.{LinkIn, OutOfRange, InRange, TransferRanges, ProgressExact}
use Rattle.transfer.specs.declared.state.Open.{Open}
use Rattle.transfer.specs.declared.state.Transfer.{Transfer}
use Rattle.transfer.specs.Transfers.{open_of, absent, opened}
use Rattle.transfer.proofs.PieceLaws.{below_end, reaches_end}
use Rattle.transfer.proofs.TestLaws.{or_true}
use Rattle.transfer.proofs.Histories.{state_link}

and_false : (b : Bool) → (b && false) ≡ false
and_false true = refl
and_false false = refl

-- ---- by the test

state_of : (t : Transfer) → in_range_of t ≡ false → (limit first max : ℕ) (buffer : List ℕ) (c : Call)
    → call_of limit first max t buffer c ≡ record { row = row 17 (0 ∷ []); transfer = t; buffer = buffer }
state_of t h limit first max buffer (beginning l clock number payload piece out) = simp h
state_of t h limit first max buffer (storing number flags payload out) = simp h
state_of t h limit first max buffer (stopping number payload out) = simp h
state_of t h limit first max buffer (cancelling l clock out) = simp h

out_of : (t : Transfer) → in_range_of t ≡ false → OutOfRange t
out_of t h = record { calls = state_of t h; progress = rw h; test = h }

-- a link is in range or out of it
not_both : (first max : ℕ) (c : Call) → LinkIn first max c → LinkOut first max c → ⊥
not_both first max (beginning l clock number payload piece out) a b = true≢false (sym a ∙ b)
not_both first max (storing number flags payload out) a b = b
not_both first max (stopping number payload out) a b = b
not_both first max (cancelling l clock out) a b = true≢false (sym a ∙ b)

shown : (o : Option Open) → (progress_in o).number ≡ 0
shown None = refl
shown (Some o) = refl

in_of : (t : Transfer) → in_range_of t ≡ true → InRange t
in_of t h =
    record {
      calls = λ limit first max buffer c l e. not_both first max c l (state_link limit first max t buffer h c e);
      progress = λ e.
          let z = sym (shown (open_of t)) ∙ ap (λ (r : Row). r.number) (sym shows) ∙ e in
          absurd (omega (arith, z));
      test = h;
    }
  where
    shows : progress_of t ≡ progress_in (open_of t)
    shows = rw h

-- ---- the test, in numbers

module _ (size piece stored : ℕ) where
  some : 1 ≤ size → 1 ≤ piece → (eqb size 0 || eqb piece 0) ≡ false
  some s p = rw (ne_eqb size 0 (λ e. absurd (omega (arith, s, e))), ne_eqb piece 0 (λ e. absurd (omega (arith, p, e))))

  module _ (p : 1 ≤ piece) where
    few : size ≤ 65535 * piece → leb (pieces_of size piece) max_pieces ≡ true
    few h =
        either_way (leb (pieces_of size piece) max_pieces) (λ e. e)
        (λ e. let more = leb-false (pieces_of size piece) max_pieces e in
        let inside = below_end size piece p 65535 more in absurd (omega (arith, inside, h)))

    many : 65535 * piece < size → leb (pieces_of size piece) max_pieces ≡ false
    many h =
        either_way (leb (pieces_of size piece) max_pieces)
        (λ e. let most = mul-le-mul_right {m = pieces_of size piece} {n = 65535} piece
        (leb-true (pieces_of size piece) max_pieces e) in
        let all = reaches_end size piece p in absurd (omega (arith, most, all, h)))
        (λ e. e)

    enough : stored * piece < size + piece → leb stored (pieces_of size piece) ≡ true
    enough h =
        either_way (leb stored (pieces_of size piece)) (λ e. e)
        (λ e. let more = leb-false stored (pieces_of size piece) e in
        let grown = mul-le-mul_right {m = suc (pieces_of size piece)} {n = stored} piece (omega (arith, more)) in
        let all = reaches_end size piece p in
        absurd (omega (arith, grown, all, h, suc-mul (pieces_of size piece) piece)))

    too_far : 1 ≤ size → size + piece ≤ stored * piece → leb stored (pieces_of size piece) ≡ false
    too_far s h =
        either_way (leb stored (pieces_of size piece))
        (λ e. absurd (within (pieces_of size piece) refl (leb-true stored (pieces_of size piece) e)))
        (λ e. e)
      where
        within : (n : ℕ) → pieces_of size piece ≡ n → stored ≤ n → ⊥
        within zero q l =
            let all = reaches_end size piece p in
            let none : pieces_of size piece * piece ≡ 0 = ap (λ k. k * piece) q ∙ zero-mul piece in
            absurd (omega (arith, all, none, s))
        within (suc n) q l =
            let inside = below_end size piece p n (omega (arith, q)) in
            let most = mul-le-mul_right {m = stored} {n = suc n} piece l in
            absurd (omega (arith, inside, most, h, suc-mul n piece))

-- a transfer without bytes, or with pieces of none
empty_out : (size piece stored : ℕ) → (eqb size 0 || eqb piece 0) ≡ true
    → in_range_of (opened size piece stored) ≡ false
empty_out size piece stored e = rw e

-- of any sizes, by whether they are 0
by_sizes : (size piece stored : ℕ) → (1 ≤ size → 1 ≤ piece → in_range_of (opened size piece stored) ≡ false)
    → in_range_of (opened size piece stored) ≡ false
by_sizes size piece stored f =
    either_way (eqb size 0) (λ e. empty_out size piece stored (rw e))
    (λ e. either_way (eqb piece 0) (λ q. empty_out size piece stored (rw q (or_true (eqb size 0))))
    (λ q. let s = eqb-false size 0 e in let p = eqb-false piece 0 q in f (omega (arith, s)) (omega (arith, p))))

pub transfer_ranges : TransferRanges
transfer_ranges =
    record {
      absent_in = in_of absent refl;
      open_in = λ size piece stored s p m t. in_of (opened size piece stored)
          (rw (some size piece stored s p, few size piece stored p m, enough size piece stored p t));
      size_out = λ piece stored. out_of (opened 0 piece stored) (empty_out 0 piece stored refl);
      piece_out = λ size stored. out_of (opened size 0 stored) (empty_out size 0 stored (or_true (eqb size 0)));
      many_out = λ size piece stored m. out_of (opened size piece stored)
          (by_sizes size piece stored (λ s p. rw (some size piece stored s p, many size piece stored p m)));
      stored_out = λ size piece stored m. out_of (opened size piece stored)
          (by_sizes size piece stored (λ s p. rw (
            some size piece stored s p,
            too_far size piece stored p s m,
          ) (and_false (leb (pieces_of size piece) max_pieces))));
    }

pub progress_exact : ProgressExact
progress_exact = record { absent = refl; opened = λ size piece stored h. rw h }
