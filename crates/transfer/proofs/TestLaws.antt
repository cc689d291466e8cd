-- The tests of the calls, in numbers. Assumes nothing.
use Prim.Native.Nat.{ℕ, zero, suc, ◌+◌, ◌-◌, ◌≤◌, ◌<◌}
use mathlib.Core.Path.{◌≡◌, refl, sym, ◌∙◌}
use mathlib.Core.Bool.{Bool, true, false, cond, not, ◌&&◌, ◌||◌, true≢false}
use mathlib.Core.Logic.{◌≢◌}
use mathlib.Core.List.{List}
use native.Mathlib.Omega.{arith, min_cases}
use borrow.Author.Tests.{eq-eqb, ne_eqb, eqb-true, ltb-true, ltb-false, leb-true}
use lib.Dec.{eqb, leb}
use lib.ListN.{length}
use Rattle.base.proofs.Tests.{both}
use Rattle.transfer.specs.Pieces.{pieces_of, start_of, piece_size}
use Rattle.transfer.specs.Checks.{first_refusal, in_range_of, in_turn, right_bytes}
use Rattle.transfer.specs.Checks.{hex_lines, open_tests}
use Rattle.transfer.proofs.PieceLaws.{below_end}
use Rattle.transfer.specs.Transfers.{opened}

-- ---- the bytes of a piece

module _ (size piece stored index : ℕ) (bytes buffer : List ℕ) where
  -- of the next one
  pub next_right : index ≢ stored → (count : ℕ) → count ≡ piece_size size piece stored
      → eqb (length bytes) count ≡ right_bytes size piece stored index bytes buffer
  next_right h count e = rw (e, ne_eqb index stored h)

-- the number just stored is in turn only where one is stored
pub stored_one : (index total stored : ℕ) → in_turn index total stored ≡ true → index ≡ stored → 1 ≤ stored
stored_one index total stored t e = ltb-true 0 stored (rw (eq-eqb index stored e) at t)

positive : (n : ℕ) → n ≢ 0 → 1 ≤ n
positive zero h = absurd (h refl)
positive (suc n) h = omega arith

pub or_true : (b : Bool) → (b || true) ≡ true
or_true true = refl
or_true false = refl

-- an open transfer in range has bytes, and pieces of some
pub open_sizes : (size piece stored : ℕ) → in_range_of (opened size piece stored) ≡ true → (1 ≤ size) × (1 ≤ piece)
open_sizes size piece stored h = (
  positive size (λ e. true≢false (sym h ∙ simp (eq-eqb size 0 e))),
  positive piece (λ e. true≢false (sym h ∙ simp (eq-eqb piece 0 e, or_true))),
)

-- ---- where no test refuses

-- one of them does not, and neither do those after it
pub passes : (b : Bool) (n : ℕ) {k : ℕ} → eqb n 0 ≡ false → 0 ≡ cond b n k → (b ≡ false) × (0 ≡ k)
passes true n h e = absurd (true≢false (sym (eq-eqb n 0 (sym e)) ∙ h))
passes false n h e = (refl, e)

-- a test that does not refuse, of something that should hold
pub held_by : (b : Bool) → not b ≡ false → b ≡ true
held_by true e = refl
held_by false e = absurd (true≢false e)

-- a piece of an open transfer that is accepted
pub record Accepted (size piece stored index total : ℕ) (bytes buffer : List ℕ) : Type 0 where
  pub roomy : size ≤ length buffer
  pub counted : total ≡ pieces_of size piece
  pub turned : in_turn index total stored ≡ true
  pub right : right_bytes size piece stored index bytes buffer ≡ true

pub accepted : (size piece stored flags index total : ℕ) (bytes buffer : List ℕ)
    → 0 ≡ first_refusal (open_tests size piece stored flags index total bytes buffer)
    → Accepted size piece stored index total bytes buffer
accepted size piece stored flags index total bytes buffer e =
    let a = passes _ 62 refl e in
    let b = passes (hex_lines flags) 64 refl a.1 in
    let c = passes _ 63 refl b.1 in
    let d = passes _ 65 refl c.1 in
    let f = passes _ 66 {k = 0} refl d.1 in
    record {
      roomy = ltb-false (length buffer) size a.0;
      counted = eqb-true total (pieces_of size piece) (held_by _ c.0);
      turned = held_by _ d.0;
      right = held_by _ f.0;
    }

-- of the next piece: its number and its size
module _ (size piece stored index total : ℕ) (bytes buffer : List ℕ) (h : index ≢ stored)
    (a : Accepted size piece stored index total bytes buffer) where
  next_turn : (eqb index (stored + 1) && leb index total) ≡ true
  next_turn = rw (ne_eqb index stored h) at a.turned

  pub next_index : index ≡ stored + 1
  next_index = eqb-true index (stored + 1) (both (eqb index (stored + 1)) next_turn).0

  pub next_listed : stored < pieces_of size piece
  next_listed =
      let b = leb-true index total (both (eqb index (stored + 1)) next_turn).1 in
      omega (arith, b, next_index, a.counted)

  pub next_size : length bytes ≡ piece_size size piece stored
  next_size = eqb-true (length bytes) (piece_size size piece stored) (rw (ne_eqb index stored h) at a.right)

  -- it has room
  pub next_fits : 1 ≤ piece → start_of piece stored + length bytes ≤ length buffer
  next_fits p =
      let start = below_end size piece p stored next_listed in
      min_cases piece (size - start_of piece stored) _
      (λ q e. omega (arith, start, a.roomy, next_size, q, e))
      (λ q e. omega (arith, start, a.roomy, next_size, q, e))
