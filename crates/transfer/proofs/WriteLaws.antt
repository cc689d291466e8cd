-- What is written, and its row. Assumes nothing.
use Prim.Native.Nat.{ℕ, ◌+◌, ◌≤◌, ◌<◌}
use mathlib.Core.Path.{◌≡◌, sym, ap, subst}
use mathlib.Core.List.{List, [], ◌∷◌}
use native.Mathlib.Omega.{arith}
use borrow.Author.Tests.{lt-ltb, le-ltb, ltb-true, ltb-false}
use lib.Dec.{ltb}
use lib.ListN.{length}
use Rattle.std.specs.Prelude.{Result, Ok, Err, IsErrAnd}
use Rattle.base.specs.Writes.{unwritten_row_of}
use Rattle.base.specs.declared.writes.WriteError.{WriteError}
use Rattle.base.specs.Rows.{row}
use Rattle.base.specs.Outcomes.{Output, output, onto}
use Rattle.base.proofs.Tests.{either_way}
use Rattle.frame.specs.Wire.{body_of, frame_of}
use Rattle.frame.proofs.Stuffing.{stuffed_form}
use Rattle.transfer.specs.Table.{payload_row, began_row, error_row_of, arrive_row_of}
use Rattle.transfer.specs.declared.answers.Arrival.{Arrival}
use Rattle.transfer.specs.declared.answers.ArriveError.{ArriveError}
use Rattle.transfer.specs.declared.answers.ArriveError.TheVariants as error
use Rattle.transfer.specs.Writing.{ready_payload, pair_wire, pair_of}

-- why nothing was written, passed on
pub unwritten_as : (r : Result Arrival ArriveError) (why : WriteError)
    → IsErrAnd r (λ (e : ArriveError). e ≡ error.Unwritten why) → arrive_row_of r ≡ unwritten_row_of why
unwritten_as (Ok a) why h = absurd h
unwritten_as (Err e) why h = ap error_row_of h

-- ---- a frame without payload

module _ (command number : ℕ) where
  -- it has at most 16 bytes: two, and each of seven perhaps twice
  pub at_most_16 : length (frame_of command number 0 []) ≤ 16
  unfolding body_of
  at_most_16 = let h = (stuffed_form (body_of command number 0 [])).at_most_twice in omega (arith, h)

-- ---- a pair, in its three cases. All that is known of its definition is here

module _ (limit number next piece : ℕ) (code out : List ℕ) where
  abbrev wires : List ℕ
  wires = pair_wire number next piece code

  -- the length of the 1B
  abbrev size : ℕ
  size = length (ready_payload piece code) + 5

  pub pair_too_long : limit < size → pair_of limit number next piece code out ≡ output payload_row out
  pair_too_long h = rw (lt-ltb limit size h)

  module _ (within : size ≤ limit) where
    pub pair_no_room : length out < length wires
        → pair_of limit number next piece code out ≡ output (row 22 (length wires ∷ [])) out
    pair_no_room h = rw (le-ltb limit size within, lt-ltb (length out) (length wires) h)

    pub pair_put : length wires ≤ length out → pair_of limit number next piece code out
        ≡ output (began_row (length wires) (length (frame_of 0x1A number 0 []))) (onto wires out)
    pair_put h = rw (le-ltb limit size within, le-ltb (length out) (length wires) h)

  -- what holds in each case holds of the pair
  pub by_pair : (P : Output → Type 0) → (limit < size → P (output payload_row out))
      → (size ≤ limit → P (output (row 22 (length wires ∷ [])) out))
      → (size ≤ limit → P (output (began_row (length wires) (length (frame_of 0x1A number 0 []))) (onto wires out)))
      → P (pair_of limit number next piece code out)
  by_pair P long no_room put =
      either_way (ltb limit size)
      (λ e. let over = ltb-true limit size e in subst P (sym (pair_too_long over)) (long over))
      (λ e. let within = ltb-false limit size e in
      either_way (ltb (length out) (length wires))
      (λ r. subst P (sym (pair_no_room within (ltb-true (length out) (length wires) r))) (no_room within))
      (λ r. subst P (sym (pair_put within (ltb-false (length out) (length wires) r))) (put within)))
