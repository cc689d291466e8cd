-- calls_asked: the tests of a call do not depend on its output, and none of them is ROOM. Assumes nothing.
use Prim.Native.Nat.{ℕ, ◌+◌}
use mathlib.Core.Path.{refl, ap}
use mathlib.Core.Logic.{◌≢◌}
use mathlib.Core.Bool.{cond}
use mathlib.Core.List.{List, [], ◌∷◌}
use native.Mathlib.Omega.{arith}
use borrow.Author.Tests.{eqb-false, ltb-true, ltb-false}
use lib.Dec.{eqb, ltb}
use lib.ListN.{length}
use Rattle.base.specs.Rows.{Row, row}
use Rattle.base.specs.Outcomes.{Output, output}
use Rattle.base.specs.Asking.{AsksOnce}
use Rattle.base.proofs.Asking.{asks_never, asks_as, asks_either, asks_by, asks_rowed}
use Rattle.base.proofs.Tests.{either_way}
use Rattle.frame.specs.Wire.{frame_of}
use Rattle.frame.specs.Calls.{write_of}
use Rattle.frame.proofs.WriterExact.{write_asked}
use Rattle.link.specs.Calls.{offer_of}
use Rattle.transfer.specs.Table.{state_row, busy_row, payload_row, wrote_row, began_row}
use Rattle.transfer.specs.Payloads.{faulty, size_in, code_in, index_in, total_in, bytes_in}
use Rattle.transfer.specs.Checks.{Test, first_refusal, begin_tests, store_tests, stop_tests, cancel_tests}
use Rattle.transfer.specs.Writing.{acknowledged, rejection_of, refused_of, ready_payload, pair_wire, pair_of}
use Rattle.transfer.specs.Calls.{Left, left, settled, both, held, put_in}
use Rattle.transfer.specs.Asking.{AllAsked}
use Rattle.transfer.specs.Transfers.{open_of, absent, opened}
use Rattle.transfer.proofs.WriteLaws.{pair_too_long, pair_no_room, pair_put}
use Rattle.transfer.proofs.Outcomes.{Others, other_refusal}
use Rattle.transfer.proofs.Refusals.{piece_others}

-- ---- what the calls write

abbrev row_in : Output → Row
row_in w = w.row

module _ (limit : ℕ) where
  acknowledged_asks : (command number : ℕ) → AsksOnce (λ out. (acknowledged limit command number out).row)
  acknowledged_asks command number =
      asks_rowed (wrote_row command) (λ n e. omega arith) (λ n. refl) (λ out. write_of limit command number 0 [] out)
      (write_asked limit command number 0 [])

  pair_asks : (number next piece : ℕ) (code : List ℕ) → AsksOnce (λ out. (pair_of limit number next piece code out).row)
  pair_asks number next piece code =
      let size : ℕ = length (ready_payload piece code) + 5 in
      let wires : List ℕ = pair_wire number next piece code in
      let answer : List ℕ → Row = λ out. (pair_of limit number next piece code out).row in
      either_way (ltb limit size)
      (λ e. asks_as (λ out. payload_row) answer
      (λ out. ap row_in (pair_too_long limit number next piece code out (ltb-true limit size e)))
      (asks_never payload_row (λ z. omega arith)))
      (λ e. let within = ltb-false limit size e in
      asks_by wires answer (began_row (length wires) (length (frame_of 0x1A number 0 [])))
      (λ out h. ap row_in (pair_no_room limit number next piece code out within h))
      (λ out h. ap row_in (pair_put limit number next piece code out within h)) (λ z. omega arith) refl)

  -- a 12, by a refusal that is not ROOM itself
  refused_asks : (refusal number : ℕ) → refusal ≢ 22 → AsksOnce (λ out. (refused_of limit refusal number out).row)
  refused_asks refusal number h =
      let rejects : List ℕ → Output = λ out. rejection_of limit refusal number out in
      let state : List ℕ → Output = λ out. output state_row out in
      let busy : List ℕ → Output = λ out. output busy_row out in
      asks_either row_in (eqb refusal 17) state (λ out. cond (eqb refusal 41) (busy out) (rejects out))
      (asks_never state_row (λ e. omega arith))
      (asks_either row_in (eqb refusal 41) busy rejects (asks_never busy_row (λ e. omega arith))
      (asks_rowed (λ count. row refusal (count ∷ [])) (λ n. h) (λ n. refl)
      (λ out. write_of limit 0x12 number 0 (3 ∷ []) out) (write_asked limit 0x12 number 0 (3 ∷ []))))

  -- a call, by its tests and what it writes where none refuses
  call_asks : {S : Type 0} (before next : S) (number : ℕ) (ts : List Test) → Others 22 ts → (w : List ℕ → Output)
      → AsksOnce (λ out. (w out).row)
      → AsksOnce (λ out. (cond (eqb (first_refusal ts) 0) (settled (w out) before next)
      (left (refused_of limit (first_refusal ts) number out) before)).row)
  call_asks {S} before next number ts others w asks =
      asks_either (λ (y : Left S). y.row) (eqb (first_refusal ts) 0) (λ out. settled (w out) before next)
      (λ out. left (refused_of limit (first_refusal ts) number out) before) asks
      (refused_asks (first_refusal ts) number (eqb-false (first_refusal ts) 22 (other_refusal 22 ts refl others)))

-- ---- each call

pub calls_asked : AllAsked
calls_asked limit first max t l clock number payload =
    record {
      begins = λ piece room.
          call_asks limit (both t l) (both (opened (size_in payload) piece 0) (offer_of first max l 0x1B clock).state)
          number
          (begin_tests first max t l (eqb (offer_of first max l 0x1B clock).row.number 41) (faulty 0x19 payload)
          (size_in payload) piece room)
          (refl, (refl, (refl, (refl, (refl, (refl, (refl, tt)))))))
          (λ out. pair_of limit number l.next piece (code_in payload) out)
          (pair_asks limit number l.next piece (code_in payload));
      stores = λ flags buffer.
          call_asks limit (held t buffer) (put_in t (index_in payload) (bytes_in payload) buffer) number
          (store_tests t flags (faulty 0x1D payload) (index_in payload) (total_in payload) (bytes_in payload) buffer)
          (refl, (refl, piece_others 22 refl refl refl refl refl (open_of t) flags _ _ _ buffer))
          (λ out. acknowledged limit 0x1E number out) (acknowledged_asks limit 0x1E number);
      stops =
          call_asks limit t absent number (stop_tests t (faulty 0x1F payload)) (refl, (refl, tt))
          (λ out. acknowledged limit 0x20 number out) (acknowledged_asks limit 0x20 number);
      cancels =
          call_asks limit (both t l) (both absent (offer_of first max l 0x27 clock).state) 0
          (cancel_tests first max t l (eqb (offer_of first max l 0x27 clock).row.number 41))
          (refl, (refl, (refl, tt)))
          (λ out. acknowledged limit 0x27 l.next out) (acknowledged_asks limit 0x27 l.next);
    }
