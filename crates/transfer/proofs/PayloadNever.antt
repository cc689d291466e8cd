-- PAYLOAD comes only of a payload that is longer than any frame's. Assumes nothing.
use Prim.Native.Nat.{ℕ, ◌+◌, ◌≤◌}
use mathlib.Core.Path.{◌≡◌, refl, sym, ◌∙◌}
use mathlib.Core.Bool.{Bool, true, false, cond, not, true≢false}
use mathlib.Core.Logic.{◌≢◌}
use mathlib.Core.List.{List, [], ◌∷◌}
use native.Mathlib.Omega.{arith}
use borrow.Author.Tests.{eqb-false, le-ltb}
use lib.Dec.{eqb, ltb}
use lib.ListN.{length, length-append}
use Rattle.base.specs.Numbers.{two}
use Rattle.base.specs.Rows.{row}
use Rattle.base.specs.Outcomes.{Output, output, placed}
use Rattle.base.proofs.Tests.{by_test}
use Rattle.frame.specs.Wire.{frame_limit, frame_of}
use Rattle.frame.specs.Calls.{write_of}
use Rattle.link.specs.Calls.{in_range, offer_of}
use Rattle.transfer.specs.Payloads.{faulty, size_in, code_in, index_in, total_in, bytes_in}
use Rattle.transfer.specs.Table.{payload_row, wrote_row}
use Rattle.transfer.specs.Checks.{Test, first_refusal, in_range_of, begin_tests, store_tests, stop_tests}
use Rattle.transfer.specs.Checks.{cancel_tests}
use Rattle.transfer.specs.Writing.{acknowledged, refused_of, pair_of}
use Rattle.transfer.specs.Calls.{Left, left, settled, both, held, put_in}
use Rattle.transfer.specs.PayloadNever.{NeverPayload}
use Rattle.transfer.specs.Transfers.{open_of, absent, opened}
use Rattle.transfer.proofs.WriteLaws.{by_pair}
use Rattle.transfer.proofs.Outcomes.{Others, other_refusal, rowed_other}
use Rattle.transfer.proofs.PayloadsExact.{payloads_exact}
use Rattle.transfer.proofs.Refusals.{piece_others}

-- an output that is not PAYLOAD
abbrev Never : Output → Type 0
Never w = eqb w.row.number 21 ≡ false

-- what fits under the limit is placed
placed_never : (size : ℕ) (wire out : List ℕ) → size ≤ frame_limit
    → Never (cond (ltb frame_limit size) (output payload_row out) (placed wire out))
placed_never size wire out h =
    by_test Never (ltb frame_limit size) {x = output payload_row out} {y = placed wire out}
    (λ e. absurd (true≢false (sym e ∙ le-ltb frame_limit size h)))
    (λ _. by_test Never (ltb (length out) (length wire)) (λ _. refl) (λ _. refl))

acknowledged_never : (command number : ℕ) (out : List ℕ) → Never (acknowledged frame_limit command number out)
acknowledged_never command number out =
    rowed_other 21 (wrote_row command) (λ _. refl) (write_of frame_limit command number 0 [] out)
    (placed_never 5 (frame_of command number 0 []) out (omega arith))

refused_never : (n number : ℕ) (out : List ℕ) → eqb n 21 ≡ false → Never (refused_of frame_limit n number out)
refused_never n number out h =
    by_test Never (eqb n 17) (λ _. refl)
    (λ _. by_test Never (eqb n 41) (λ _. refl)
    (λ _. rowed_other 21 (λ count. row n (count ∷ [])) (λ _. h) (write_of frame_limit 0x12 number 0 (3 ∷ []) out)
    (placed_never 6 (frame_of 0x12 number 0 (3 ∷ [])) out (omega arith))))

pair_never : (number next piece : ℕ) (code out : List ℕ) → length code + 9 ≤ 1024
    → Never (pair_of frame_limit number next piece code out)
pair_never number next piece code out h =
    by_pair frame_limit number next piece code out Never
    (λ long. let e = length-append code (two piece []) in absurd (omega (arith, e, h, long))) (λ _. refl) (λ _. refl)

-- a call, by its tests and what it writes where none refuses
call_never : {S : Type 0} (before next : S) (number : ℕ) (out : List ℕ) (ts : List Test) (w : Output) → Others 21 ts
    → (eqb (first_refusal ts) 0 ≡ true → Never w)
    → (cond (eqb (first_refusal ts) 0) (settled w before next)
    (left (refused_of frame_limit (first_refusal ts) number out) before)).row.number ≢ 21
call_never {S} before next number out ts w o h =
    eqb-false _ 21
    (by_test (λ (y : Left S). eqb y.row.number 21 ≡ false) (eqb (first_refusal ts) 0) h
    (λ _. refused_never (first_refusal ts) number out (other_refusal 21 ts refl o)))

-- a 19 that is accepted has no fault
no_fault : (a b f : Bool) (rest : ℕ) → eqb (cond a 17 (cond b 17 (cond f 32 rest))) 0 ≡ true → f ≡ false
no_fault true b f rest e = absurd (true≢false (sym e))
no_fault false true f rest e = absurd (true≢false (sym e))
no_fault false false true rest e = absurd (true≢false (sym e))
no_fault false false false rest e = refl

pub payload_never : NeverPayload
payload_never first max t l clock number payload out =
    record {
      begins = λ piece room short.
          call_never (both t l) (both (opened (size_in payload) piece 0) (offer_of first max l 0x1B clock).state) number
          out
          (begin_tests first max t l (eqb (offer_of first max l 0x1B clock).row.number 41) (faulty 0x19 payload)
          (size_in payload) piece room) (pair_of frame_limit number l.next piece (code_in payload) out)
          (refl, (refl, (refl, (refl, (refl, (refl, (refl, tt)))))))
          (λ e. pair_never number l.next piece (code_in payload) out
          (let s = payloads_exact.code_size payload
          (no_fault (not (in_range_of t)) (not (in_range first max l)) (faulty 0x19 payload) _ e) in
          omega (arith, s, short)));
      stores = λ flags buffer.
          call_never (held t buffer) (put_in t (index_in payload) (bytes_in payload) buffer) number out
          (store_tests t flags (faulty 0x1D payload) (index_in payload) (total_in payload) (bytes_in payload) buffer)
          (acknowledged frame_limit 0x1E number out)
          (refl, (refl, piece_others 21 refl refl refl refl refl (open_of t) flags _ _ _ buffer))
          (λ _. acknowledged_never 0x1E number out);
      stops =
          call_never t absent number out (stop_tests t (faulty 0x1F payload)) (acknowledged frame_limit 0x20 number out)
          (refl, (refl, tt)) (λ _. acknowledged_never 0x20 number out);
      cancels =
          call_never (both t l) (both absent (offer_of first max l 0x27 clock).state) 0 out
          (cancel_tests first max t l (eqb (offer_of first max l 0x27 clock).row.number 41))
          (acknowledged frame_limit 0x27 l.next out) (refl, (refl, (refl, tt)))
          (λ _. acknowledged_never 0x27 l.next out);
    }
