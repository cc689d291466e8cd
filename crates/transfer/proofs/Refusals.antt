-- What a refused call leaves. Assumes nothing.
use Prim.Native.Nat.{ℕ, ◌+◌}
use mathlib.Core.Path.{◌≡◌, refl, sym, ap, ◌∙◌}
use mathlib.Core.Bool.{Bool, true, false, cond, not, true≢false}
use mathlib.Core.Logic.{◌≢◌}
use mathlib.Core.List.{List, [], ◌∷◌}
use borrow.Author.Tests.{ne_eqb, eqb-true}
use lib.Dec.{eqb, ltb}
use lib.ListN.{length}
use Rattle.std.specs.Prelude.{Option, Some, None}
use Rattle.base.specs.Keys.{among}
use Rattle.base.specs.Rows.{Row, row}
use Rattle.base.specs.Outcomes.{Output, output, onto, placed, rowed}
use Rattle.base.proofs.Tests.{by_test, either_way}
use Rattle.frame.specs.Wire.{frame_of}
use Rattle.frame.specs.Calls.{write_of}
use Rattle.link.specs.Calls.{in_range, offer_of}
use Rattle.link.specs.declared.state.Link.{Link}
use Rattle.transfer.specs.Payloads.{faulty, size_in, code_in, index_in, total_in, bytes_in}
use Rattle.transfer.specs.Table.{payload_row, wrote_row}
use Rattle.transfer.specs.Checks.{Test, first_refusal, in_range_of, piece_tests, begin_tests, store_tests, stop_tests}
use Rattle.transfer.specs.Checks.{cancel_tests}
use Rattle.transfer.specs.Writing.{acknowledged, rejection_of, refused_of, pair_of}
use Rattle.transfer.specs.Calls.{Left, left, settled, Both, both, held, put_in, cancel_of}
use Rattle.transfer.specs.Refusals.{silent, twelve, Kept, RefusedAlways}
use Rattle.transfer.specs.declared.state.Open.{Open}
use Rattle.transfer.specs.declared.state.Transfer.{Transfer}
use Rattle.transfer.specs.Transfers.{open_of, absent, opened}
use Rattle.transfer.proofs.WriteLaws.{by_pair}
use Rattle.transfer.proofs.Outcomes.{Others, other_refusal}

-- an output that is refused leaves the caller's output
abbrev Plain : List ℕ → Output → Type 0
Plain out w = eqb w.row.number 0 ≡ false → (among w.row.number silent ≡ true) × (w.out ≡ out)

write_plain : (limit command number flags : ℕ) (payload out : List ℕ)
    → Plain out (write_of limit command number flags payload out)
unfolding among
write_plain limit command number flags payload out =
    by_test (Plain out) (ltb limit (length payload + 5)) {x = output payload_row out}
    {y = placed (frame_of command number flags payload) out} (λ _ _. (refl, refl))
    (λ _. by_test (Plain out) (ltb (length out) (length (frame_of command number flags payload))) (λ _ _. (refl, refl))
    (λ _ e. absurd (true≢false e)))

-- a row that is written anew under 0
rowed_plain : (f : ℕ → Row) → ((n : ℕ) → (f n).number ≡ 0) → (out : List ℕ) (w : Output) → Plain out w
    → Plain out (rowed f w)
rowed_plain f z out w h =
    by_test (Plain out) (eqb w.row.number 0)
    (λ _ e. absurd (true≢false (sym (ap (λ k. eqb k 0) (z _)) ∙ e))) (λ _. h)

pair_plain : (limit number next piece : ℕ) (code out : List ℕ) → Plain out (pair_of limit number next piece code out)
unfolding among
pair_plain limit number next piece code out =
    by_pair limit number next piece code out (Plain out) (λ _ _. (refl, refl)) (λ _ _. (refl, refl))
    (λ _ e. absurd (true≢false e))

acknowledged_plain : (limit command number : ℕ) (out : List ℕ) → Plain out (acknowledged limit command number out)
acknowledged_plain limit command number out =
    rowed_plain (wrote_row command) (λ _. refl) out (write_of limit command number 0 [] out)
    (write_plain limit command number 0 [] out)

-- ---- done, or as it was

module _ {S : Type 0} (before next : S) (number : ℕ) (out : List ℕ) where
  -- an answer that is not refused
  zero_kept : (y : Left S) → eqb y.row.number 0 ≡ true → Kept S y before number out
  unfolding among
  zero_kept y e =
      let z = eqb-true y.row.number 0 e in
      record {
        unchanged = λ n. absurd (n z);
        nothing_written = λ a. absurd (true≢false (sym a ∙ ap (λ k. among k silent) z));
        rejected = λ n. absurd (n z);
      }

  -- one that is silent
  silent_kept : (y : Left S) → among y.row.number silent ≡ true → y.state ≡ before → y.out ≡ out
      → Kept S y before number out
  silent_kept y a s o =
      record {
        unchanged = λ _. s;
        nothing_written = λ _. o;
        rejected = λ _ b. absurd (true≢false (sym a ∙ b));
      }

  settled_kept : (w : Output) → Plain out w → Kept S (settled w before next) before number out
  settled_kept w h =
      either_way (eqb w.row.number 0) (λ e. zero_kept (settled w before next) e)
      (λ e. silent_kept (settled w before next) (h e).0 (rw e) (h e).1)

  -- a 12
  twelve_kept : (n : ℕ) → among n silent ≡ false
      → Kept S (left (output (row n (length (twelve number) ∷ [])) (onto (twelve number) out)) before) before number out
  twelve_kept n a =
      record {
        unchanged = λ _. refl;
        nothing_written = λ b. absurd (true≢false (sym b ∙ a));
        rejected = λ _ _. (refl, refl);
      }

  rejection_kept : (limit n : ℕ) → among n silent ≡ false
      → Kept S (left (rejection_of limit n number out) before) before number out
  unfolding among
  rejection_kept limit n a =
      by_test (λ (w : Output). Kept S (left (rowed (λ count. row n (count ∷ [])) w) before) before number out)
      (ltb limit 6) {x = output payload_row out} {y = placed (twelve number) out} (λ _. silent_kept _ refl refl refl)
      (λ _. by_test (λ (w : Output). Kept S (left (rowed (λ count. row n (count ∷ [])) w) before) before number out)
      (ltb (length out) (length (twelve number))) (λ _. silent_kept _ refl refl refl) (λ _. twelve_kept n a))

  -- a refusal, which is never PAYLOAD or ROOM by its tests
  refused_by : (limit n : ℕ) → eqb n 21 ≡ false → eqb n 22 ≡ false
      → Kept S (left (refused_of limit n number out) before) before number out
  unfolding among
  refused_by limit n b c =
      by_test (λ (w : Output). Kept S (left w before) before number out) (eqb n 17)
      (λ _. silent_kept _ refl refl refl)
      (λ a. by_test (λ (w : Output). Kept S (left w before) before number out) (eqb n 41)
      (λ _. silent_kept _ refl refl refl) (λ d. rejection_kept limit n (rw (a, b, c, d))))

  call_kept : (limit : ℕ) (ts : List Test) (w : Output) → Others 21 ts → Others 22 ts → Plain out w
      → Kept S (cond (eqb (first_refusal ts) 0) (settled w before next)
      (left (refused_of limit (first_refusal ts) number out)
      before)) before number out
  call_kept limit ts w a b h =
      by_test (λ (y : Left S). Kept S y before number out) (eqb (first_refusal ts) 0) (λ _. settled_kept w h)
      (λ _. refused_by limit (first_refusal ts) (other_refusal 21 ts refl a) (other_refusal 22 ts refl b))

-- ---- the calls

pub piece_others : (k : ℕ) → eqb 62 k ≡ false → eqb 63 k ≡ false → eqb 64 k ≡ false → eqb 65 k ≡ false
    → eqb 66 k ≡ false → (o : Option Open) (flags index total : ℕ) (bytes buffer : List ℕ)
    → Others k (piece_tests o flags index total bytes buffer)
piece_others k a b c d e None flags index total bytes buffer = (c, (d, tt))
piece_others k a b c d e (Some o) flags index total bytes buffer = (a, (c, (b, (d, (e, tt)))))

-- a cancel is STATE, BUSY or ROOM
module _ (limit first max : ℕ) (t : Transfer) (l : Link) (clock : ℕ) (out : List ℕ) where
  abbrev Silent : ℕ → Type 0
  Silent n = eqb n 0 ≡ false → among (refused_of limit n 0 out).row.number silent ≡ true

  tests_silent : (a b c : Bool) → Silent (cond a 17 (cond b 17 (cond c 41 0)))
  unfolding among
  tests_silent a b c =
      by_test Silent a (λ _ _. refl)
      (λ _. by_test Silent b (λ _ _. refl) (λ _. by_test Silent c (λ _ _. refl) (λ _ e. absurd (true≢false e))))

  cancel_silent : (cancel_of limit first max t l clock out).row.number ≢ 0
      → among (cancel_of limit first max t l clock out).row.number silent ≡ true
  cancel_silent =
      by_test (λ (y : Left Both). y.row.number ≢ 0 → among y.row.number silent ≡ true)
      (eqb (first_refusal (cancel_tests first max t l (eqb (offer_of first max l 0x27 clock).row.number 41))) 0)
      (λ _ n. (acknowledged_plain limit 0x27 l.next out (ne_eqb _ 0 n)).0)
      (λ e _. tests_silent (not (in_range_of t)) (not (in_range first max l))
      (eqb (offer_of first max l 0x27 clock).row.number 41) e)

pub refused_kept : RefusedAlways
refused_kept limit first max t l clock number payload out =
    record {
      begins = λ piece room.
          call_kept (both t l) (both (opened (size_in payload) piece 0) (offer_of first max l 0x1B clock).state) number
          out limit
          (begin_tests first max t l (eqb (offer_of first max l 0x1B clock).row.number 41) (faulty 0x19 payload)
          (size_in payload) piece room) (pair_of limit number l.next piece (code_in payload) out)
          (refl, (refl, (refl, (refl, (refl, (refl, (refl, tt)))))))
          (refl, (refl, (refl, (refl, (refl, (refl, (refl, tt)))))))
          (pair_plain limit number l.next piece (code_in payload) out);
      stores = λ flags buffer.
          call_kept (held t buffer) (put_in t (index_in payload) (bytes_in payload) buffer) number out limit
          (store_tests t flags (faulty 0x1D payload) (index_in payload) (total_in payload) (bytes_in payload) buffer)
          (acknowledged limit 0x1E number out)
          (refl, (refl, piece_others 21 refl refl refl refl refl (open_of t) flags _ _ _ buffer))
          (refl, (refl, piece_others 22 refl refl refl refl refl (open_of t) flags _ _ _ buffer))
          (acknowledged_plain limit 0x1E number out);
      stops =
          call_kept t absent number out limit (stop_tests t (faulty 0x1F payload)) (acknowledged limit 0x20 number out)
          (refl, (refl, tt)) (refl, (refl, tt)) (acknowledged_plain limit 0x20 number out);
      cancels =
          call_kept (both t l) (both absent (offer_of first max l 0x27 clock).state) 0 out limit
          (cancel_tests first max t l (eqb (offer_of first max l 0x27 clock).row.number 41))
          (acknowledged limit 0x27 l.next out) (refl, (refl, (refl, tt))) (refl, (refl, (refl, tt)))
          (acknowledged_plain limit 0x27 l.next out);
      never_12 = cancel_silent limit first max t l clock out;
    }
