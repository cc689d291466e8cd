-- What a 19 or a cancel asks of the link: it is accepted as the call is, or BUSY as the call is, or not asked. What an
-- accepted one wrote. Assumes nothing.
use Prim.Native.Nat.{ℕ}
use mathlib.Core.Path.{◌≡◌, refl, sym, ap, subst, ◌∙◌}
use mathlib.Core.Bool.{Bool, true, false, cond, not, true≢false}
use mathlib.Core.List.{List, [], ◌∷◌}
use borrow.Author.Tests.{eq-eqb, eqb-true}
use lib.Dec.{eqb, ltb}
use lib.ListN.{length, take, drop}
use lib.Seq.{take_at}
use Rattle.std.specs.Prelude.{None, Some}
use Rattle.base.specs.Keys.{among}
use Rattle.base.specs.Rows.{Row, row}
use Rattle.base.specs.Outcomes.{Outcome, Output, output, onto, written_in, placed, rowed}
use Rattle.base.proofs.Tests.{by_test, either_way}
use Rattle.frame.specs.Wire.{frame_of}
use Rattle.frame.specs.Calls.{write_of}
use Rattle.link.specs.Calls.{in_range, offer_in, offer_of}
use Rattle.link.specs.Sending.{may_wait}
use Rattle.link.specs.Table.{accepted_row}
use Rattle.link.specs.declared.state.Link.{Link}
use Rattle.link.specs.Sending.{Wait}
use Rattle.transfer.specs.Table.{payload_row, busy_row, wrote_row}
use Rattle.transfer.specs.Payloads.{faulty, size_in, code_in}
use Rattle.transfer.specs.Checks.{Test, test, first_refusal, in_range_of, size_tests, begin_tests, cancel_tests}
use Rattle.transfer.specs.Writing.{acknowledged, refused_of, pair_wire, pair_of}
use Rattle.transfer.specs.Calls.{Left, left, settled, Both, both, begin_of, cancel_of}
use Rattle.transfer.specs.declared.state.Transfer.{Transfer}
use Rattle.transfer.specs.Transfers.{absent, opened}
use Rattle.transfer.proofs.WriteLaws.{by_pair}
use Rattle.transfer.proofs.TestLaws.{passes, held_by}
use Rattle.transfer.proofs.Outcomes.{Others, other_refusal, Went, done, kept, went}

-- ---- what the link says of a command that may wait

module _ (first max : ℕ) (l : Link) (command clock : ℕ) (may : may_wait command ≡ true) where
  abbrev offered : Outcome Link
  offered = offer_of first max l command clock

  abbrev by_wait : Wait → Outcome Link
  by_wait w = offer_in w first l command clock

  is_in_range : in_range first max l ≡ true → offered ≡ by_wait l.waiting
  is_in_range h = rw (h, may)

  accepts : in_range first max l ≡ true → eqb offered.row.number 41 ≡ false → offered.row ≡ accepted_row l.next
  accepts h n =
      ap (λ (y : Outcome Link). y.row) (is_in_range h)
      ∙ go l.waiting (ap (λ (y : Outcome Link). eqb y.row.number 41) (sym (is_in_range h)) ∙ n)
    where
      go : (w : Wait) → eqb (by_wait w).row.number 41 ≡ false → (by_wait w).row ≡ accepted_row l.next
      go None q = refl
      go (Some w) q = absurd (true≢false q)

  refuses : eqb offered.row.number 41 ≡ true → (offered.row ≡ busy_row) × (offered.state ≡ l)
  refuses e = either_way (in_range first max l) inside outside
    where
      Busy : Outcome Link → Type 0
      Busy y = (y.row ≡ busy_row) × (y.state ≡ l)

      go : (w : Wait) → eqb (by_wait w).row.number 41 ≡ true → Busy (by_wait w)
      go None q = absurd (true≢false (sym q))
      go (Some w) q = (refl, refl)

      inside : in_range first max l ≡ true → Busy offered
      inside h =
          subst (λ y. Busy y) (sym (is_in_range h))
          (go l.waiting (ap (λ (y : Outcome Link). eqb y.row.number 41) (sym (is_in_range h)) ∙ e))

      outside : in_range first max l ≡ false → Busy offered
      outside h = absurd (true≢false (sym (rw h at e)))

-- ---- BUSY comes only from the test of the link

abbrev NotBusy : Output → Type 0
NotBusy v = eqb v.row.number 41 ≡ false

rowed_not : (f : ℕ → Row) → ((n : ℕ) → eqb (f n).number 41 ≡ false) → (w : Output) → NotBusy w → NotBusy (rowed f w)
rowed_not f made w h = by_test NotBusy (eqb w.row.number 0) (λ _. made (written_in w.row)) (λ _. h)

-- an output that is PAYLOAD, ROOM or written
module _ (large : Bool) (w out : List ℕ) where
  abbrev put : Output
  put = cond large (output payload_row out) (placed w out)

  put_not : NotBusy put
  put_not =
      by_test NotBusy large (λ _. refl) (λ _. by_test NotBusy (ltb (length out) (length w)) (λ _. refl) (λ _. refl))

  -- written, its front is the bytes
  pub put_front : (f : ℕ → Row) → ((n : ℕ) → written_in (f n) ≡ n) → (rowed f put).row.number ≡ 0
      → take (written_in (rowed f put).row) (rowed f put).out ≡ w
  put_front f counts e = go large (ltb (length out) (length w)) e
    where
      made : Bool → Bool → Output
      made a b =
          rowed f (cond a (output payload_row out)
          (cond b (output (row 22 (length w ∷ [])) out) (output (row 0 (length w ∷ [])) (onto w out))))

      go : (a b : Bool) → (made a b).row.number ≡ 0 → take (written_in (made a b).row) (made a b).out ≡ w
      go true b q = absurd (true≢false (sym (eq-eqb 21 0 q)))
      go false true q = absurd (true≢false (sym (eq-eqb 22 0 q)))
      go false false q = take_at w (drop (length w) out) (written_in (f (length w))) (sym (counts (length w)))

refused_not : (limit n number : ℕ) (out : List ℕ) → eqb n 41 ≡ false → NotBusy (refused_of limit n number out)
refused_not limit n number out h =
    by_test NotBusy (eqb n 17) (λ _. refl)
    (λ _. by_test NotBusy (eqb n 41) (λ e. absurd (true≢false (sym e ∙ h)))
    (λ _. rowed_not (λ count. row n (count ∷ [])) (λ _. h) (write_of limit 0x12 number 0 (3 ∷ []) out)
    (put_not (ltb limit 6) (frame_of 0x12 number 0 (3 ∷ [])) out)))

-- what a call leaves, by the number of its first refusal
module _ (limit number : ℕ) (w : Output) (out : List ℕ) (t : Transfer) (l : Link) (next : Both) where
  abbrev leaves : ℕ → Left Both
  leaves n = cond (eqb n 0) (settled w (both t l) next) (left (refused_of limit n number out) (both t l))

  busy_only : (n : ℕ) → NotBusy w → eqb (leaves n).row.number 41 ≡ true → n ≡ 41
  busy_only n k e = either_way (eqb n 41) (λ h. eqb-true n 41 h) (λ h. absurd (true≢false (sym e ∙ other h)))
    where
      other : eqb n 41 ≡ false → eqb (leaves n).row.number 41 ≡ false
      other h =
          by_test (λ (y : Left Both). eqb y.row.number 41 ≡ false) (eqb n 0) (λ _. k)
          (λ _. refused_not limit n number out h)

  busy_row_lem : (n : ℕ) → n ≡ 41 → (leaves n).row ≡ busy_row
  busy_row_lem n e = ap (λ k. (leaves k).row) e

-- the test of the link is the first that refuses
busy_test : (a b c busy : Bool) (ts : List Test) → Others 41 ts
    → first_refusal (test a 17 ∷ test b 17 ∷ test c 32 ∷ test busy 41 ∷ ts) ≡ 41 → busy ≡ true
busy_test a b c true ts h e = refl
busy_test a b c false ts h e =
    absurd (true≢false (sym (eq-eqb _ 41 e)
    ∙ other_refusal 41 (test a 17 ∷ test b 17 ∷ test c 32 ∷ ts) refl (refl, (refl, (refl, h)))))

-- ---- what a call asks of the link

may_ready : may_wait 0x1B ≡ true
unfolding among
may_ready = refl

may_cancel : may_wait 0x27 ≡ true
unfolding among
may_cancel = refl

-- `o` is what the link says of the command, `r` the call's row, and `after` the link that the call leaves
pub data Asked (l : Link) (o : Outcome Link) (r : Row) (after : Link) : Type 0 where
  taken : eqb r.number 0 ≡ true → o.row ≡ accepted_row l.next → after ≡ o.state → Asked l o r after
  busy : r ≡ busy_row → o.row ≡ busy_row → o.state ≡ l → after ≡ l → Asked l o r after
  unasked : eqb r.number 0 ≡ false → eqb r.number 41 ≡ false → after ≡ l → Asked l o r after

module _ (limit first max : ℕ) (t : Transfer) (l : Link) (clock : ℕ) where
  module _ (number : ℕ) (payload : List ℕ) (piece room : ℕ) (out : List ℕ) where
    abbrev ready : Outcome Link
    ready = offer_of first max l 0x1B clock

    abbrev refusal : ℕ
    refusal =
        first_refusal
        (begin_tests first max t l (eqb ready.row.number 41) (faulty 0x19 payload) (size_in payload) piece room)

    abbrev begun : Left Both
    begun = begin_of limit first max t l clock number payload piece room out

    abbrev pair : Output
    pair = pair_of limit number l.next piece (code_in payload) out

    abbrev begun_by : Both
    begun_by = both (opened (size_in payload) piece 0) ready.state

    begin_went : Went (both t l) begun_by begun refusal
    begin_went = went (both t l) begun_by limit refusal number pair out

    begin_ready : 0 ≡ refusal → ready.row ≡ accepted_row l.next
    begin_ready z =
        let p = passes (not (in_range_of t)) 17 refl z in
        let q = passes (not (in_range first max l)) 17 refl p.1 in
        let r = passes (faulty 0x19 payload) 32 refl q.1 in
        let s = passes (eqb ready.row.number 41) 41 refl r.1 in
        accepts first max l 0x1B clock may_ready (held_by _ q.0) s.0

    abbrev wires : List ℕ
    wires = pair_wire number l.next piece (code_in payload)

    pair_not : NotBusy pair
    pair_not =
        by_pair limit number l.next piece (code_in payload) out NotBusy (λ _. refl) (λ _. refl) (λ _. refl)

    -- written, its front is the two frames
    pair_front : pair.row.number ≡ 0 → take (written_in pair.row) pair.out ≡ wires
    pair_front =
        by_pair limit number l.next piece (code_in payload) out
        (λ (w : Output). w.row.number ≡ 0 → take (written_in w.row) w.out ≡ wires)
        (λ _ q. absurd (true≢false (sym (eq-eqb 21 0 q)))) (λ _ q. absurd (true≢false (sym (eq-eqb 22 0 q))))
        (λ _ q. take_at wires (drop (length wires) out) (length wires) refl)

    pub begin_asks : Asked l ready begun.row begun.state.link
    begin_asks = go begin_went
      where
        go : Went (both t l) begun_by begun refusal → Asked l ready begun.row begun.state.link
        go (done e z s) = taken e (begin_ready z) (ap (λ (b : Both). b.link) s)
        go (kept e s) =
            either_way (eqb begun.row.number 41)
            (λ h. let n = busy_only limit number pair out t l begun_by refusal pair_not h in
            let b = refuses first max l 0x1B clock may_ready
            (busy_test (not (in_range_of t)) (not (in_range first max l)) (faulty 0x19 payload)
            (eqb ready.row.number 41) (size_tests (size_in payload) piece room) (refl, (refl, (refl, tt))) n) in
            busy (busy_row_lem limit number pair out t l begun_by refusal n) b.0 b.1 (ap (λ (b : Both). b.link) s))
            (λ h. unasked e h (ap (λ (b : Both). b.link) s))

    -- accepted, the pair is written
    pub begin_writes : begun.row.number ≡ 0 → take (written_in begun.row) begun.out ≡ wires
    begin_writes e = go begin_went
      where
        made : ℕ → Left Both
        made n = leaves limit number pair out t l begun_by n

        go : Went (both t l) begun_by begun refusal → take (written_in begun.row) begun.out ≡ wires
        go (done h z s) =
            subst (λ n. take (written_in (made n).row) (made n).out ≡ wires) z
            (pair_front (subst (λ n. (made n).row.number ≡ 0) (sym z) e))
        go (kept h s) = absurd (true≢false (sym (eq-eqb begun.row.number 0 e) ∙ h))

  module _ (out : List ℕ) where
    abbrev offer : Outcome Link
    offer = offer_of first max l 0x27 clock

    abbrev refusing : ℕ
    refusing = first_refusal (cancel_tests first max t l (eqb offer.row.number 41))

    abbrev cancelled : Left Both
    cancelled = cancel_of limit first max t l clock out

    abbrev sent : Output
    sent = acknowledged limit 0x27 l.next out

    abbrev dropped : Both
    dropped = both absent offer.state

    cancel_went : Went (both t l) dropped cancelled refusing
    cancel_went = went (both t l) dropped limit refusing 0 sent out

    cancel_ready : 0 ≡ refusing → offer.row ≡ accepted_row l.next
    cancel_ready z =
        let p = passes (not (in_range_of t)) 17 refl z in
        let q = passes (not (in_range first max l)) 17 refl p.1 in
        let s = passes (eqb offer.row.number 41) 41 {k = 0} refl q.1 in
        accepts first max l 0x27 clock may_cancel (held_by _ q.0) s.0

    sent_not : NotBusy sent
    sent_not =
        rowed_not (wrote_row 0x27) (λ _. refl) (write_of limit 0x27 l.next 0 [] out)
        (put_not (ltb limit 5) (frame_of 0x27 l.next 0 []) out)

    pub cancel_asks : Asked l offer cancelled.row cancelled.state.link
    cancel_asks = go cancel_went
      where
        go : Went (both t l) dropped cancelled refusing → Asked l offer cancelled.row cancelled.state.link
        go (done e z s) = taken e (cancel_ready z) (ap (λ (b : Both). b.link) s)
        go (kept e s) =
            either_way (eqb cancelled.row.number 41)
            (λ h. let n = busy_only limit 0 sent out t l dropped refusing sent_not h in
            let b = refuses first max l 0x27 clock may_cancel
            (busy_test (not (in_range_of t)) (not (in_range first max l)) false (eqb offer.row.number 41) [] tt n) in
            busy (busy_row_lem limit 0 sent out t l dropped refusing n) b.0 b.1 (ap (λ (b : Both). b.link) s))
            (λ h. unasked e h (ap (λ (b : Both). b.link) s))

    -- accepted, the 27 is written
    pub cancel_writes : cancelled.row.number ≡ 0
        → take (written_in cancelled.row) cancelled.out ≡ frame_of 0x27 l.next 0 []
    cancel_writes e = go cancel_went
      where
        made : ℕ → Left Both
        made n = leaves limit 0 sent out t l dropped n

        go : Went (both t l) dropped cancelled refusing
            → take (written_in cancelled.row) cancelled.out ≡ frame_of 0x27 l.next 0 []
        go (done h z s) =
            subst (λ n. take (written_in (made n).row) (made n).out ≡ frame_of 0x27 l.next 0 []) z
            (put_front (ltb limit 5) (frame_of 0x27 l.next 0 []) out (wrote_row 0x27) (λ _. refl)
            (subst (λ n. (made n).row.number ≡ 0) (sym z) e))
        go (kept h s) = absurd (true≢false (sym (eq-eqb cancelled.row.number 0 e) ∙ h))
