-- A 19 that is accepted or refused, at any clock, and the ranges of a transfer that passes its test. Assumes nothing.
use Rattle.std.specs.Prelude.{Option, None, Some}
use Prim.Native.Nat.{ℕ, ◌+◌, ◌*◌}
use mathlib.Core.Path.{◌≡◌, refl, sym, ap, ◌∙◌}
use mathlib.Core.Logic.{◌≢◌}
use mathlib.Core.Bool.{Bool, true, false, cond, not, true≢false}
use mathlib.Core.List.{List, [], ◌∷◌}
use native.Mathlib.Omega.{arith}
use borrow.Author.Tests.{eqb-true, eqb-false, leb-true, leb-false, ltb-true, ltb-false, eq-eqb}
use lib.Dec.{eqb, leb, ltb}
use Rattle.base.specs.Rows.{Row, row}
use Rattle.base.specs.Outcomes.{Outcome, outcome, Output, rowed}
use Rattle.base.proofs.Tests.{by_test, either_way}
use Rattle.link.specs.Sending.{may_wait}
use Rattle.link.specs.Calls.{in_range, offer_in, offer_of}
use Rattle.link.specs.declared.state.Link.{Link}
use Rattle.link.specs.Sending.{Wait}
use Rattle.transfer.specs.Payloads.{faulty, size_in}
use Rattle.transfer.specs.Checks.{Test, first_refusal, in_range_of, begin_tests}
use Rattle.transfer.specs.Writing.{refused_of}
use Rattle.transfer.specs.Calls.{Left, Both, begin_by, begin_of}
use Rattle.transfer.specs.Ranges.{InRange}
use Rattle.transfer.specs.declared.state.Transfer.{Transfer}
use Rattle.transfer.specs.declared.state.Open.{Open}
use Rattle.transfer.specs.Transfers.{open_of, opened}
use Rattle.transfer.proofs.Ranges.{transfer_ranges}
use Rattle.device.proofs.ReplyLaws.{by_write}

-- what a refusal writes is not under 0
not_done : (limit n number : ℕ) (out : List ℕ) → eqb n 0 ≡ false → (refused_of limit n number out).row.number ≢ 0
not_done limit n number out z =
    by_test Done (eqb n 17) (λ _. eqb-false 17 0 refl)
    λ _. by_test Done (eqb n 41) (λ _. eqb-false 41 0 refl)
    λ _. by_write (λ (w : Output). Done (rowed (λ count. row n (count ∷ [])) w)) limit 0x12 number (3 ∷ []) out
    (eqb-false 21 0 refl) (λ _. eqb-false 22 0 refl) λ _ _. eqb-false n 0 z
  where
    Done : Output → Type 0
    Done w = w.row.number ≢ 0

-- ---- a 19

module _ (limit first max : ℕ) (t : Transfer) (l : Link) (clock number : ℕ) (payload : List ℕ) (piece room : ℕ)
    (out : List ℕ) where
  abbrev begun : Left Both
  begun = begin_of limit first max t l clock number payload piece room out

  -- what the link says of the 1B
  abbrev offered : Outcome Link
  offered = offer_of first max l 0x1B clock

  -- the tests, by whether the link refuses it
  abbrev tests : Bool → List Test
  tests busy = begin_tests first max t l busy (faulty 0x19 payload) (size_in payload) piece room

  abbrev refusal : ℕ
  refusal = first_refusal (tests (eqb offered.row.number 41))

  -- where it is accepted, the 1B waits
  pub begin_waits : begun.row.number ≡ 0 → begun.state.link ≡ offered.state
  begin_waits =
      by_test (λ (y : Left Both). y.row.number ≡ 0 → y.state.link ≡ offered.state) (eqb refusal 0)
      (λ _ d. rw (eq-eqb _ 0 d)) λ z d. absurd (not_done limit refusal number out z d)

  -- where a command waits, it is refused
  pub begin_busy : offered.row.number ≡ 41 → begun.state.link ≡ l
  begin_busy b =
      by_test (λ (y : Left Both). y.state.link ≡ l) (eqb refusal 0)
      (λ z. absurd (true≢false (sym z ∙ refused (eqb offered.row.number 41) (eq-eqb offered.row.number 41 b))))
      λ _. refl
    where
      refused : (busy : Bool) → busy ≡ true → eqb (first_refusal (tests busy)) 0 ≡ false
      refused busy e =
          by_test (λ k. eqb k 0 ≡ false) (not (in_range_of t)) (λ _. refl)
          λ _. by_test (λ k. eqb k 0 ≡ false) (not (in_range first max l)) (λ _. refl)
          λ _. by_test (λ k. eqb k 0 ≡ false) (faulty 0x19 payload) (λ _. refl) λ _. rw e

  -- the clock decides no row
  pub begin_clock : (later : ℕ)
      → begun.row ≡ (begin_of limit first max t l later number payload piece room out).row
  begin_clock later =
      row_by refusal offered.state (offer_of first max l 0x1B later).state
      ∙ ap (λ (r : Row). (begin_by limit (first_refusal (tests (eqb r.number 41))) t l
      (offer_of first max l 0x1B later).state number payload piece out).row) same_offer
    where
      -- nor does the link after the 1B
      row_by : (n : ℕ) (next other : Link) → (begin_by limit n t l next number payload piece out).row
          ≡ (begin_by limit n t l other number payload piece out).row
      row_by n next other = either_way (eqb n 0) (λ e. rw e) λ e. rw e

      -- an offer by its tests and by what waits
      offer_by : ℕ → Bool → Bool → Wait → Outcome Link
      offer_by at a b w =
          cond a (cond b (offer_in w first l 0x1B at) (outcome (row 42 []) l)) (outcome (row 17 (0 ∷ [])) l)

      same_row : (a b : Bool) (w : Wait) → (offer_by clock a b w).row ≡ (offer_by later a b w).row
      same_row true true None = refl
      same_row true true (Some w) = refl
      same_row true false w = refl
      same_row false b w = refl

      same_offer : offered.row ≡ (offer_of first max l 0x1B later).row
      same_offer = same_row (in_range first max l) (may_wait 0x1B) l.waiting

-- ---- ranges

-- of an open one, where the test says so, each field is in its range
opened_in : (size piece stored : ℕ) → in_range_of (opened size piece stored) ≡ true → InRange (opened size piece stored)
opened_in size piece stored e =
    either_way (eqb size 0)
    (λ z. out (ap (λ k. in_range_of (opened k piece stored)) (eqb-true size 0 z)
    ∙ (transfer_ranges.size_out piece stored).test))
    λ s. either_way (eqb piece 0)
    (λ z. out (ap (λ k. in_range_of (opened size k stored)) (eqb-true piece 0 z)
    ∙ (transfer_ranges.piece_out size stored).test))
    λ p. either_way (leb size (65535 * piece))
    (λ m. either_way (ltb (stored * piece) (size + piece))
    (λ n. transfer_ranges.open_in size piece stored (omega (arith, eqb-false size 0 s))
    (omega (arith, eqb-false piece 0 p)) (leb-true size (65535 * piece) m)
    (ltb-true (stored * piece) (size + piece) n))
    λ n. out (transfer_ranges.stored_out size piece stored (ltb-false (stored * piece) (size + piece) n)).test)
    λ m. out (transfer_ranges.many_out size piece stored (leb-false size (65535 * piece) m)).test
  where
    out : in_range_of (opened size piece stored) ≡ false → InRange (opened size piece stored)
    out f = absurd (true≢false (sym e ∙ f))

-- of every one
pub is_in_range : (t : Transfer) → in_range_of t ≡ true → InRange t
is_in_range t = by_open (open_of t)
  where
    by_open : (o : Option Open) → in_range_of (record { «open» = o }) ≡ true → InRange (record { «open» = o })
    by_open None e = transfer_ranges.absent_in
    by_open (Some o) e = opened_in o.size o.piece o.stored e
