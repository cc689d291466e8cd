-- Each call of a transfer in range, case by case. Assumes nothing.
use Prim.Native.Nat.{ℕ, ◌+◌, ◌-◌, ◌*◌, ◌%◌, ◌≤◌, ◌<◌, min}
use mathlib.Core.Path.{◌≡◌, refl, sym, ap, subst, ◌∙◌}
use mathlib.Core.Bool.{Bool, true, false, cond, ◌||◌}
use mathlib.Core.Logic.{◌≢◌}
use mathlib.Core.List.{List, [], ◌∷◌, ◌++◌}
use native.Mathlib.Omega.{arith}
use borrow.Author.Tests.{eq-eqb, ne_eqb, eqb-true, eqb-false, lt-ltb, le-ltb, le-leb, lt-leb}
use lib.Dec.{eqb, ltb}
use lib.ListN.{length, take, drop, length-append}
use Rattle.std.specs.Prelude.{None}
use Rattle.base.specs.Same.{same_bytes}
use Rattle.base.proofs.Tests.{either_way}
use Rattle.base.proofs.SameExact.{same_exactly}
use Rattle.base.specs.Numbers.{two}
use Rattle.base.specs.Rows.{row}
use Rattle.base.specs.Outcomes.{Outcome, outcome, Output, output, onto}
use Rattle.frame.specs.Wire.{frame_of}
use Rattle.base.specs.Keys.{among}
use Rattle.link.specs.Sending.{may_wait}
use Rattle.link.specs.Calls.{in_range, offer_of}
use Rattle.link.specs.declared.state.Link.{Link}
use Rattle.link.specs.Sending.{waits_for}
use Rattle.transfer.specs.Payloads.{faulty, size_in, code_in, index_in, total_in, bytes_in}
use Rattle.transfer.specs.Checks.{first_refusal, in_range_of, size_tests, begin_tests, stop_tests, cancel_tests}
use Rattle.transfer.specs.Checks.{hex_lines, in_turn, right_bytes, open_tests, store_tests}
use Rattle.transfer.specs.Pieces.{pieces_of}
use Rattle.transfer.specs.Writing.{acknowledged, refused_of, ready_payload, pair_wire, pair_of}
use Rattle.transfer.specs.Calls.{Left, left, settled, Both, both, Held, held, put_in, store_of, begin_with}
use Rattle.transfer.specs.Calls.{begin_of, stop_of, cancel_with}
use Rattle.transfer.specs.Refusals.{twelve}
use Rattle.transfer.specs.EachCall.{Rejected, Written, Sent, link_after, BeginExact, StoreExact, CallsAlways}
use Rattle.transfer.specs.declared.state.Transfer.{Transfer}
use Rattle.transfer.specs.Transfers.{absent, opened}
use Rattle.transfer.proofs.WriteLaws.{pair_too_long, pair_no_room, pair_put}
use Rattle.transfer.proofs.TestLaws.{or_true, open_sizes}
use Rattle.transfer.proofs.PieceLaws.{few_pieces, many_pieces, reaches_end, below_more, right_total, inside}
use Rattle.transfer.proofs.PieceLaws.{outside}

-- ---- by the number of the first refusal

module _ {S : Type 0} (limit : ℕ) (enough : 6 ≤ limit) (before next : S) (number : ℕ) (w : Output) (out : List ℕ) where
  -- what a call leaves, by that number
  abbrev By : ℕ → Left S
  By n = cond (eqb n 0) (settled w before next) (left (refused_of limit n number out) before)

  -- a number that is neither 0, STATE nor BUSY
  twelve_fits : (k : ℕ) → eqb k 0 ≡ false → eqb k 17 ≡ false → eqb k 41 ≡ false → length (twelve number) ≤ length out
      → By k ≡ left (output (row k (length (twelve number) ∷ [])) (onto (twelve number) out)) before
  twelve_fits k a b c l = rw (a, b, c, le-ltb limit 6 enough, le-ltb (length out) (length (twelve number)) l)

  twelve_room : (k : ℕ) → eqb k 0 ≡ false → eqb k 17 ≡ false → eqb k 41 ≡ false → length out < length (twelve number)
      → By k ≡ left (output (row 22 (length (twelve number) ∷ [])) out) before
  twelve_room k a b c l = rw (a, b, c, le-ltb limit 6 enough, lt-ltb (length out) (length (twelve number)) l)

  rejected : (k n : ℕ) → n ≡ k → eqb k 0 ≡ false → eqb k 17 ≡ false → eqb k 41 ≡ false
      → Rejected S k number out before (By n)
  rejected k n e a b c =
      subst (λ m. Rejected S k number out before (By m)) (sym e)
      (record { fits = twelve_fits k a b c; room = twelve_room k a b c })

-- ---- a command without payload

module _ {S : Type 0} (limit : ℕ) (enough : 6 ≤ limit) (before next : S) (command number : ℕ) (out : List ℕ) where
  sent_settled : Sent S command number out before next (settled (acknowledged limit command number out) before next)
  sent_settled =
      record {
        fits = λ l. rw (
          le-ltb limit 5 (omega (arith, enough)),
          le-ltb (length out)
              (length (frame_of command number 0 [])) l,
        );
        room = λ l. rw (
          le-ltb limit 5 (omega (arith, enough)),
          lt-ltb (length out)
              (length (frame_of command number 0 [])) l,
        );
      }

  -- where no test refuses
  sent : (refusing n : ℕ) → n ≡ 0
      → Sent S command number out before next
      (By limit enough before next refusing (acknowledged limit command number out) out n)
  sent refusing n e =
      subst (λ m. Sent S command number out before next
      (By limit enough before next refusing (acknowledged limit command number out) out m)) (sym e) sent_settled

-- ---- what the link says

module _ (first max : ℕ) (l : Link) (command clock : ℕ) (linked : in_range first max l ≡ true)
    (may : may_wait command ≡ true) where
  offer_idle : l.waiting ≡ None
      → offer_of first max l command clock ≡ outcome (row 0 (l.next ∷ [])) (link_after first l command clock)
  offer_idle w = simp (linked, may) (simp w)

  offer_waits : (other under sent repeats : ℕ) → l.waiting ≡ waits_for other under sent repeats
      → offer_of first max l command clock ≡ outcome (row 41 []) l
  offer_waits other under sent repeats w = simp (linked, may) (simp w)

ready_waits : may_wait 0x1B ≡ true
unfolding among
ready_waits = refl

cancel_waits : may_wait 0x27 ≡ true
unfolding among
cancel_waits = refl

-- ---- a 1F and a 27

module _ (limit : ℕ) (enough : 6 ≤ limit) (t : Transfer) (ranged : in_range_of t ≡ true) (number : ℕ)
    (payload out : List ℕ) where
  stop_misread : faulty 0x1F payload ≡ true → Rejected _ 32 number out t (stop_of limit t number payload out)
  stop_misread f =
      rejected limit enough t absent number (acknowledged limit 0x20 number out) out 32
      (first_refusal (stop_tests t (faulty 0x1F payload))) (rw (ranged, f)) refl refl refl

  stops : faulty 0x1F payload ≡ false → Sent _ 0x20 number out t absent (stop_of limit t number payload out)
  stops f =
      sent limit enough t absent 0x20 number out number (first_refusal (stop_tests t (faulty 0x1F payload)))
      (rw (ranged, f))

-- `offered` is what the link says
module _ (limit first max : ℕ) (enough : 6 ≤ limit) (t : Transfer) (l : Link) (out : List ℕ)
    (ranged : in_range_of t ≡ true) (linked : in_range first max l ≡ true) where
  cancel_busy : (offered : Outcome Link) → offered ≡ outcome (row 41 []) l
      → cancel_with limit first max t l offered out ≡ left (output (row 41 []) out) (both t l)
  cancel_busy offered e = rw (e, ranged, linked)

  cancel_sent : (offered : Outcome Link) (next : Link) → offered ≡ outcome (row 0 (l.next ∷ [])) next
      → Sent _ 0x27 l.next out (both t l) (both absent next) (cancel_with limit first max t l offered out)
  cancel_sent offered next e =
      subst (λ (y : Outcome Link). Sent _ 0x27 l.next out (both t l) (both absent next)
      (cancel_with limit first max t l y out)) (sym e)
      (sent limit enough (both t l) (both absent next) 0x27 l.next out 0
      (first_refusal (cancel_tests first max t l false)) (rw (ranged, linked)))

-- ---- a 19

module _ (limit first max : ℕ) (enough : 6 ≤ limit) (t : Transfer) (l : Link) (number : ℕ) (payload : List ℕ)
    (piece room : ℕ) (out : List ℕ) (ranged : in_range_of t ≡ true) (linked : in_range first max l ≡ true) where
  abbrev size : ℕ
  size = size_in payload

  abbrev pair : Output
  pair = pair_of limit number l.next piece (code_in payload) out

  -- by what the link says, and what it would become
  abbrev begins_with : Outcome Link → Left Both
  begins_with offered = begin_with limit first max t l offered number payload piece room out

  begin_misread : (offered : Outcome Link) → faulty 0x19 payload ≡ true
      → Rejected _ 32 number out (both t l) (begins_with offered)
  begin_misread offered f =
      rejected limit enough (both t l) (both (opened size piece 0) offered.state) number pair out 32
      (first_refusal (begin_tests first max t l (eqb offered.row.number 41) (faulty 0x19 payload) size piece room))
      (rw (ranged, linked, f)) refl refl refl

  module _ (f : faulty 0x19 payload ≡ false) where
    begin_busy : (offered : Outcome Link) → offered ≡ outcome (row 41 []) l
        → begins_with offered ≡ left (output (row 41 []) out) (both t l)
    begin_busy offered e = rw (e, ranged, linked, f)

    -- the link takes the 1B
    module _ (offered : Outcome Link) (next : Link) (idle : offered ≡ outcome (row 0 (l.next ∷ [])) next) where
      -- its tests are those of the sizes
      abbrev refusal : ℕ
      refusal =
          first_refusal (begin_tests first max t l (eqb offered.row.number 41) (faulty 0x19 payload) size piece room)

      sizes_decide : refusal ≡ first_refusal (size_tests size piece room)
      sizes_decide = rw (idle, ranged, linked, f)

      begin_refused : (k : ℕ) → first_refusal (size_tests size piece room) ≡ k → eqb k 0 ≡ false → eqb k 17 ≡ false
          → eqb k 41 ≡ false → Rejected _ k number out (both t l) (begins_with offered)
      begin_refused k e a b c =
          rejected limit enough (both t l) (both (opened size piece 0) offered.state) number pair out k refusal
          (sizes_decide ∙ e) a b c

      begin_settled : first_refusal (size_tests size piece room) ≡ 0
          → begins_with offered ≡ settled pair (both t l) (both (opened size piece 0) next)
      begin_settled e =
          ap (λ n. By limit enough (both t l) (both (opened size piece 0) offered.state) number pair out n)
          (sizes_decide ∙ e)
          ∙ ap (λ (y : Outcome Link). settled pair (both t l) (both (opened size piece 0) y.state)) idle

  -- the tests of the sizes
  zero_size : size ≡ 0 → first_refusal (size_tests size piece room) ≡ 61
  zero_size e = rw (eq-eqb size 0 e)

  zero_piece : piece ≡ 0 → first_refusal (size_tests size piece room) ≡ 61
  zero_piece e = rw (eq-eqb piece 0 e, or_true (eqb size 0))

  module _ (s : 1 ≤ size) (p : 1 ≤ piece) where
    some_sizes : (eqb size 0 || eqb piece 0) ≡ false
    some_sizes =
        rw (ne_eqb size 0 (λ e. absurd (omega (arith, s, e))), ne_eqb piece 0 (λ e. absurd (omega (arith, p, e))))

    above_room : room < size → first_refusal (size_tests size piece room) ≡ 62
    above_room h = rw (some_sizes, lt-ltb room size h)

    above_most : size ≤ room → 65535 * piece < size → first_refusal (size_tests size piece room) ≡ 63
    above_most r h = rw (some_sizes, le-ltb room size r, many_pieces size piece p h)

    sizes_pass : size ≤ room → size ≤ 65535 * piece → first_refusal (size_tests size piece room) ≡ 0
    sizes_pass r h = rw (some_sizes, le-ltb room size r, few_pieces size piece p h)

  -- the pair
  pair_long : limit < length (code_in payload) + 9 → pair ≡ output (row 21 (0 ∷ [])) out
  pair_long h =
      pair_too_long limit number l.next piece (code_in payload) out (omega (arith, h, payload_size))
    where
      payload_size : length (ready_payload piece (code_in payload)) ≡ length (code_in payload) + 4
      payload_size = let e = length-append (code_in payload) (two piece []) in omega (arith, e)

  pair_written : (next : Both) → length (code_in payload) + 9 ≤ limit
      → Written _ (pair_wire number l.next piece (code_in payload)) (26 ∷ length (frame_of 0x1A number 0 []) ∷ []) out
      (both t l) next (settled pair (both t l) next)
  pair_written next h =
      record {
        fits = λ q. as_left (pair_put limit number l.next piece (code_in payload) out within q);
        room = λ q. as_left (pair_no_room limit number l.next piece (code_in payload) out within q);
      }
    where
      within : length (ready_payload piece (code_in payload)) + 5 ≤ limit
      within = let e = length-append (code_in payload) (two piece []) in omega (arith, e, h)

      as_left : {w : Output} → pair ≡ w → settled pair (both t l) next ≡ settled w (both t l) next
      as_left e = ap (λ (w : Output). settled w (both t l) next) e

  begin_exact : (clock : ℕ) → BeginExact t l number payload piece room out (link_after first l 0x1B clock)
      limit
      (begin_of limit first max t l clock number payload piece room out)
  begin_exact clock =
      let idle = offer_idle first max l 0x1B clock linked ready_waits in
      let next = link_after first l 0x1B clock in
      let offered = offer_of first max l 0x1B clock in
      record {
        misread = begin_misread offered;
        waits = λ command under sent repeats f w.
            begin_busy f offered (offer_waits first max l 0x1B clock linked ready_waits command under sent repeats w);
        no_bytes = λ f w z. begin_refused f offered next (idle w) 61 (zero_size z) refl refl refl;
        no_pieces = λ f w z. begin_refused f offered next (idle w) 61 (zero_piece z) refl refl refl;
        too_big = λ f w s p h. begin_refused f offered next (idle w) 62 (above_room s p h) refl refl refl;
        too_many = λ f w p r h.
            begin_refused f offered next (idle w) 63 (above_most (omega (arith, h)) p r h) refl refl refl;
        too_long = λ f w s p r m h. begin_settled f offered next (idle w) (sizes_pass s p r m)
            ∙ ap (λ (v : Output). settled v (both t l) (both (opened size piece 0) next)) (pair_long h);
        begun = λ f w s p r m h.
            subst (λ (y : Left Both). Written _ (pair_wire number l.next piece (code_in payload))
            (26 ∷ length (frame_of 0x1A number 0 []) ∷ []) out (both t l) (both (opened size piece 0) next) y)
            (sym (begin_settled f offered next (idle w) (sizes_pass s p r m)))
            (pair_written (both (opened size piece 0) next) h);
      }

-- ---- a 1D

-- bytes that differ
not_same : (a b : List ℕ) → a ≢ b → same_bytes a b ≡ false
not_same a b n =
    either_way (same_bytes a b) (λ e. absurd (n ((same_exactly a b).equal e))) (λ e. e)

module _ (limit : ℕ) (enough : 6 ≤ limit) (size piece stored number flags : ℕ) (payload buffer out : List ℕ)
    (ranged : in_range_of (opened size piece stored) ≡ true) (f : faulty 0x1D payload ≡ false) where
  abbrev index : ℕ
  index = index_in payload

  abbrev total : ℕ
  total = total_in payload

  abbrev bytes : List ℕ
  bytes = bytes_in payload

  abbrev open_now : Held
  open_now = held (opened size piece stored) buffer

  abbrev stores : Left Held
  stores = store_of limit (opened size piece stored) number flags payload buffer out

  abbrev tests : ℕ
  tests = first_refusal (open_tests size piece stored flags index total bytes buffer)

  sizes : (1 ≤ size) × (1 ≤ piece)
  sizes = open_sizes size piece stored ranged

  all_tests :
      first_refusal (store_tests (opened size piece stored) flags (faulty 0x1D payload) index total bytes buffer)
      ≡ tests
  all_tests = rw (ranged, f)

  store_refused : (k : ℕ) → tests ≡ k → eqb k 0 ≡ false → eqb k 17 ≡ false → eqb k 41 ≡ false
      → Rejected _ k number out open_now stores
  store_refused k e a b c =
      rejected limit enough open_now (put_in (opened size piece stored) index bytes buffer) number
      (acknowledged limit 0x1E number out) out k
      (first_refusal (store_tests (opened size piece stored) flags (faulty 0x1D payload) index total bytes buffer))
      (all_tests ∙ e) a b c

  store_sent : (after : Held) → tests ≡ 0 → put_in (opened size piece stored) index bytes buffer ≡ after
      → Sent _ 0x1E number out open_now after stores
  store_sent after e q =
      subst (λ (h : Held). Sent _ 0x1E number out open_now h stores) q
      (sent limit enough open_now (put_in (opened size piece stored) index bytes buffer) 0x1E number out number
      (first_refusal (store_tests (opened size piece stored) flags (faulty 0x1D payload) index total bytes buffer))
      (all_tests ∙ e))

  module _ (roomy : size ≤ length buffer) where
    fits_buffer : ltb (length buffer) size ≡ false
    fits_buffer = le-ltb (length buffer) size roomy

    module _ (plain : flags % 2 ≢ 1) where
      not_hex : hex_lines flags ≡ false
      not_hex = ne_eqb (flags % 2) 1 plain

      wrong_total : total ≢ pieces_of size piece → tests ≡ 63
      wrong_total n = rw (fits_buffer, not_hex, ne_eqb total (pieces_of size piece) n)

      module _ (reach : size ≤ total * piece) (less : total * piece < size + piece) where
        total_right : total ≡ pieces_of size piece
        total_right = right_total size piece sizes.1 total reach less

        counted : eqb total (pieces_of size piece) ≡ true
        counted = eq-eqb total (pieces_of size piece) total_right

        not_turn : in_turn index total stored ≡ false → tests ≡ 65
        not_turn h = rw (fits_buffer, not_hex, counted, h)

        not_right : in_turn index total stored ≡ true → right_bytes size piece stored index bytes buffer ≡ false → tests
            ≡ 66
        not_right h k = rw (fits_buffer, not_hex, counted, h, k)

        all_right : in_turn index total stored ≡ true → right_bytes size piece stored index bytes buffer ≡ true → tests
            ≡ 0
        all_right h k = rw (fits_buffer, not_hex, counted, h, k)

        far : index ≢ stored → index ≢ stored + 1 → in_turn index total stored ≡ false
        far a b = rw (ne_eqb index stored a, ne_eqb index (stored + 1) b)

        -- the next one
        module _ (e : index ≡ stored + 1) where
          other : index ≢ stored
          other q = absurd (omega (arith, e, q))

          beyond : size ≤ stored * piece → in_turn index total stored ≡ false
          beyond h =
              let few = outside size piece sizes.1 stored h in
              rw (
                ne_eqb index stored other,
                eq-eqb index (stored + 1) e,
                lt-leb index total
                    (omega (arith, e, few, total_right)),
              )

          turned : stored * piece < size → in_turn index total stored ≡ true
          turned h =
              let listed = inside size piece sizes.1 stored h in
              rw (
                ne_eqb index stored other,
                eq-eqb index (stored + 1) e,
                le-leb index total
                    (omega (arith, e, listed, total_right)),
              )

          next_right : (b : Bool) → eqb (length bytes) (min piece (size - stored * piece)) ≡ b
              → right_bytes size piece stored index bytes buffer ≡ b
          next_right b q = rw (ne_eqb index stored other) q

          put_next : put_in (opened size piece stored) index bytes buffer
              ≡ held (opened size piece (stored + 1))
              (take (stored * piece) buffer ++ (bytes ++ drop (stored * piece + length bytes) buffer))
          put_next =
              rw (ne_eqb index stored other)
              (ap (λ k. held (opened size piece k)
              (take (stored * piece) buffer ++ (bytes ++ drop (stored * piece + length bytes) buffer))) e)

        -- the one just stored
        module _ (e : index ≡ stored) where
          again_turn : 1 ≤ stored → in_turn index total stored ≡ true
          again_turn h = rw (eq-eqb index stored e, lt-ltb 0 stored h)

          again_same : (b : Bool)
              → same_bytes bytes (take (min piece (size - (stored - 1) * piece)) (drop ((stored - 1) * piece) buffer))
              ≡ b
              → right_bytes size piece stored index bytes buffer ≡ b
          again_same b q = rw (eq-eqb index stored e) q

          put_again : put_in (opened size piece stored) index bytes buffer ≡ open_now
          put_again = rw (eq-eqb index stored e)

        zero_turn : index ≡ 0 → in_turn index total stored ≡ false
        zero_turn z =
            either_way (eqb index stored)
            (λ q. let same = eqb-true index stored q in rw (q, le-ltb 0 stored (omega (arith, z, same))))
            (λ q. far (eqb-false index stored q) (λ e. absurd (omega (arith, e, z))))

  store_exact : StoreExact size piece stored number flags index total bytes buffer out stores
  store_exact =
      record {
        too_big = λ h. store_refused 62 (rw (lt-ltb (length buffer) size h)) refl refl refl;
        hex = λ r h. store_refused 64 (rw (fits_buffer r, eq-eqb (flags % 2) 1 h)) refl refl refl;
        total_low = λ r p h. store_refused 63 (wrong_total r p (λ e.
            let all = reaches_end size piece sizes.1 in
            let same : total * piece ≡ pieces_of size piece * piece = ap (λ k. k * piece) e in
            absurd (omega (arith, all, same, h)))) refl refl refl;
        total_high = λ r p h. store_refused 63 (wrong_total r p (λ e.
            let most = below_more size piece sizes.1 sizes.0 in
            let same : total * piece ≡ pieces_of size piece * piece = ap (λ k. k * piece) e in
            absurd (omega (arith, most, same, h)))) refl refl refl;
        far = λ r p a b m n. store_refused 65 (not_turn r p a b (far r p a b m n)) refl refl refl;
        beyond = λ r p a b e h. store_refused 65 (not_turn r p a b (beyond r p a b e h)) refl refl refl;
        zero = λ r p a b z. store_refused 65 (not_turn r p a b (zero_turn r p a b z)) refl refl refl;
        wrong_size = λ r p a b e h n. store_refused 66 (not_right r p a b (turned r p a b e h)
            (next_right r p a b e false (ne_eqb (length bytes) (min piece (size - stored * piece)) n))) refl refl refl;
        other_bytes = λ r p a b e h n. store_refused 66 (not_right r p a b (again_turn r p a b e h)
            (again_same r p a b e false (not_same bytes _ n))) refl refl refl;
        next = λ r p a b e h n. store_sent _ (all_right r p a b (turned r p a b e h)
            (next_right r p a b e true (eq-eqb (length bytes) (min piece (size - stored * piece)) n)))
            (put_next r p a b e);
        again = λ r p a b e h n. store_sent _ (all_right r p a b (again_turn r p a b e h)
            (again_same r p a b e true ((same_exactly bytes _).same n))) (put_again r p a b e);
      }

-- ---- all calls

module _ (limit : ℕ) (enough : 6 ≤ limit) (number flags : ℕ) (payload buffer out : List ℕ) where
  misread_store : (t : Transfer) → in_range_of t ≡ true → faulty 0x1D payload ≡ true
      → Rejected _ 32 number out (held t buffer) (store_of limit t number flags payload buffer out)
  misread_store t ranged f =
      rejected limit enough (held t buffer) (put_in t (index_in payload) (bytes_in payload) buffer) number
      (acknowledged limit 0x1E number out) out 32
      (first_refusal (store_tests t flags (faulty 0x1D payload) (index_in payload) (total_in payload) (bytes_in payload)
      buffer))
      (rw (ranged, f)) refl refl refl

  absent_store : (k : ℕ) → faulty 0x1D payload ≡ false → cond (hex_lines flags) 64 65 ≡ k → eqb k 0 ≡ false
      → eqb k 17 ≡ false → eqb k 41 ≡ false
      → Rejected _ k number out (held absent buffer) (store_of limit absent number flags payload buffer out)
  absent_store k f e a b c =
      rejected limit enough (held absent buffer) (held absent buffer) number (acknowledged limit 0x1E number out) out k
      (first_refusal
      (store_tests absent flags (faulty 0x1D payload) (index_in payload) (total_in payload) (bytes_in payload)
      buffer)) (rw f e) a b c

-- a link that is out of range
module _ (limit first max : ℕ) (t : Transfer) (l : Link) (out : List ℕ) (h : in_range first max l ≡ false) where
  -- whatever it says
  begin_state : (offered : Outcome Link) (number : ℕ) (payload : List ℕ) (piece room : ℕ)
      → begin_with limit first max t l offered number payload piece room out
      ≡ left (output (row 17 (0 ∷ [])) out) (both t l)
  begin_state offered number payload piece room =
      either_way (in_range_of t) (λ e. simp (e, h)) (λ e. simp e)

  cancel_state : (offered : Outcome Link)
      → cancel_with limit first max t l offered out ≡ left (output (row 17 (0 ∷ [])) out) (both t l)
  cancel_state offered = either_way (in_range_of t) (λ e. simp (e, h)) (λ e. simp e)

pub calls_exact : CallsAlways
calls_exact limit first max enough =
    record {
      begins = λ t l clock number payload piece room out ranged linked.
          begin_exact limit first max enough t l number payload piece room out ranged linked clock;
      stores = λ size piece stored number flags payload buffer out ranged f.
          store_exact limit enough size piece stored number flags payload buffer out ranged f;
      store_misread = λ t number flags payload buffer out ranged f.
          misread_store limit enough number flags payload buffer out t ranged f;
      store_absent_hex = λ number flags payload buffer out f h.
          absent_store limit enough number flags payload buffer out 64 f (rw (eq-eqb (flags % 2) 1 h)) refl refl refl;
      store_absent = λ number flags payload buffer out f h.
          absent_store limit enough number flags payload buffer out 65 f (rw (ne_eqb (flags % 2) 1 h)) refl refl refl;
      stop_misread = λ t number payload out ranged f. stop_misread limit enough t ranged number payload out f;
      stops = λ t number payload out ranged f. stops limit enough t ranged number payload out f;
      cancel_waits = λ t l clock out command under sent repeats ranged linked w.
          cancel_busy limit first max enough t l out ranged linked (offer_of first max l 0x27 clock)
          (offer_waits first max l 0x27 clock linked cancel_waits command under sent repeats w);
      cancels = λ t l clock out ranged linked w.
          cancel_sent limit first max enough t l out ranged linked (offer_of first max l 0x27 clock)
          (link_after first l 0x27 clock) (offer_idle first max l 0x27 clock linked cancel_waits w);
      state_transfer = λ t l clock number flags payload piece room buffer out h. (simp h, simp h, simp h, simp h);
      state_link = λ t l clock number payload piece room out h. (
        begin_state limit first max t l out h (offer_of first max l 0x1B clock) number payload piece room,
        cancel_state limit first max t l out h (offer_of first max l 0x27 clock),
      );
    }
