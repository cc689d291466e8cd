-- The 1A and the 1B, written one after the other. Assumes nothing.
use Prim.Native.Nat.{ℕ, ◌+◌, ◌-◌, ◌≤◌, ◌<◌, ◌^◌, min}
use mathlib.Core.Path.{◌≡◌, refl, sym, ap, subst, ◌∙◌}
use mathlib.Core.Bool.{false, cond, true≢false}
use mathlib.Core.List.{List, [], ◌∷◌, ◌++◌, append-nil, append_assoc}
use native.Mathlib.Omega.{arith, min_cases}
use borrow.Author.Tests.{eq-eqb, lt-ltb, le-ltb, ltb-true, ltb-false, leb-false}
use lib.Dec.{ltb}
use lib.ListN.{length, take, drop, length-append, length-drop, drop_of_length-le, take-append-drop}
use lib.Seq.{drop-drop, length-take-le, drop_at}
use Rattle.std.specs.Prelude.{Err}
use Rattle.std.proofs.Common.{◌⊎◌, inl, inr}
use Rattle.base.specs.Rows.{Row, row}
use Rattle.base.specs.Outcomes.{Output, output, onto, written_in, needed_in, placed}
use Rattle.base.specs.Writes.{unwritten_row_of}
use Rattle.base.specs.declared.writes.WriteError.{WriteError}
use Rattle.base.specs.Numbers.{two}
use Rattle.base.proofs.Stores.{part_left}
use Rattle.base.proofs.Tests.{by_test, either_way}
use Rattle.base.proofs.WritesExact.{unwritten_refuses}
use Rattle.frame.specs.Wire.{body_of, frame_of}
use Rattle.frame.specs.Calls.{write_of}
use Rattle.frame.proofs.Stuffing.{stuffed_form}
use Rattle.message.specs.Commands.{table, profile_in}
use Rattle.message.specs.Messages.{countable}
use Rattle.message.specs.Table.{send_row_of}
use Rattle.message.specs.Writing.{send_of}
use Rattle.message.specs.declared.writer.SendError.{SendError}
use Rattle.message.specs.declared.writer.SendError.TheVariants as error
use Rattle.message.specs.declared.values.Message.TheVariants.{Ready}
use Rattle.transfer.specs.Table.{payload_row, began_row}
use Rattle.transfer.specs.Writing.{after, ready_payload, pair_of}
use Rattle.transfer.proofs.WriteLaws.{at_most_16, pair_too_long, pair_no_room, pair_put}

-- a call that is lent the rest of an output, from a place on
pub rest_written : (out : List ℕ) (from : ℕ) (f : List ℕ → Output) (a : Row) (o : List ℕ)
    → output a o ≡ f (take (length out - from) (drop from out))
    → output a (take from out ++ (o ++ drop (length out - from) (drop from out)))
    ≡ after (take from out) (f (drop from out))
rest_written out from f a o e =
    let none : length (drop from out) ≤ length out - from = omega (arith, length-drop from out) in
    rw (drop_of_length-le (drop from out) none, append-nil)
    (ap (λ (w : Output). after (take from out) w) (rw (part_left out from) at e))

-- ---- the 1B

-- as `message` writes it
pub ready_sent : (limit piece number : ℕ) (code out : List ℕ) → send_of limit (Ready piece) number 0 code out
    ≡ cond (countable (length code)) (write_of limit 0x1B number 0 (ready_payload piece code) out)
    (output (row 32 []) out)
unfolding table profile_in
ready_sent limit piece number code out = refl

-- no answer of the frame writer is under a number above 22
low_number : (limit number : ℕ) (payload out : List ℕ) → (write_of limit 0x1B number 0 payload out).row.number ≤ 22
low_number limit number payload out =
    by_test (λ (w : Output). w.row.number ≤ 22) (ltb limit (length payload + 5)) (λ _. omega arith)
    (λ _. by_test (λ (w : Output). w.row.number ≤ 22) (ltb (length out) (length (frame_of 0x1B number 0 payload)))
    (λ _. omega arith) (λ _. omega arith))

-- and every other answer of `message` is
pub not_frame : (r : SendError) → (r ≡ error.Command) ⊎ ((r ≡ error.Size) ⊎ (r ≡ error.Field))
    → 31 ≤ (send_row_of (Err r)).number
not_frame r (inl e) = rw e (omega arith)
not_frame r (inr (inl e)) = rw e (omega arith)
not_frame r (inr (inr e)) = rw e (omega arith)

module _ (limit piece number : ℕ) (code rest : List ℕ) (small : limit ≤ 65535) where
  -- a check code that no count can name makes the payload too long
  uncounted : countable (length code) ≡ false → limit < length (ready_payload piece code) + 5
  uncounted e = let h = leb-false (length code) 65535 e in omega (arith, h, small, length-append code (two piece []))

  -- an answer that is not the frame writer's
  module _ (o : List ℕ) where
    pub ready_other : (r : SendError) → 31 ≤ (send_row_of (Err r)).number
        → output (send_row_of (Err r)) o ≡ send_of limit (Ready piece) number 0 code rest
        → output payload_row o ≡ write_of limit 0x1B number 0 (ready_payload piece code) rest
    ready_other r h e =
        either_way (countable (length code))
        (λ c. let z : (send_row_of (Err r)).number
        ≡ (write_of limit 0x1B number 0 (ready_payload piece code) rest).row.number =
        ap (λ (v : Output). v.row.number) e
        ∙ ap (λ (v : Output). v.row.number) (ready_sent limit piece number code rest) ∙ rw c in
        absurd (omega (arith, z, h, low_number limit number (ready_payload piece code) rest)))
        (λ c. let q : o ≡ rest =
        ap (λ (v : Output). v.out) e
        ∙ ap (λ (v : Output). v.out) (ready_sent limit piece number code rest) ∙ rw c in
        rw (q, lt-ltb limit (length (ready_payload piece code) + 5) (uncounted c)))

-- the size of a body: length, command, number, flags and sum beside the payload
body_size : (command number : ℕ) (payload : List ℕ) → length (body_of command number 0 payload) ≡ length payload + 7
unfolding body_of
body_size command number payload = simp length-append (omega arith)

-- ---- both

module _ (limit number next piece : ℕ) (code out : List ℕ) where
  -- the two frames, and the place of the second
  abbrev first : List ℕ
  first = frame_of 0x1A number 0 []

  abbrev second : List ℕ
  second = frame_of 0x1B next 0 (ready_payload piece code)

  abbrev from : ℕ
  from = min (length first) (length out)

  -- what is written of the second, and what of both
  abbrev sent : Output
  sent = write_of limit 0x1B next 0 (ready_payload piece code) (drop from out)

  abbrev both : Output
  both = pair_of limit number next piece code out

  -- too long; no room; written
  pub data Sent : Type 0 where
    long : sent ≡ output payload_row (drop from out) → both ≡ output payload_row out → Sent
    no_room : length (ready_payload piece code) + 5 ≤ limit → sent
        ≡ output (row 22 (length second ∷ [])) (drop from out)
        → both ≡ output (row 22 ((length first + length second) ∷ [])) out → Sent
    wrote : sent ≡ output (row 0 (length second ∷ [])) (onto second (drop from out)) → from ≡ length first
        → length first + length second ≤ length out
        → both ≡ output (began_row (length first + length second) (length first)) (onto (first ++ second) out) → Sent

  -- the place is where the first ends, or there is no room for that
  from_cases : {P : Type 0} → (from ≡ length first → length first ≤ length out → P)
      → (from ≡ length out → length out < length first → P) → P
  from_cases f g =
      either_way (ltb (length out) (length first))
      (λ e. let l = ltb-true (length out) (length first) e in
      g (min_cases (length first) (length out) _ (λ h q. absurd (omega (arith, l, h))) (λ h q. q)) l)
      (λ e. let l = ltb-false (length out) (length first) e in
      f (min_cases (length first) (length out) _ (λ h q. q) (λ h q. omega (arith, l, h, q))) l)

  module _ (small : limit ≤ 65535) where
    -- where it is not, the room decides
    module _ (h : length (ready_payload piece code) + 5 ≤ limit) where
      sent_placed : sent ≡ placed second (drop from out)
      sent_placed = rw (le-ltb limit (length (ready_payload piece code) + 5) h)

      roomless : length out < length first + length second
          → both ≡ output (row 22 ((length first + length second) ∷ [])) out
      roomless q =
          pair_no_room limit number next piece code out h (rw length-append q)
          ∙ ap (λ (n : ℕ). output (row 22 (n ∷ [])) out) (length-append first second)

      roomy : length first + length second ≤ length out
          → both ≡ output (began_row (length first + length second) (length first)) (onto (first ++ second) out)
      roomy q =
          pair_put limit number next piece code out h (rw length-append q)
          ∙ ap (λ (n : ℕ). output (began_row n (length first)) (onto (first ++ second) out))
          (length-append first second)

      not_sent : length (drop from out) < length second → Sent
      not_sent q =
          no_room h (sent_placed ∙ rw (lt-ltb (length (drop from out)) (length second) q))
          (roomless (from_cases (λ e l. omega (arith, q, e, l, length-drop from out)) (λ e l. omega (arith, l))))

      is_sent : length second ≤ length (drop from out) → Sent
      is_sent q =
          from_cases
          (λ e l. let fit : length first + length second ≤ length out = omega (arith, q, e, l, length-drop from out) in
          wrote (sent_placed ∙ rw (le-ltb (length (drop from out)) (length second) q)) e fit (roomy fit))
          (λ e l. absurd (omega (arith, q, e, length-drop from out)))

    pub sent_cases : Sent
    sent_cases =
        either_way (ltb limit (length (ready_payload piece code) + 5))
        (λ e. long (rw e) (pair_too_long limit number next piece code out
        (ltb-true limit (length (ready_payload piece code) + 5) e)))
        (λ e. let h = ltb-false limit (length (ready_payload piece code) + 5) e in
        either_way (ltb (length (drop from out)) (length second))
        (λ r. not_sent h (ltb-true (length (drop from out)) (length second) r))
        (λ r. is_sent h (ltb-false (length (drop from out)) (length second) r)))

    -- ---- what the call answers, by the row of the second; `at` and `ready` are the places that the code found

    pub at_from : (ready at : ℕ) → ready ≡ length first → at ≡ min ready (length out) → (v : Output)
        → v ≡ after (take at out) (write_of limit 0x1B next 0 (ready_payload piece code) (drop at out))
        → v ≡ after (take from out) sent
    at_from ready at r q v e =
        subst (λ k. v ≡ after (take k out) (write_of limit 0x1B next 0 (ready_payload piece code) (drop k out)))
        (q ∙ ap (λ k. min k (length out)) r) e

    -- the rest of the output, where it was not written
    rejoined : (a : Row) {o : List ℕ} {w : Output} → output a o ≡ after (take from out) w → w.out ≡ drop from out
        → o ≡ out
    rejoined a e q =
        ap (λ (v : Output). v.out) e ∙ ap (λ (l : List ℕ). take from out ++ l) q ∙ take-append-drop from out

    -- a refusal of the second is one of both
    module _ (why : WriteError) (o : List ℕ) (e : output (unwritten_row_of why) o ≡ after (take from out) sent) where
      shown : {w : Output} → sent ≡ w → unwritten_row_of why ≡ w.row
      shown q = ap (λ (v : Output). v.row) (e ∙ ap (λ (w : Output). after (take from out) w) q)

      -- it is none that was written
      not_written : {A : Type 0} → (unwritten_row_of why).number ≡ 0 → A
      not_written z =
          absurd (true≢false (sym (eq-eqb (unwritten_row_of why).number 0 z) ∙ unwritten_refuses why))

      pub pair_needed : length first + needed_in (unwritten_row_of why) ≤ 2 ^ 20
      pair_needed = go sent_cases
        where
          least : length first ≤ 16
          least = at_most_16 0x1A number

          go : Sent → length first + needed_in (unwritten_row_of why) ≤ 2 ^ 20
          go (long s b) = rw (ap needed_in (shown s)) (omega (arith, least))
          go (no_room h s b) =
              let most = (stuffed_form (body_of 0x1B next 0 (ready_payload piece code))).at_most_twice in
              rw (ap needed_in (shown s))
              (omega (arith, least, most, body_size 0x1B next (ready_payload piece code), h, small))
          go (wrote s f l b) = not_written (ap (λ (r : Row). r.number) (shown s))

    -- the first goes before the second
    module _ (l : length first + length second ≤ length out) (enough : 5 ≤ limit) where
      abbrev second_put : List ℕ
      second_put = take (length first) out ++ onto second (drop (length first) out)

      front_size : length (take (length first) out) ≡ length first
      front_size = length-take-le (length first) out (omega (arith, l))

      front_room : length first ≤ length second_put
      front_room = rw length-append (omega (arith, front_size))

      put_first : (write_of limit 0x1A number 0 [] second_put).out ≡ onto (first ++ second) out
      put_first =
          rw (
            le-ltb limit 5 enough,
            le-ltb (length second_put) (length first) front_room,
            drop_at (take (length first) out) (onto second (drop (length first) out)) (length first) front_size,
            drop-drop (length second) (length first) out,
          )
          (sym (ap (λ n. (first ++ second) ++ drop n out) (length-append first second)
          ∙ append_assoc first second (drop (length first + length second) out)))

    pub pair_wrote : 5 ≤ limit → (count : ℕ) (o : List ℕ) → output (row 0 (count ∷ [])) o ≡ after (take from out) sent
        → (a : Row) (made : List ℕ) → output a made ≡ write_of limit 0x1A number 0 [] o
        → output (began_row (length first + count) (length first)) made ≡ both
    pair_wrote enough count o e a made m = go sent_cases
      where
        numbers : (n : ℕ) (v l : List ℕ) → sent ≡ output (row n v) l → 0 ≡ n
        numbers n v l q = ap (λ (w : Output). w.row.number) (e ∙ ap (λ (w : Output). after (take from out) w) q)

        go : Sent → output (began_row (length first + count) (length first)) made ≡ both
        go (long s b) = let z = numbers 21 _ _ s in absurd (omega (arith, z))
        go (no_room h s b) = let z = numbers 22 _ _ s in absurd (omega (arith, z))
        go (wrote s f l b) =
            let all = e ∙ ap (λ (w : Output). after (take from out) w) s in
            let counted : count ≡ length second = ap (λ (w : Output). written_in w.row) all in
            let held : o ≡ second_put l enough =
            ap (λ (w : Output). w.out) all ∙ ap (λ k. take k out ++ onto second (drop k out)) f in
            let put : made ≡ onto (first ++ second) out =
            ap (λ (w : Output). w.out) m ∙ ap (λ (x : List ℕ). (write_of limit 0x1A number 0 [] x).out) held
            ∙ put_first l enough in
            rw (counted, put) (sym b)
