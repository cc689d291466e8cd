-- pair_read and pair_anywhere, from frame's claims read_anywhere, made_good, stream_correct and one_list, and message's
-- claim written_read. Assumes nothing.
use Prim.Native.Nat.{ℕ, ◌+◌, ◌≤◌}
use mathlib.Core.Path.{◌≡◌, refl, sym, ap, subst, ◌∙◌}
use mathlib.Core.Bool.{Bool, true, false, cond, true≢false}
use mathlib.Core.List.{List, [], ◌∷◌, ◌++◌, append-nil, append_assoc, Memᴰ}
use native.Mathlib.Omega.{arith}
use borrow.Author.Tests.{eq-eqb, le-leb}
use lib.Dec.{eqb}
use lib.ListN.{length, get_or, take, drop, length-append}
use lib.Seq.{take_at}
use Rattle.base.specs.Rows.{Row, row}
use Rattle.base.specs.Outcomes.{Output}
use Rattle.base.proofs.Lists.{append_cancel}
use Rattle.base.proofs.Rows.{refused}
use Rattle.base.specs.Numbers.{two}
use Rattle.frame.specs.Wire.{widest, wire, body_of, frame_of}
use Rattle.frame.specs.Frames.{Found, found, Lists, Apart}
use Rattle.frame.specs.FramesComputed.{frames_of}
use Rattle.frame.specs.Calls.{fresh_of}
use Rattle.frame.specs.State.{State}
use Rattle.frame.specs.Logs.{Call, Entry, offered, consumed_in, stream, delivered, add_delivered}
use Rattle.frame.specs.LogsComputed.{call_of, entry_of, log_of, state_after}
use Rattle.frame.proofs.RoundTrip.{made_good, read_anywhere}
use Rattle.frame.proofs.StreamCorrect.{stream_correct}
use Rattle.frame.proofs.Unique.{one_list}
use Rattle.link.specs.Calls.{offer_of}
use Rattle.link.specs.declared.state.Link.{Link}
use Rattle.message.specs.Commands.{table, profile_in}
use Rattle.message.specs.Parts.{bytes_of}
use Rattle.message.specs.Reading.{read_of, parts_of}
use Rattle.message.specs.WrittenRead.{Writable, Decodes}
use Rattle.message.specs.declared.values.Message.TheVariants.{Ready}
use Rattle.message.proofs.WrittenRead.{written_read}
use Rattle.transfer.specs.Payloads.{faulty, size_in, code_in}
use Rattle.transfer.specs.Checks.{first_refusal, begin_tests}
use Rattle.transfer.specs.Writing.{ready_payload, pair_wire, pair_of}
use Rattle.transfer.specs.Calls.{Left, Both, both, begin_by}
use Rattle.transfer.specs.PairRead.{IsAccept, IsReady, Pair, Begins, PairBack, PairRead, PairAmong, PairAnywhere}
use Rattle.transfer.specs.Transfers.{opened}
use Rattle.transfer.proofs.WriteLaws.{by_pair}
use Rattle.transfer.proofs.Outcomes.{Went, done, kept, went}
use Rattle.transfer.proofs.FoundLaws.{around, apart_back, next_is, lies, front_lists}

-- ---- what was written

-- bytes that are the pair
record Wrote (limit number next piece : ℕ) (code : List ℕ) (at count : ℕ) (w : List ℕ) : Type 0 where
  fits : length (ready_payload piece code) + 5 ≤ limit
  at_is : length (frame_of 0x1A number 0 []) ≡ at
  count_is : length (pair_wire number next piece code) ≡ count
  is_pair : w ≡ pair_wire number next piece code

module _ (limit number next piece : ℕ) (code out : List ℕ) (at count : ℕ) where
  abbrev accepted : Row
  accepted = row 0 (count ∷ 0x1A ∷ at ∷ [])

  wrote : (pair_of limit number next piece code out).row ≡ accepted
      → Wrote limit number next piece code at count (take count (pair_of limit number next piece code out).out)
  wrote =
      by_pair limit number next piece code out
      (λ (v : Output). v.row ≡ accepted → Wrote limit number next piece code at count (take count v.out))
      (λ _ e. refused e) (λ _ e. refused e)
      (λ within e.
      let w : List ℕ = pair_wire number next piece code in
      let counted : length w ≡ count = ap (λ (r : Row). get_or r.values 0 0) e in
      record {
        fits = within;
        at_is = ap (λ (r : Row). get_or r.values 2 0) e;
        count_is = counted;
        is_pair = take_at w (drop (length w) out) count counted;
      })

-- by an accepted 19
module _ (limit : ℕ) (l : Link) (number : ℕ) (payload : List ℕ) (piece at count : ℕ) (w : List ℕ)
    (b : Begins limit l number payload piece at count w) where
  abbrev refusal : ℕ
  refusal =
      first_refusal (begin_tests b.first b.max b.transfer l
      (eqb (offer_of b.first b.max l 0x1B b.clock).row.number 41) (faulty 0x19 payload) (size_in payload) piece
      b.room)

  abbrev next : Link
  next = (offer_of b.first b.max l 0x1B b.clock).state

  abbrev made : ℕ → Left Both
  made n = begin_by limit n b.transfer l next number payload piece b.out

  abbrev Written : List ℕ → Type 0
  Written v = Wrote limit number l.next piece (code_in payload) at count v

  abbrev begun_by : Both
  begun_by = both (opened (size_in payload) piece 0) next

  begun : Written w
  begun =
      subst (λ v. Written v) b.wrote
      (go (went (both b.transfer l) begun_by limit refusal number
      (pair_of limit number l.next piece (code_in payload) b.out) b.out))
    where
      go : Went (both b.transfer l) begun_by (made refusal) refusal → Written (take count (made refusal).out)
      go (done e z s) =
          subst (λ n. Written (take count (made n).out)) z
          (wrote limit number l.next piece (code_in payload) b.out at count
          (subst (λ n. (made n).row ≡ row 0 (count ∷ 0x1A ∷ at ∷ [])) (sym z) b.accepted))
      go (kept e s) =
          let zero = eq-eqb (made refusal).row.number 0 (ap (λ (r : Row). r.number) b.accepted) in
          absurd (true≢false (sym zero ∙ e))

-- ---- the two frames in a stream

module _ (limit number next piece : ℕ) (code : List ℕ) (fits : length (ready_payload piece code) + 5 ≤ limit)
    (small : limit ≤ widest) where
  abbrev accept : List ℕ
  accept = body_of 0x1A number 0 []

  abbrev ready : List ℕ
  ready = body_of 0x1B next 0 (ready_payload piece code)

  bare : length {A = ℕ} [] + 5 ≤ limit
  bare = omega (arith, fits)

  writable : Writable (Ready piece) code
  unfolding table profile_in
  writable =
      record {
        listed = refl;
        sized = le-leb (length code) 65535 (omega (arith, fits, small, length-append code (two piece [])));
        allows = refl;
      }

  decodes : Decodes (Ready piece) code 0x1B (ready_payload piece code)
  decodes = written_read (Ready piece) code writable

  module _ (start : ℕ) where
    abbrev first : Found
    first = found start (start + length (wire accept)) accept

    abbrev second : Found
    second = found (start + length (wire accept)) (start + length (wire accept) + length (wire ready)) ready

    is_accept : (at : ℕ) → length (wire accept) ≡ at → IsAccept number start (start + at) first
    is_accept at e =
        let m = made_good limit 0x1A number 0 [] bare in
        record {
          start_is = refl;
          end_is = ap (λ n. start + n) e;
          command_is = m.command_is;
          number_is = m.number_is;
          flags_are = m.flags_are;
          payload_is = m.payload_is;
        }

    is_ready : (at count : ℕ) → length (wire accept) ≡ at → length (wire accept ++ wire ready) ≡ count
        → IsReady next piece code (start + at) (start + count) second
    is_ready at count e c =
        let m = made_good limit 0x1B next 0 (ready_payload piece code) fits in
        record {
          start_is = ap (λ n. start + n) e;
          end_is = omega (arith, c, length-append (wire accept) (wire ready));
          command_is = m.command_is;
          number_is = m.number_is;
          flags_are = m.flags_are;
          message = ap (λ p. read_of 0x1B p) m.payload_is ∙ decodes.message;
          code_is =
              ap (λ p. bytes_of (parts_of 0x1B p).code p) m.payload_is
              ∙ ap (λ (v : List (List ℕ)). get_or v 6 []) decodes.parts;
        }

    abbrev the_pair : (at count : ℕ) → length (wire accept) ≡ at → length (wire accept ++ wire ready) ≡ count
        → Pair start at count number next piece code
    the_pair at count e c =
        record { first = first; second = second; accept = is_accept at e; ready = is_ready at count e c }

  -- in all calls of a fresh reader
  module _ (calls : List Call) (before after : List ℕ)
      (all : stream (log_of limit (fresh_of limit) calls) ≡ before ++ ((wire accept ++ wire ready) ++ after)) where
    abbrev frames : List Found
    frames = delivered (log_of limit (fresh_of limit) calls)

    abbrev one : Found
    one = first (length before)

    abbrev other : Found
    other = second (length before)

    one_there : Memᴰ one frames
    one_there =
        read_anywhere limit small 0x1A number 0 [] bare calls before (wire ready ++ after)
        (all ∙ ap (λ l. before ++ l) (append_assoc (wire accept) (wire ready) after))

    other_there : Memᴰ other frames
    other_there =
        let size = length-append before (wire accept) in
        subst (λ n. Memᴰ (found n (n + length (wire ready)) ready) frames) size
        (read_anywhere limit small 0x1B next 0 (ready_payload piece code) fits calls (before ++ wire accept) after
        (all ∙ ap (λ l. before ++ l) (append_assoc (wire accept) (wire ready) after)
        ∙ sym (append_assoc before (wire accept) (wire ready ++ after))))

    lists : Lists limit (before ++ ((wire accept ++ wire ready) ++ after)) frames
    lists = subst (λ t. Lists limit t frames) all (stream_correct limit small calls).lists

    pub record InOrder : Type 0 where
      pub rest : List Found
      pub order : frames ≡ frames_of limit before ++ (one ∷ other ∷ rest)

    pub in_order : InOrder
    in_order =
        let r = around one frames one_there in
        let apart = subst (λ l. Apart l) r.whole lists.apart in
        let n = next_is r.front r.back one other apart refl (omega arith)
        (subst (λ l. Memᴰ other l) r.whole other_there) in
        let x = (one_list limit small before).1 r.front
        (front_lists limit before ((wire accept ++ wire ready) ++ after) r.front r.back one
        (subst (λ l. Lists limit (before ++ ((wire accept ++ wire ready) ++ after)) l) r.whole lists) refl) in
        record {
          rest = n.0;
          order = r.whole ∙ ap (λ l. l ++ (one ∷ r.back)) x ∙ ap (λ l. frames_of limit before ++ (one ∷ l)) n.1;
        }

    -- the bytes end with them: no frame comes later
    pub none_later : after ≡ [] → (i : InOrder) → i.rest ≡ []
    none_later e i = go i.rest i.order
      where
        ends : length (before ++ ((wire accept ++ wire ready) ++ after)) ≡ other.end
        ends =
            let outer = length-append before ((wire accept ++ wire ready) ++ after) in
            let inner = length-append (wire accept ++ wire ready) after in
            let pair = length-append (wire accept) (wire ready) in
            let none : length after ≡ 0 = ap length e in
            omega (arith, outer, inner, pair, none)

        go : (l : List Found) → frames ≡ frames_of limit before ++ (one ∷ other ∷ l) → l ≡ []
        go [] q = refl
        go (f ∷ l) q =
            let there : Memᴰ f (frames_of limit before ++ (one ∷ other ∷ f ∷ l)) =
            mathlib.Core.List.Memᴰ.append_right (frames_of limit before)
            (mathlib.Core.List.Memᴰ.tail (mathlib.Core.List.Memᴰ.tail (mathlib.Core.List.Memᴰ.head refl))) in
            let inside = lies limit (before ++ ((wire accept ++ wire ready) ++ after)) f
            (lists.sound f (subst (λ k. Memᴰ f k) (sym q) there)) in
            let apart = apart_back (frames_of limit before) (one ∷ other ∷ f ∷ l)
            (subst (λ k. Apart k) q lists.apart) in
            absurd (omega (arith, ends, inside.0, inside.1, apart.2.1.0))

-- ---- calls after calls

logs_joined : (limit : ℕ) (r : State) (a b : List Call)
    → log_of limit r (a ++ b) ≡ log_of limit r a ++ log_of limit (state_after limit r a) b
unfolding log_of state_after
logs_joined limit r [] b = refl
logs_joined limit r (c ∷ a) b =
    ap (λ (l : List Entry). entry_of r c (call_of limit r c) ∷ l) (logs_joined limit (call_of limit r c).state a b)

streams_joined : (a b : List Entry) → stream (a ++ b) ≡ stream a ++ stream b
unfolding stream
streams_joined [] b = refl
streams_joined (e ∷ a) b =
    ap (λ l. take (consumed_in e) (offered e.call) ++ l) (streams_joined a b)
    ∙ sym (append_assoc (take (consumed_in e) (offered e.call)) (stream a) (stream b))

add_joined : (e : Entry) (a b : List Found) → add_delivered e (a ++ b) ≡ add_delivered e a ++ b
add_joined e a b = go (eqb e.row.number 1) _
  where
    go : (t : Bool) (f : Found) → cond t (f ∷ (a ++ b)) (a ++ b) ≡ cond t (f ∷ a) a ++ b
    go true f = refl
    go false f = refl

delivered_joined : (a b : List Entry) → delivered (a ++ b) ≡ delivered a ++ delivered b
unfolding delivered
delivered_joined [] b = refl
delivered_joined (e ∷ a) b =
    ap (λ (l : List Found). add_delivered e l) (delivered_joined a b) ∙ add_joined e (delivered a) (delivered b)

-- ---- the claims

module _ (limit : ℕ) (small : limit ≤ widest) (l : Link) (number : ℕ) (payload : List ℕ) (piece at count : ℕ)
    (w : List ℕ) (begins : Begins limit l number payload piece at count w) where
  abbrev code : List ℕ
  code = code_in payload

  abbrev written : Wrote limit number l.next piece code at count w
  written = begun limit l number payload piece at count w begins

  abbrev pair_from : (start : ℕ) → Pair start at count number l.next piece code
  pair_from start =
      the_pair limit number l.next piece code written.fits small start at count written.at_is
      written.count_is

  among_all : (calls : List Call) (before after : List ℕ)
      → stream (log_of limit (fresh_of limit) calls) ≡ before ++ (w ++ after)
      → PairAmong (frames_of limit before) (length before) at count number l.next piece code
      (delivered (log_of limit (fresh_of limit) calls))
  among_all calls before after all =
      let i = in_order limit number l.next piece code written.fits small calls before after
      (all ∙ ap (λ v. before ++ (v ++ after)) written.is_pair) in
      record { pair = pair_from (length before); after = i.rest; order = i.order }

  module _ (earlier later : List Call) where
    abbrev past : List Entry
    past = log_of limit (fresh_of limit) earlier

    abbrev log : List Entry
    log = log_of limit (state_after limit (fresh_of limit) earlier) later

    abbrev pair : Pair (length (stream past)) at count number l.next piece code
    pair = pair_from (length (stream past))

    abbrev these : List Found → List Found
    these v = pair.first ∷ pair.second ∷ v

    both_back : stream log ≡ w
        → PairBack (length (stream past)) at count number l.next piece code (delivered log)
    both_back all =
        let calls = earlier ++ later in
        let joined = logs_joined limit (fresh_of limit) earlier later in
        let whole = ap stream joined ∙ streams_joined past log
        ∙ ap (λ v. stream past ++ v) (all ∙ written.is_pair ∙ sym (append-nil _)) in
        let i = in_order limit number l.next piece code written.fits small calls (stream past) [] whole in
        let none = none_later limit number l.next piece code written.fits small calls (stream past) [] whole
        refl i in
        let cut : delivered past ++ delivered log ≡ delivered past ++ these i.rest =
        sym (delivered_joined past log) ∙ sym (ap delivered joined) ∙ i.order
        ∙ ap (λ v. v ++ these i.rest) (sym (stream_correct limit small earlier).frames) in
        record {
          pair = pair;
          both = append_cancel (delivered past) (delivered log) (these i.rest) cut ∙ ap (λ v. these v) none;
        }

pub pair_read : PairRead
pair_read limit small l number payload piece at count w begins earlier later all =
    both_back limit small l number payload piece at count w begins earlier later all

pub pair_anywhere : PairAnywhere
pair_anywhere limit small l number payload piece at count w begins calls before after all =
    among_all limit small l number payload piece at count w begins calls before after all
