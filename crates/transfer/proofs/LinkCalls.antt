-- link_follows, from link's claims link_history and refused_unchanged, and from transfer_history. Assumes nothing.
use Prim.Native.Nat.{ℕ, ◌≤◌}
use mathlib.Core.Path.{◌≡◌, refl, sym, ap, subst, ◌∙◌}
use mathlib.Core.Bool.{false, cond}
use mathlib.Core.Logic.{◌≢◌}
use mathlib.Core.List.{List, [], ◌∷◌, ◌++◌, map, cons≢nil, head-eq_of_cons-eq, tail-eq_of_cons-eq}
use lib.Dec.{eqb}
use lib.ListN.{length}
use Rattle.base.specs.Rows.{Row}
use Rattle.link.specs.Calls.{fresh_of, in_range, offer_of}
use Rattle.link.specs.History.{History}
use Rattle.link.specs.Logs as link
use Rattle.link.specs.LogsComputed as answer
use Rattle.link.specs.Table.{accepted_row}
use Rattle.link.specs.declared.state.Link.{Link}
use Rattle.link.proofs.Histories.{link_history}
use Rattle.link.proofs.Refusals.{refused_unchanged}
use Rattle.transfer.specs.Calls.{Left, Both, Held}
use Rattle.transfer.specs.History.{LinkOut}
use Rattle.transfer.specs.LinkCalls.{leaving, both_call_in, BothChains, BothLogExact, BothStatedAlways}
use Rattle.transfer.specs.LinkCalls.{Box, box, BothCall, linking, beginning, storing, stopping, cancelling}
use Rattle.transfer.specs.LinkCalls.{both_of, BothEntry, both_log, link_left, offered_in, link_calls_in, link_calls}
use Rattle.transfer.specs.LinkCalls.{link_entries_in, link_entries, last_link, WrittenUnder, LinksFollow}
use Rattle.transfer.specs.Logs as own
use Rattle.transfer.specs.LogsComputed as step
use Rattle.transfer.specs.declared.state.Transfer.{Transfer}
use Rattle.transfer.specs.Transfers.{absent}
use Rattle.transfer.proofs.OfferLaws.{Asked, taken, busy, unasked, begin_asks, begin_writes, cancel_asks}
use Rattle.transfer.proofs.OfferLaws.{cancel_writes}
use Rattle.transfer.proofs.Histories.{transfer_history}

module _ (limit first max : ℕ) where
  abbrev link_log : Link → List link.Call → List link.Entry
  link_log l cs = answer.log_of first max l cs

  abbrev link_to : Link → List link.Call → Link
  link_to l cs = last_link l (link_log l cs)

  abbrev entry : Box → BothCall → BothEntry
  entry b c = record { call = c; before = b; after = both_of limit first max b c }

  abbrev row_of : Box → BothCall → Row
  row_of b c = (both_of limit first max b c).row

  abbrev asked_by : Box → BothCall → List link.Call
  asked_by b c = link_calls_in c (row_of b c)

  -- ---- the link's calls one after another

  logs_joined : (l : Link) (a b : List link.Call) → link_log l (a ++ b) ≡ link_log l a ++ link_log (link_to l a) b
  unfolding answer.log_of last_link
  logs_joined l [] b = refl
  logs_joined l (c ∷ a) b =
      ap (λ (es : List link.Entry). record {
        call = c;
        row = (answer.call_of first max l c).row;
        before = l;
        after = (answer.call_of first max l c).state;
      } ∷ es) (logs_joined (answer.call_of first max l c).state a b)

  lasts_joined : (l : Link) (x y : List link.Entry) → last_link l (x ++ y) ≡ last_link (last_link l x) y
  unfolding last_link
  lasts_joined l [] y = refl
  lasts_joined l (e ∷ x) y = lasts_joined e.after x y

  -- ---- one call

  -- an offer through this crate
  module _ (l : Link) (command clock : ℕ) (r : Row) (after : Link)
      (a : Asked l (offer_of first max l command clock) r after) where
    abbrev said : link.Call → link.Entry
    said c = record { call = c; row = cond (eqb r.number 0) (accepted_row l.next) r; before = l; after = after }

    offer_same : link_log l (offered_in command clock r) ≡ map said (offered_in command clock r)
    unfolding answer.log_of
    offer_same = go a
      where
        go : Asked l (offer_of first max l command clock) r after
            → link_log l (offered_in command clock r) ≡ map said (offered_in command clock r)
        go (taken e o s) = rw (e, o, s) (rw e)
        go (busy e o k s) = rw (e, o, k, s)
        go (unasked e n s) = rw (e, n)

    offer_last : after ≡ link_to l (offered_in command clock r)
    unfolding answer.log_of last_link
    offer_last = go a
      where
        go : Asked l (offer_of first max l command clock) r after → after ≡ link_to l (offered_in command clock r)
        go (taken e o s) = rw (e, s)
        go (busy e o k s) = rw (e, k, s)
        go (unasked e n s) = rw (e, n, s)

  step_same : (b : Box) (c : BothCall) → link_log b.link (asked_by b c) ≡ link_entries_in (entry b c)
  unfolding answer.log_of
  step_same b (linking c) = refl
  step_same b (beginning clock number payload piece out) =
      offer_same b.link 0x1B clock _ _
      (begin_asks limit first max b.transfer b.link clock number payload piece (length b.buffer) out)
  step_same b (storing number flags payload out) = refl
  step_same b (stopping number payload out) = refl
  step_same b (cancelling clock out) =
      offer_same b.link 0x27 clock _ _ (cancel_asks limit first max b.transfer b.link clock out)

  step_last : (b : Box) (c : BothCall) → (both_of limit first max b c).state.link ≡ link_to b.link (asked_by b c)
  unfolding answer.log_of last_link
  step_last b (linking c) = refl
  step_last b (beginning clock number payload piece out) =
      offer_last b.link 0x1B clock _ _
      (begin_asks limit first max b.transfer b.link clock number payload piece (length b.buffer) out)
  step_last b (storing number flags payload out) = refl
  step_last b (stopping number payload out) = refl
  step_last b (cancelling clock out) =
      offer_last b.link 0x27 clock _ _ (cancel_asks limit first max b.transfer b.link clock out)

  step_under : (b : Box) (c : BothCall) → WrittenUnder b.link.next c (both_of limit first max b c)
  step_under b (linking c) = tt
  step_under b (beginning clock number payload piece out) = λ e.
      begin_writes limit first max b.transfer b.link clock number payload piece (length b.buffer) out e
  step_under b (storing number flags payload out) = tt
  step_under b (stopping number payload out) = tt
  step_under b (cancelling clock out) = λ e.
      cancel_writes limit first max b.transfer b.link clock out e

  -- ---- all calls

  same : (b : Box) (cs : List BothCall)
      → link_log b.link (link_calls (both_log limit first max b cs)) ≡ link_entries (both_log limit first max b cs)
  unfolding both_log link_calls link_entries answer.log_of
  same b [] = refl
  same b (c ∷ cs) =
      let next = (both_of limit first max b c).state in
      let rest = link_calls (both_log limit first max next cs) in
      logs_joined b.link (asked_by b c) rest
      ∙ ap (λ (es : List link.Entry). es ++ link_log (link_to b.link (asked_by b c)) rest) (step_same b c)
      ∙ ap (λ (l : Link). link_entries_in (entry b c) ++ link_log l rest) (sym (step_last b c))
      ∙ ap (λ (es : List link.Entry). link_entries_in (entry b c) ++ es) (same next cs)

  last : (b : Box) (cs : List BothCall)
      → link_left b.link (both_log limit first max b cs)
      ≡ last_link b.link (link_entries (both_log limit first max b cs))
  unfolding both_log link_left link_entries last_link
  last b [] = refl
  last b (c ∷ cs) =
      let next = (both_of limit first max b c).state in
      let rest = link_entries (both_log limit first max next cs) in
      last next cs ∙ ap (λ (l : Link). last_link l rest) (step_last b c)
      ∙ ap (λ (es : List link.Entry). last_link (last_link b.link es) rest) (step_same b c)
      ∙ sym (lasts_joined b.link (link_entries_in (entry b c)) rest)

  -- ---- the transfer's calls one after another

  abbrev own_log : Transfer → List ℕ → List own.Call → List own.Entry
  own_log t buffer cs = step.log_of limit first max t buffer cs

  abbrev transfer_to : Transfer → List ℕ → List own.Call → Transfer
  transfer_to t buffer cs = own.transfer_after t (own_log t buffer cs)

  abbrev buffer_to : Transfer → List ℕ → List own.Call → List ℕ
  buffer_to t buffer cs = own.buffer_after buffer (own_log t buffer cs)

  own_joined : (t : Transfer) (buffer : List ℕ) (a b : List own.Call)
      → own_log t buffer (a ++ b) ≡ own_log t buffer a ++ own_log (transfer_to t buffer a) (buffer_to t buffer a) b
  unfolding step.log_of own.transfer_after own.buffer_after
  own_joined t buffer [] b = refl
  own_joined t buffer (c ∷ a) b =
      let y = step.call_of limit first max t buffer c in
      ap (λ (es : List own.Entry). step.entry_of c y ∷ es) (own_joined y.transfer y.buffer a b)

  transfers_joined : (t : Transfer) (x y : List own.Entry)
      → own.transfer_after t (x ++ y) ≡ own.transfer_after (own.transfer_after t x) y
  unfolding own.transfer_after
  transfers_joined t [] y = refl
  transfers_joined t (e ∷ x) y = transfers_joined e.transfer x y

  buffers_joined : (b : List ℕ) (x y : List own.Entry)
      → own.buffer_after b (x ++ y) ≡ own.buffer_after (own.buffer_after b x) y
  unfolding own.buffer_after
  buffers_joined b [] y = refl
  buffers_joined b (e ∷ x) y = buffers_joined e.buffer x y

  -- the transfer's call of a call, if there is one
  abbrev own_calls : Box → BothCall → List own.Call
  own_calls b (linking c) = []
  own_calls b (beginning clock number payload piece out) = own.beginning b.link clock number payload piece out ∷ []
  own_calls b (storing number flags payload out) = own.storing number flags payload out ∷ []
  own_calls b (stopping number payload out) = own.stopping number payload out ∷ []
  own_calls b (cancelling clock out) = own.cancelling b.link clock out ∷ []

  step_transfer : (b : Box) (c : BothCall)
      → (both_of limit first max b c).state.transfer ≡ transfer_to b.transfer b.buffer (own_calls b c)
  unfolding step.log_of own.transfer_after
  step_transfer b (linking c) = refl
  step_transfer b (beginning clock number payload piece out) = refl
  step_transfer b (storing number flags payload out) = refl
  step_transfer b (stopping number payload out) = refl
  step_transfer b (cancelling clock out) = refl

  step_buffer : (b : Box) (c : BothCall)
      → (both_of limit first max b c).state.buffer ≡ buffer_to b.transfer b.buffer (own_calls b c)
  unfolding step.log_of own.buffer_after
  step_buffer b (linking c) = refl
  step_buffer b (beginning clock number payload piece out) = refl
  step_buffer b (storing number flags payload out) = refl
  step_buffer b (stopping number payload out) = refl
  step_buffer b (cancelling clock out) = refl

  -- ---- no STATE

  module _ (small : first ≤ 255) (buffer : List ℕ) where
    -- the link is reached by its own calls, and the transfer and the buffer by theirs
    record Reached (b : Box) : Type 0 where
      asked : List link.Call
      called : List own.Call
      link_is : b.link ≡ link_to (fresh_of first) asked
      transfer_is : b.transfer ≡ transfer_to absent buffer called
      buffer_is : b.buffer ≡ buffer_to absent buffer called

    fresh_reached : Reached (box absent (fresh_of first) buffer)
    unfolding answer.log_of last_link step.log_of own.transfer_after own.buffer_after
    fresh_reached = record { asked = []; called = []; link_is = refl; transfer_is = refl; buffer_is = refl }

    next_reached : (b : Box) (c : BothCall) → Reached b → Reached (both_of limit first max b c).state
    next_reached b c r =
        let one = asked_by b c in
        let its = own_calls b c in
        let joined = own_joined absent buffer r.called its in
        record {
          asked = r.asked ++ one;
          called = r.called ++ its;
          link_is =
              step_last b c ∙ ap (λ (l : Link). link_to l one) r.link_is
              ∙ sym (ap (λ (es : List link.Entry). last_link (fresh_of first) es)
              (logs_joined (fresh_of first) r.asked one)
              ∙ lasts_joined (fresh_of first) (link_log (fresh_of first) r.asked) _);
          transfer_is =
              step_transfer b c ∙ ap (λ (t : Transfer). transfer_to t b.buffer its) r.transfer_is
              ∙ ap (λ (u : List ℕ). transfer_to (transfer_to absent buffer r.called) u its) r.buffer_is
              ∙ sym (ap (λ (es : List own.Entry). own.transfer_after absent es) joined
              ∙ transfers_joined absent (own_log absent buffer r.called) _);
          buffer_is =
              step_buffer b c ∙ ap (λ (t : Transfer). buffer_to t b.buffer its) r.transfer_is
              ∙ ap (λ (u : List ℕ). buffer_to (transfer_to absent buffer r.called) u its) r.buffer_is
              ∙ sym (ap (λ (es : List own.Entry). own.buffer_after buffer es) joined
              ∙ buffers_joined buffer (own_log absent buffer r.called) _);
        }

    -- what the link answers
    link_never : (b : Box) → Reached b → (c : link.Call) → (answer.call_of first max b.link c).row.number ≢ 17
    unfolding answer.log_of
    link_never b r c =
        subst (λ (l : Link). (answer.call_of first max l c).row.number ≢ 17) (sym r.link_is)
        ((link_history first max small (r.asked ++ (c ∷ []))).never_state (link_log (fresh_of first) r.asked) _ []
        (logs_joined (fresh_of first) r.asked (c ∷ [])))

    link_ranged : (b : Box) → Reached b → (c : link.Call) → in_range first max b.link ≡ false → ⊥
    link_ranged b r c h =
        link_never b r c (ap (λ (x : Row). x.number) ((refused_unchanged first max b.link c).out_state h))

    -- what the transfer answers
    transfer_never : (b : Box) → Reached b → (c : own.Call)
        → (step.call_of limit first max b.transfer b.buffer c).row.number ≡ 17 → LinkOut first max c
    unfolding step.log_of
    transfer_never b r c e =
        (transfer_history limit first max buffer (r.called ++ (c ∷ []))).never_state (own_log absent buffer r.called)
        _ [] (own_joined absent buffer r.called (c ∷ []))
        (sym (ap (λ (t : Transfer). (step.call_of limit first max t b.buffer c).row.number) r.transfer_is
        ∙ ap (λ (u : List ℕ). (step.call_of limit first max (transfer_to absent buffer r.called) u c).row.number)
        r.buffer_is) ∙ e)

    step_never : (b : Box) → Reached b → (c : BothCall) → (row_of b c).number ≢ 17
    step_never b r (linking c) = link_never b r c
    step_never b r (beginning clock number payload piece out) = λ e.
        link_ranged b r (link.offering 0x1B clock)
        (transfer_never b r (own.beginning b.link clock number payload piece out) e)
    step_never b r (storing number flags payload out) = λ e.
        transfer_never b r (own.storing number flags payload out) e
    step_never b r (stopping number payload out) = λ e. transfer_never b r (own.stopping number payload out) e
    step_never b r (cancelling clock out) = λ e.
        link_ranged b r (link.offering 0x27 clock) (transfer_never b r (own.cancelling b.link clock out) e)

    -- ---- each entry

    abbrev Fine : BothEntry → Type 0
    Fine e = WrittenUnder e.before.link.next e.call e.after × (e.after.row.number ≢ 17)

    each : (b : Box) → Reached b → (cs : List BothCall)
        → (before : List BothEntry) (e : BothEntry) (after : List BothEntry)
        → both_log limit first max b cs ≡ before ++ (e ∷ after) → Fine e
    unfolding both_log
    each b r [] [] e after q = absurd (cons≢nil (sym q))
    each b r [] (x ∷ before) e after q = absurd (cons≢nil (sym q))
    each b r (c ∷ cs) [] e after q =
        subst (λ (x : BothEntry). Fine x) (head-eq_of_cons-eq q) (step_under b c, step_never b r c)
    each b r (c ∷ cs) (x ∷ before) e after q =
        each (both_of limit first max b c).state (next_reached b c r) cs before e after (tail-eq_of_cons-eq q)

pub link_follows : LinksFollow
link_follows limit first max small buffer calls =
    let start = box absent (fresh_of first) buffer in
    let log = both_log limit first max start calls in
    let same = same limit first max start calls in
    let all = each limit first max small buffer start (fresh_reached limit first max small buffer) calls in
    record {
      same = same;
      history =
          subst (λ (es : List link.Entry). History first max es) same (link_history first max small (link_calls log));
      left = last limit first max start calls;
      numbered = λ before e after q. (all before e after q).0;
      never_state = λ before e after q. (all before e after q).1;
    }

pub both_log_exact : BothLogExact
unfolding both_log BothChains
both_log_exact limit first max b calls = record { all_calls = all b calls; chains = links b calls }
  where
    all : (b : Box) (cs : List BothCall) → map both_call_in (both_log limit first max b cs) ≡ cs
    all b [] = refl
    all b (c ∷ cs) = ap (λ l. c ∷ l) (all (both_of limit first max b c).state cs)

    links : (b : Box) (cs : List BothCall) → BothChains limit first max b (both_log limit first max b cs)
    links b [] = tt
    links b (c ∷ cs) = (refl, refl, links (both_of limit first max b c).state cs)

pub both_stated : BothStatedAlways
both_stated limit first max b =
    record {
      begins = λ clock number payload piece out y e.
          ap (λ (z : Left Both). leaving z (box z.state.transfer z.state.link b.buffer)) e;
      stores = λ number flags payload out y e.
          ap (λ (z : Left Held). leaving z (box z.state.transfer b.link z.state.buffer)) e;
      stops = λ number payload out y e.
          ap (λ (z : Left Transfer). leaving z (box z.state b.link b.buffer)) e;
      cancels = λ clock out y e.
          ap (λ (z : Left Both). leaving z (box z.state.transfer z.state.link b.buffer)) e;
    }
