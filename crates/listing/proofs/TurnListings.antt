-- Several calls of the loop. Assumes nothing.
use Prim.Native.Nat.{ℕ, ◌+◌, ◌≤◌}
use mathlib.Core.Path.{◌≡◌, refl, sym, ap, subst, ◌∙◌}
use mathlib.Core.Bool.{true≢false}
use mathlib.Core.List.{List, [], ◌∷◌, ◌++◌, append_assoc, append-nil}
use native.Mathlib.Nat.{zero-add, add-zero}
use native.Mathlib.Omega.{arith}
use lib.ListN.{length, take, drop, take-append-drop, length-append, length-drop}
use lib.Seq.{take-append-le, length-take-le}
use Rattle.base.specs.Runs.{Run}
use Rattle.base.specs.Rows.{Row}
use Rattle.base.specs.Outcomes.{Outcome}
use Rattle.base.specs.Keys.{among}
use Rattle.frame.specs.Wire.{widest}
use Rattle.frame.specs.State.{State}
use Rattle.frame.specs.Calls.{fresh_of, feed_of}
use Rattle.frame.specs.Logs.{Call, feed, finish, offered, consumed_in, stream}
use Rattle.frame.specs.LogsComputed.{call_of, entry_of, log_of, state_after, offer}
use Rattle.frame.specs.Accounts.{feed_numbers, Account, Accounts}
use Rattle.frame.proofs.StreamCorrect.{stream_correct}
use Rattle.base.proofs.Lists.{no_bytes}
use Rattle.listing.specs.Lines.{heading_text}
use Rattle.listing.specs.CallTexts.{feed_text_in, feed_text, listing_of, OnlyFeed}
use Rattle.listing.specs.Listing.{IsListing}
use Rattle.listing.specs.Turns.{Turn, Turned, turned, turns_of, written_by, OfferedFront}
use Rattle.listing.specs.Feeding.{list_of}
use Rattle.listing.specs.LoopRuns.{RunOfFeeds}
use Rattle.listing.specs.TurnListings.{TurnsListing, TurnStops, TurnsStop, TurnsFront, SentTurns, AnyTurns}
use Rattle.listing.proofs.LoopRuns.{loop_lists}
use Rattle.listing.proofs.WholeListing.{only_offered, texts, whole_listing, one_listing}

-- ---- calls that make what turns leave

record Makes (limit : ℕ) (prefix : List ℕ) (r : State) (calls : List Call) (t : Turned) : Type 0 where
  only : OnlyFeed calls
  state_is : state_after limit r calls ≡ t.state
  consumed_is : stream (log_of limit r calls) ≡ t.consumed
  text_is : feed_text prefix (log_of limit r calls) ≡ t.text

-- calls, and others after them
joined : (limit : ℕ) (prefix : List ℕ) (a b : List Call) (r : State) (t : Turned)
    → OnlyFeed a → Makes limit prefix (state_after limit r a) b t
    → Makes limit prefix r (a ++ b) (record {
      state = t.state;
      consumed = stream (log_of limit r a) ++ t.consumed;
      text = feed_text prefix (log_of limit r a) ++ t.text;
    })
unfolding log_of state_after stream feed_text
joined limit prefix [] b r t o m = m
joined limit prefix (feed bytes ∷ a) b r t o m =
    let y : Outcome State = feed_of limit r bytes in
    let e = entry_of r (feed bytes) y in
    let rest = joined limit prefix a b y.state t o m in
    record {
      only = rest.only;
      state_is = rest.state_is;
      consumed_is = ap (λ (l : List ℕ). take (consumed_in e) bytes ++ l) rest.consumed_is
          ∙ sym (append_assoc (take (consumed_in e) bytes) (stream (log_of limit y.state a)) t.consumed);
      text_is = ap (λ (l : List ℕ). feed_text_in prefix (feed bytes) e ++ l) rest.text_is
          ∙ sym (append_assoc (feed_text_in prefix (feed bytes) e) (feed_text prefix (log_of limit y.state a))
          t.text);
    }
joined limit prefix (finish ∷ a) b r t o m = absurd o

-- the calls of turns
record Called (limit : ℕ) (prefix : List ℕ) (r : State) (t : Turned) : Type 0 where
  calls : List Call
  makes : Makes limit prefix r calls t

-- a turn before others
turn_before : (limit : ℕ) (prefix : List ℕ) (r : State) (bytes : List ℕ) (room : ℕ) (run : Run State) (rest : Turned)
    → RunOfFeeds limit prefix r bytes room run → Called limit prefix run.state rest
    → Called limit prefix r (turned bytes run rest)
turn_before limit prefix r bytes room run rest l c =
    let cs : List Call = offer limit l.calls r bytes in
    record {
      calls = cs ++ c.calls;
      makes = rw (l.consumed_is, ← l.text_is) at (joined limit prefix cs c.calls r rest
          (only_offered limit l.calls r bytes)
          (subst (λ (q : State). Makes limit prefix q c.calls rest) l.state_is c.makes));
    }

called : (limit : ℕ) (prefix : List ℕ) (ts : List Turn) (r : State)
    → Called limit prefix r (turns_of limit prefix r ts)
unfolding turns_of log_of state_after stream feed_text
called limit prefix [] r =
    record { calls = []; makes = record { only = tt; state_is = refl; consumed_is = refl; text_is = refl } }
called limit prefix (t ∷ ts) r =
    turn_before limit prefix r t.bytes t.room (list_of limit prefix r t.bytes t.room) _
    (loop_lists limit prefix r t.bytes t.room)
    (called limit prefix ts (list_of limit prefix r t.bytes t.room).state)

-- ---- turns_listing

-- the listing of calls that make what turns leave
listing_of_lem : (prefix : List ℕ) (limit : ℕ) → limit ≤ widest → (t : Turned) → Called limit prefix (fresh_of limit) t
    → IsListing prefix limit t.consumed (written_by limit prefix t)
listing_of_lem prefix limit small t c =
    let m = c.makes in
    let same : listing_of prefix limit (c.calls ++ finish ∷ []) ≡ written_by limit prefix t =
    ap (λ (l : List ℕ). heading_text prefix ++ l) (texts prefix limit c.calls (fresh_of limit) m.only
    ∙ rw (m.state_is, m.text_is)) in
    rw (m.consumed_is, same) at (whole_listing prefix limit small c.calls m.only)

pub turns_listing : TurnsListing
turns_listing prefix limit small turns =
    listing_of_lem prefix limit small (turns_of limit prefix (fresh_of limit) turns)
    (called limit prefix turns (fresh_of limit))

-- ---- turns_stop

-- what a call after others owes, where all counts before it add up to the stream's length
last_account : (limit : ℕ) (calls : List Call) (c : Call) (r : State) (n : ℕ)
    → Accounts n (log_of limit r (calls ++ c ∷ []))
    → Account (n + length (stream (log_of limit r calls)))
    (entry_of (state_after limit r calls) c (call_of limit (state_after limit r calls) c))
unfolding log_of state_after stream Accounts
last_account limit [] c r n o = rw add-zero o.0
last_account limit (d ∷ ds) c r n o =
    let y : Outcome State = call_of limit r d in
    let count : ℕ = consumed_in (entry_of r d y) in
    let later : List ℕ = stream (log_of limit y.state ds) in
    let sum : n + count + length later ≡ n + length (take count (offered d) ++ later) =
    omega (arith, length-append (take count (offered d)) later, length-take-le count (offered d) o.0.within) in
    rw sum at (last_account limit ds c y.state (n + count) o.1)

-- what a feed after the calls of turns owes
feed_account : (limit : ℕ) → limit ≤ widest → (prefix : List ℕ) (t : Turned) (calls : List Call) (bytes : List ℕ)
    → Makes limit prefix (fresh_of limit) calls t
    → Account (length t.consumed) (entry_of t.state (feed bytes) (feed_of limit t.state bytes))
feed_account limit small prefix t calls bytes m =
    rw (m.state_is, m.consumed_is, zero-add) at (last_account limit calls (feed bytes) (fresh_of limit) 0
    (stream_correct limit small (calls ++ feed bytes ∷ [])).accounts)

-- the feed that a turn stops at
run_stops : (limit : ℕ) → limit ≤ widest → (prefix : List ℕ) (t : Turned) (bytes : List ℕ) (room : ℕ) (run : Run State)
    → Called limit prefix (fresh_of limit) t → RunOfFeeds limit prefix t.state bytes room run
    → TurnStops t.consumed bytes run
unfolding among
run_stops limit small prefix t bytes room run c l =
    let cs : List Call = offer limit l.calls t.state bytes in
    let m = c.makes in
    let last : Turned = record { state = run.state; consumed = take run.used bytes; text = run.text } in
    let run_makes : Makes limit prefix (state_after limit (fresh_of limit) c.calls) cs last =
    rw m.state_is (record {
      only = only_offered limit l.calls t.state bytes;
      state_is = sym l.state_is;
      consumed_is = l.consumed_is;
      text_is = sym l.text_is;
    }) in
    let owes = rw m.consumed_is at (feed_account limit small prefix _ (c.calls ++ cs) (drop run.used bytes)
    (joined limit prefix c.calls cs (fresh_of limit) last m.only run_makes)) in
    record {
      never_state = λ e. true≢false
          (sym (owes.feed_row (drop run.used bytes) refl)
          ∙ ap (λ (a : Row). among a.number feed_numbers) (l.at_state e));
      used_late = λ e. omega (
        arith,
        owes.used (ap (λ (a : Row). a.number) (l.at_used e)),
        length-append t.consumed (take run.used bytes),
        length-take-le run.used bytes l.within,
        length-drop run.used bytes,
        l.within,
      );
    }

pub turns_stop : TurnsStop
turns_stop prefix limit small turns t =
    run_stops limit small prefix (turns_of limit prefix (fresh_of limit) turns) t.bytes t.room _
    (called limit prefix turns (fresh_of limit)) (loop_lists limit prefix _ t.bytes t.room)

-- ---- turns_front

pub turns_front : TurnsFront
unfolding turns_of OfferedFront
turns_front limit prefix r sent [] o = (sent, refl)
turns_front limit prefix r sent (t ∷ ts) o =
    let run : Run State = list_of limit prefix r t.bytes t.room in
    let l = loop_lists limit prefix r t.bytes t.room in
    let later = turns_front limit prefix run.state (drop run.used sent) ts o.1 in
    let front : take run.used sent ≡ take run.used t.bytes =
    ap (λ (s : List ℕ). take run.used s) o.0.1
    ∙ take-append-le run.used t.bytes o.0.0 l.within in (
      later.0,
      sym (take-append-drop run.used sent)
          ∙ ap (λ (s : List ℕ). s ++ drop run.used sent) front
          ∙ ap (λ (s : List ℕ). take run.used t.bytes ++ s) later.1
          ∙ sym (append_assoc (take run.used t.bytes) (turns_of limit prefix run.state ts).consumed
          later.0),
    )

-- ---- sent_turns, any_turns

pub sent_turns : SentTurns
sent_turns prefix limit small sent turns o all =
    let t : Turned = turns_of limit prefix (fresh_of limit) turns in
    let front = turns_front limit prefix (fresh_of limit) sent turns o in
    let none : front.0 ≡ [] =
    no_bytes front.0 (omega (arith, ap length front.1, length-append t.consumed front.0)) in
    let same : t.consumed ≡ sent =
    sym (front.1 ∙ (ap (λ (l : List ℕ). t.consumed ++ l) none ∙ append-nil t.consumed)) in
    subst (λ (l : List ℕ). IsListing prefix limit l (written_by limit prefix t)) same
    (turns_listing prefix limit small turns)

pub any_turns : AnyTurns
any_turns prefix limit small a b e =
    one_listing prefix limit _ _ _ (turns_listing prefix limit small a) (rw e (turns_listing prefix limit small b))
