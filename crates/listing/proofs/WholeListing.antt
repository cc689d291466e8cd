-- The stream alone decides the listing, however calls cut it. Assumes nothing.
use Prim.Native.Nat.{ℕ, zero, suc, ◌^◌, ◌≤◌}
use mathlib.Core.Path.{◌≡◌, sym, ap, ◌∙◌}
use mathlib.Core.Logic.Dec
use mathlib.Core.List.{List, [], ◌∷◌, ◌++◌, append-nil, append_assoc, List-discrete}
use native.Mathlib.Decide.{ℕ_discrete}
use native.Mathlib.Omega.{arith}
use lib.ListN.{length, drop}
use Rattle.frame.specs.Wire.{widest}
use Rattle.frame.specs.Table.{count_of}
use Rattle.base.specs.Outcomes.{Outcome}
use Rattle.frame.specs.Calls.{fresh_of, feed_of, finish_of}
use Rattle.frame.specs.Logs.{Call, feed, finish, stream, decisions_of}
use Rattle.frame.specs.LogsComputed.{log_of, state_after, offer, send}
use Rattle.frame.specs.Offers.{joined}
use Rattle.frame.specs.Decisions.{IsOpen}
use Rattle.frame.specs.State.{State}
use Rattle.frame.proofs.Unique.{one_decisions}
use Rattle.frame.proofs.Sending.{sent_whole}
use Rattle.frame.proofs.Decisions.{each_decision, finish_correct}
use Rattle.listing.specs.Lines.{heading_text, answer_text, last_of}
use Rattle.listing.specs.CallTexts.{texts_of, listing_of, feed_text, OnlyFeed}
use Rattle.listing.specs.Listing.{decisions_text, listing_text}
use Rattle.listing.specs.WholeListing.{WholeListing, OneListing, AnyCuts, SentListing}
use Rattle.listing.proofs.DecisionTexts.{each_listed}

-- ---- the listing of feeds, and then finish

-- the text of them all is that of the feeds, and the last line
pub texts : (prefix : List ℕ) (limit : ℕ) (calls : List Call) (r : State) → OnlyFeed calls
    → texts_of prefix (log_of limit r (calls ++ finish ∷ [])) ≡ feed_text prefix (log_of limit r calls)
    ++ last_of prefix (finish_of limit (state_after limit r calls)).row
unfolding log_of state_after texts_of feed_text
texts prefix limit [] r h = append-nil (last_of prefix (finish_of limit r).row)
texts prefix limit (feed bytes ∷ cs) r h =
    let y : Outcome State = feed_of limit r bytes in
    let line = answer_text prefix y.row y.state.body in
    ap (λ (l : List ℕ). line ++ l) (texts prefix limit cs y.state h)
    ∙ sym (append_assoc line (feed_text prefix (log_of limit y.state cs))
    (last_of prefix (finish_of limit (state_after limit y.state cs)).row))
texts prefix limit (finish ∷ cs) r h = absurd h

-- the same with the heading, and with the decisions over the stream
listing_is : (prefix : List ℕ) (limit : ℕ) → limit ≤ widest → (calls : List Call) → OnlyFeed calls → (y : Outcome State)
    → finish_of limit (state_after limit (fresh_of limit) calls) ≡ y
    → listing_of prefix limit (calls ++ finish ∷ [])
    ≡ listing_text prefix (decisions_of (log_of limit (fresh_of limit) calls)) y.row
listing_is prefix limit small calls h y e =
    ap (λ (l : List ℕ). heading_text prefix ++ l)
    (texts prefix limit calls (fresh_of limit) h
    ∙ ap (λ (l : List ℕ). l ++ last_of prefix (finish_of limit (state_after limit (fresh_of limit) calls)).row)
    (each_listed prefix limit small calls)
    ∙ ap (λ (z : Outcome State). decisions_text prefix (decisions_of (log_of limit (fresh_of limit) calls))
    ++ last_of prefix z.row) e)

pub whole_listing : WholeListing
whole_listing prefix limit small calls h =
    let end = finish_correct limit small calls in
    record {
      decisions = decisions_of (log_of limit (fresh_of limit) calls);
      all_decisions = each_decision limit small calls;
      left_open = λ start o. listing_is prefix limit small calls h _ (end.left_open start o);
      left_clean = λ none. listing_is prefix limit small calls h _ (end.left_clean none);
    }

-- ---- a stream has one listing

-- lists of numbers that cannot differ are equal, since that is a test
tested : (a b : List ℕ) → ((a ≡ b → ⊥) → ⊥) → a ≡ b
tested a b f = (Dec.not-not (List-discrete ℕ_discrete a b)).0 f

-- two that differ would differ with an open frame and without one
pub one_listing : OneListing
one_listing prefix limit t a b p q =
    let same : p.decisions ≡ q.decisions =
    one_decisions limit t p.decisions q.decisions p.all_decisions q.all_decisions in
    tested a b (λ differ.
    let none : (start : ℕ) → IsOpen limit t start → ⊥ =
    λ start o. differ (p.left_open start o ∙ rw same (sym (q.left_open start o))) in
    differ (p.left_clean none ∙ rw same (sym (q.left_clean none))))

-- ---- a sender only feeds: calls after others, bytes until they are consumed, all pieces

pub only_joined : (a b : List Call) → OnlyFeed a → OnlyFeed b → OnlyFeed (a ++ b)
only_joined [] b p q = q
only_joined (feed bytes ∷ a) b p q = only_joined a b p q
only_joined (finish ∷ a) b p q = absurd p

pub only_offered : (limit n : ℕ) (r : State) (bytes : List ℕ) → OnlyFeed (offer limit n r bytes)
unfolding offer
only_offered limit zero r bytes = tt
only_offered limit (suc n) r bytes =
    only_offered limit n (feed_of limit r bytes).state (drop (count_of (feed_of limit r bytes).row) bytes)

only_sent : (limit : ℕ) (pieces : List (List ℕ)) (r : State) → OnlyFeed (send limit r pieces)
unfolding send
only_sent limit [] r = tt
only_sent limit (p ∷ ps) r =
    let cs : List Call = offer limit (length p) r p in
    only_joined cs (send limit (state_after limit r cs) ps) (only_offered limit (length p) r p)
    (only_sent limit ps (state_after limit r cs))

-- all of its bytes are consumed
sent_stream : (limit : ℕ) → limit ≤ widest → (pieces : List (List ℕ)) → length (joined pieces) ≤ 2 ^ 62
    → stream (log_of limit (fresh_of limit) (send limit (fresh_of limit) pieces)) ≡ joined pieces
unfolding log_of state_after stream
sent_stream limit small pieces room = sent_whole limit small [] pieces (omega arith)

pub sent_listing : SentListing
sent_listing prefix limit small pieces room =
    rw (sent_stream limit small pieces room) at (whole_listing prefix limit small (send limit (fresh_of limit) pieces)
    (only_sent limit pieces (fresh_of limit)))

pub any_cut : AnyCuts
any_cut prefix limit small =
    record {
      calls = λ ps qs p q e. one_listing prefix limit _ _ _ (whole_listing prefix limit small ps p)
          (rw e (whole_listing prefix limit small qs q));
      pieces = λ ps qs e room. one_listing prefix limit _ _ _ (sent_listing prefix limit small ps room)
          (rw e (sent_listing prefix limit small qs (rw e at room)));
    }
