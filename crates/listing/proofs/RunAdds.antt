-- A run of the loop after other calls: what it adds. Assumes nothing.
use Prim.Native.Nat.{ℕ}
use mathlib.Core.Path.{◌≡◌, refl, sym, ap, ◌∙◌}
use mathlib.Core.Bool.{Bool, true, false, cond}
use mathlib.Core.List.{List, [], ◌∷◌, ◌++◌, append_assoc}
use lib.ListN.{take}
use Rattle.base.specs.Runs.{Run}
use Rattle.frame.specs.Calls.{fresh_of}
use Rattle.frame.specs.Decisions.{Decision}
use Rattle.frame.specs.Logs.{Call, Entry, offered, consumed_in, stream, decided, decision_in, decisions_of}
use Rattle.frame.specs.LogsComputed.{call_of, entry_of, log_of, state_after, offer}
use Rattle.frame.specs.State.{State}
use Rattle.base.proofs.Lists.{append_cancel}
use Rattle.listing.specs.CallTexts.{feed_text_in, feed_text}
use Rattle.listing.specs.Feeding.{list_of}
use Rattle.listing.specs.Listing.{decision_text, decisions_text}
use Rattle.listing.specs.LoopRuns.{RunsAdd, LinesJoined}
use Rattle.listing.proofs.DecisionTexts.{each_listed}
use Rattle.listing.proofs.LoopRuns.{loop_lists}
use Rattle.listing.proofs.WholeListing.{only_joined, only_offered}

-- ---- calls after others

module _ (limit : ℕ) where
  -- the states, and the logs
  after_both : (a b : List Call) (r : State) → state_after limit r (a ++ b)
      ≡ state_after limit (state_after limit r a) b
  unfolding state_after
  after_both [] b r = refl
  after_both (c ∷ a) b r = after_both a b (call_of limit r c).state

  log_both : (a b : List Call) (r : State)
      → log_of limit r (a ++ b) ≡ log_of limit r a ++ log_of limit (state_after limit r a) b
  unfolding log_of state_after
  log_both [] b r = refl
  log_both (c ∷ a) b r =
      ap (λ (es : List Entry). entry_of r c (call_of limit r c) ∷ es) (log_both a b (call_of limit r c).state)

-- what two logs give, one after the other
stream_both : (a b : List Entry) → stream (a ++ b) ≡ stream a ++ stream b
unfolding stream
stream_both [] b = refl
stream_both (e ∷ a) b =
    rw (stream_both a b)
    (sym (append_assoc (take (consumed_in e) (offered e.call)) (stream a) (stream b)))

decisions_both : (a b : List Entry) → decisions_of (a ++ b) ≡ decisions_of a ++ decisions_of b
unfolding decisions_of
decisions_both [] b = refl
decisions_both (e ∷ a) b =
    go (decided e.row.number) (decisions_of (a ++ b)) (decisions_of a) (decisions_of b) (decisions_both a b)
  where
    go : (t : Bool) (x y z : List Decision) → x ≡ y ++ z
        → cond t (decision_in e ∷ x) x ≡ cond t (decision_in e ∷ y) y ++ z
    go true x y z h = ap (λ (l : List Decision). decision_in e ∷ l) h
    go false x y z h = h

feed_text_both : (prefix : List ℕ) (a b : List Entry)
    → feed_text prefix (a ++ b) ≡ feed_text prefix a ++ feed_text prefix b
unfolding feed_text
feed_text_both prefix [] b = refl
feed_text_both prefix (e ∷ a) b =
    rw (feed_text_both prefix a b)
    (sym (append_assoc (feed_text_in prefix e.call e) (feed_text prefix a) (feed_text prefix b)))

pub lines_joined : LinesJoined
unfolding decisions_text
lines_joined prefix [] b = refl
lines_joined prefix (d ∷ a) b =
    rw (lines_joined prefix a b)
    (sym (append_assoc (decision_text prefix d) (decisions_text prefix a) (decisions_text prefix b)))

-- ---- run_adds

pub run_adds : RunsAdd
run_adds prefix limit small calls only bytes room =
    let r : State = state_after limit (fresh_of limit) calls in
    let run : Run State = list_of limit prefix r bytes room in
    let l = loop_lists limit prefix r bytes room in
    let more : List Call = offer limit l.calls r bytes in
    let earlier : List Entry = log_of limit (fresh_of limit) calls in
    let later : List Entry = log_of limit r more in
    let all : log_of limit (fresh_of limit) (calls ++ more) ≡ earlier ++ later =
    log_both limit calls more (fresh_of limit) in
    let decisions : decisions_of (log_of limit (fresh_of limit) (calls ++ more))
    ≡ decisions_of earlier ++ decisions_of later =
    ap decisions_of all ∙ decisions_both earlier later in
    let lines : feed_text prefix earlier ++ feed_text prefix later
    ≡ decisions_text prefix (decisions_of earlier) ++ decisions_text prefix (decisions_of later) =
    sym (feed_text_both prefix earlier later)
    ∙ (ap (feed_text prefix) (sym all)
    ∙ (each_listed prefix limit small (calls ++ more)
    ∙ (ap (decisions_text prefix) decisions
    ∙ lines_joined prefix (decisions_of earlier) (decisions_of later)))) in
    record {
      more = more;
      only_feed = only_joined calls more only (only_offered limit l.calls r bytes);
      new = decisions_of later;
      state_is = after_both limit calls more (fresh_of limit) ∙ sym l.state_is;
      stream_is = ap stream all
          ∙ (stream_both earlier later ∙ ap (λ (t : List ℕ). stream earlier ++ t) l.consumed_is);
      decisions_are = decisions;
      text_is = l.text_is
          ∙ append_cancel (feed_text prefix earlier) (feed_text prefix later)
          (decisions_text prefix (decisions_of later))
          (lines
          ∙ ap (λ (t : List ℕ). t ++ decisions_text prefix (decisions_of later))
          (sym (each_listed prefix limit small calls)));
    }
