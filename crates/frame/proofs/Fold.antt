-- The reader as a fold over bytes, which goes on after a decision. What calls answer and leave is the fold of their
-- stream. Assumes nothing.
use Rattle.std.proofs.Common.{◌≡◌, ℕ, suc, ◌+◌, ◌^◌, ◌≤◌, Bool, true, false, cond, leb, List, [], ◌∷◌, ◌++◌, length}
use Rattle.std.proofs.Common.{take, sym, refl, ap, ◌∙◌, true≢false, arith}
use Rattle.base.specs.Rows.{Row}
use Rattle.frame.specs.Table.{event_row, further_of}
use Rattle.frame.specs.Rules.{advance_of, decides_of, in_range_of}
use Rattle.base.specs.Outcomes.{Outcome, outcome}
use Rattle.frame.specs.Calls.{next_of, finish_row_in, run_of}
use Rattle.frame.specs.Logs.{Call, feed, finish, offered, consumed_by, stream, add_decision, decisions_of}
use Rattle.frame.specs.Logs.{body_held}
use Rattle.frame.specs.LogsComputed.{call_of, entry_of, log_of, state_after}
use Rattle.frame.specs.Decisions.{Decision}
use Rattle.frame.specs.State.{Phase, Idle, Half, Header, Open, Escape, State, Event, Quiet, Decided}
use Rattle.base.proofs.Tests.{by_test}
use Rattle.frame.proofs.EachCall.{count_event, numbered}
use Rattle.frame.proofs.Moves.{Inv, moves}

-- the number of an event's answer, and its values after count, start and end
abbrev pub event_code : Event → ℕ
event_code e = (event_row e 0 0 0).number

abbrev pub event_values : Event → List ℕ
event_values e = further_of (event_row e 0 0 0)

-- the decision of the byte x, if it decides
abbrev pub decision_at : ℕ → State → ℕ → Decision
decision_at limit r x =
    record {
      number = event_code (advance_of limit r.scan x).event;
      start = r.scan.start;
      end = (next_of limit r x).scan.consumed;
      values = event_values (advance_of limit r.scan x).event;
      body = body_held (event_code (advance_of limit r.scan x).event) (next_of limit r x).body;
    }

unfoldable pub after_all : ℕ → State → List ℕ → State
after_all limit r [] = r
after_all limit r (x ∷ xs) = after_all limit (next_of limit r x) xs

unfoldable pub decided_all : ℕ → State → List ℕ → List Decision
decided_all limit r [] = []
decided_all limit r (x ∷ xs) =
    cond (decides_of (advance_of limit r.scan x).event)
    (decision_at limit r x ∷ decided_all limit (next_of limit r x) xs)
    (decided_all limit (next_of limit r x) xs)

module _ (limit : ℕ) where
  pub after-append : (a b : List ℕ) (r : State) → after_all limit r (a ++ b) ≡ after_all limit (after_all limit r a) b
  unfolding after_all
  after-append [] b r = refl
  after-append (x ∷ a) b r = after-append a b (next_of limit r x)

  join : (t : Bool) (d : Decision) (u v w : List Decision) → u ≡ v ++ w → cond t (d ∷ u) u ≡ cond t (d ∷ v) v ++ w
  join true d u v w e = ap (λ (l : List Decision). d ∷ l) e
  join false d u v w e = e

  pub decided-append : (a b : List ℕ) (r : State)
      → decided_all limit r (a ++ b) ≡ decided_all limit r a ++ decided_all limit (after_all limit r a) b
  unfolding after_all decided_all
  decided-append [] b r = refl
  decided-append (x ∷ a) b r =
      join (decides_of (advance_of limit r.scan x).event) (decision_at limit r x)
      (decided_all limit (next_of limit r x) (a ++ b)) (decided_all limit (next_of limit r x) a)
      (decided_all limit (after_all limit (next_of limit r x) a) b) (decided-append a b (next_of limit r x))

  -- ---- calls, of any reader

  -- a call c consumed k of the bytes bs, after n others
  record Ran (c : Call) (r : State) (n : ℕ) (bs : List ℕ) (y : Outcome State) : Type 0 where
    k : ℕ
    counts : consumed_by c y.row ≡ n + k
    reader : y.state ≡ after_all limit r (take k bs)
    decisions : (ls : List Decision) → add_decision (entry_of r c y) ls ≡ decided_all limit r (take k bs) ++ ls

  added_event : (c : Call) (e : Event) (n s p : ℕ) (r q : State) (ls : List Decision) → decides_of e ≡ true
      → add_decision (entry_of r c (outcome (event_row e n s p) q)) ls
      ≡ record {
        number = event_code e;
        start = s;
        end = p;
        values = event_values e;
        body = body_held (event_code e) q.body;
      } ∷ ls
  added_event c Quiet n s p r q ls d = absurd (true≢false (sym d))
  added_event c (Decided v) n s p r q ls d = rw (numbered v).is_decided

  ran : (all bs : List ℕ) (n : ℕ) (r : State) → Ran (feed all) r n bs (run_of limit bs n r)
  unfolding run_of after_all decided_all
  ran all [] n r = record { k = 0; counts = omega arith; reader = refl; decisions = λ ls. refl }
  ran all (x ∷ xs) n r =
      let e : Event = (advance_of limit r.scan x).event in
      let q : State = next_of limit r x in
      by_test (Ran (feed all) r n (x ∷ xs)) (decides_of e)
      (λ d. record {
        k = 1;
        counts = count_event e (n + 1) r.scan.start q.scan.consumed;
        reader = refl;
        decisions = λ ls. rw d (added_event (feed all) e (n + 1) r.scan.start q.scan.consumed r q ls d);
      })
      (λ d.
      let w : Ran (feed all) q (n + 1) xs (run_of limit xs (n + 1) q) = ran all xs (n + 1) q in
      record {
        k = suc w.k;
        counts = omega (arith, w.counts);
        reader = w.reader;
        decisions = λ ls. rw d (w.decisions ls);
      })

  -- a call that consumes nothing and decides nothing
  ran_none : (c : Call) (r : State) (bs : List ℕ) (a : Row)
      → consumed_by c a ≡ 0 → ((ls : List Decision) → add_decision (entry_of r c (outcome a r)) ls ≡ ls)
      → Ran c r 0 bs (outcome a r)
  unfolding after_all decided_all
  ran_none c r bs a none s = record { k = 0; counts = omega arith; reader = refl; decisions = s }

  ran_finish : (r : State) (f : Phase) → Ran finish r 0 [] (outcome (finish_row_in f r.scan) r)
  ran_finish r Idle = ran_none finish r [] (finish_row_in Idle r.scan) refl (λ ls. refl)
  ran_finish r Half = ran_none finish r [] (finish_row_in Half r.scan) refl (λ ls. refl)
  ran_finish r Header = ran_none finish r [] (finish_row_in Header r.scan) refl (λ ls. refl)
  ran_finish r Open = ran_none finish r [] (finish_row_in Open r.scan) refl (λ ls. refl)
  ran_finish r Escape = ran_none finish r [] (finish_row_in Escape r.scan) refl (λ ls. refl)

  ran_call : (r : State) (c : Call) → Ran c r 0 (offered c) (call_of limit r c)
  ran_call r (feed bs) =
      by_test (Ran (feed bs) r 0 bs) (in_range_of limit r.scan)
      (λ a. by_test (Ran (feed bs) r 0 bs) (leb (r.scan.consumed + length bs) (2 ^ 62)) (λ b. ran bs bs 0 r)
      (λ b. ran_none (feed bs) r bs _ refl (λ ls. refl)))
      (λ a. ran_none (feed bs) r bs _ refl (λ ls. refl))
  ran_call r finish =
      by_test (Ran finish r 0 []) (in_range_of limit r.scan) (λ a. ran_finish r r.scan.phase)
      (λ a. ran_none finish r [] _ refl (λ ls. refl))

  -- what the calls answer and leave
  pub record Folded (r : State) (cs : List Call) : Type 0 where
    pub decisions : decisions_of (log_of limit r cs) ≡ decided_all limit r (stream (log_of limit r cs))
    pub reader : state_after limit r cs ≡ after_all limit r (stream (log_of limit r cs))

  pub folded : (cs : List Call) (r : State) → Folded r cs
  unfolding log_of state_after stream decisions_of after_all decided_all
  folded [] r = record { decisions = refl; reader = refl }
  folded (c ∷ cs) r =
      let y : Outcome State = call_of limit r c in
      let w : Ran c r 0 (offered c) y = ran_call r c in
      let rest : Folded y.state cs = folded cs y.state in
      let s : List ℕ = stream (log_of limit y.state cs) in
      let count : consumed_by c y.row ≡ w.k = omega (arith, w.counts) in
      record {
        decisions = w.decisions (decisions_of (log_of limit y.state cs))
            ∙ rw (count, decided-append (take w.k (offered c)) s r, ← w.reader, rest.decisions);
        reader = rest.reader ∙ rw (count, after-append (take w.k (offered c)) s r, ← w.reader);
      }

-- ---- bytes of a reader that calls can reach

pub record Kept (limit : ℕ) (r q : State) (xs : List ℕ) : Type 0 where
  pub holds : Inv limit q
  pub place : q.scan.consumed ≡ r.scan.consumed + length xs

pub kept : (limit : ℕ) → limit ≤ 65279 → (xs : List ℕ) (r : State) → Inv limit r
    → Kept limit r (after_all limit r xs) xs
unfolding after_all
kept limit small [] r i = record { holds = i; place = omega arith }
kept limit small (x ∷ xs) r i =
    let m = moves limit small r x i in
    let w = kept limit small xs (next_of limit r x) m.holds in
    record { holds = w.holds; place = omega (arith, w.place, m.one) }
