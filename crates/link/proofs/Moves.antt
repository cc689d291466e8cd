-- What one call of a link in range answers and leaves. Assumes nothing.
use Rattle.std.proofs.Common.{◌≡◌, ℕ, ◌+◌, ◌≤◌, true, false, cond, ◌||◌, eqb, ltb, ◌≢◌, None, Some, get_or, sym, refl}
use Rattle.std.proofs.Common.{◌∙◌, true≢false, arith, ltb-true, eqb-true, le-leb}
use Rattle.base.specs.Rows.{Row}
use Rattle.base.specs.Outcomes.{Outcome, outcome}
use Rattle.base.proofs.Tests.{by_test, both}
use Rattle.link.specs.Sending.{Wait, waits_for, may_wait, number_at, fits_of}
use Rattle.link.specs.Clock.{is_due}
use Rattle.link.specs.Calls.{link_of, in_range, due_tick_of}
use Rattle.link.specs.Logs.{Call, offering, ticking, receiving, Entry, accepted_in, repeated_in, ended_in}
use Rattle.link.specs.LogsComputed.{call_of}
use Rattle.link.specs.Logs.{command_in, clock_in, due_in, accepted, repeated, ended, number_in}
use Rattle.link.specs.History.{idle_row, waiting_row}
use Rattle.link.specs.declared.state.Link.{Link}
use Rattle.link.proofs.Numbers.{number_next}

-- the entry of a call
abbrev pub entry_of : ℕ → ℕ → Link → Call → Entry
entry_of first max l c =
    record { call = c; row = (call_of first max l c).row; before = l; after = (call_of first max l c).state }

-- ---- what an entry's call and answer leave

-- what waits after an entry that neither accepts nor ends
abbrev pub continues_wait : Entry → Wait → Wait
continues_wait e None = None
continues_wait e (Some w) =
    waits_for w.command w.number (cond (repeated e) (clock_in e.call) w.sent)
    (cond (repeated e) (w.repeats + 1) w.repeats)

-- what waits after any entry
abbrev pub wait_after : Entry → Wait → Wait
wait_after e w =
    cond (accepted e) (waits_for (command_in e.call) (number_in e) (clock_in e.call) 0)
    (cond (ended e) None (continues_wait e w))

-- how many numbers are used after it
abbrev pub count_after : Entry → ℕ → ℕ
count_after e k = cond (accepted e) (k + 1) k

-- what repeats neither accepts nor ends
pub only_repeated : (c : Call) (r : Row) → repeated_in c r ≡ true → (accepted_in c r ≡ false) × (ended_in c r ≡ false)
only_repeated (offering command clock) r e = absurd (true≢false (sym e))
only_repeated (ticking clock) r e =
    let h = both (eqb r.number 0) e in (refl, simp (h.0, eqb-true (get_or r.values 0 0) 1 h.1))
only_repeated (receiving command number) r e = absurd (true≢false (sym e))

-- what ends a wait accepts nothing
pub not_accepted : (c : Call) (r : Row) → ended_in c r ≡ true → accepted_in c r ≡ false
not_accepted (offering command clock) r e = absurd (true≢false (sym e))
not_accepted (ticking clock) r e = refl
not_accepted (receiving command number) r e = refl

-- ---- an entry of a link that used k numbers, and of what waits in it

-- what it answers
abbrev pub row_in : ℕ → ℕ → ℕ → Wait → Call → Row
row_in first max k None c = idle_row first k c
row_in first max k (Some w) c = waiting_row max w.command w.number w.sent w.repeats c

-- an idle link uses the k-th number;
-- while a command waits none is used, and a due tick repeats or ends the wait
abbrev pub Shown : ℕ → ℕ → Entry → Wait → Type 0
Shown first k e None = accepted e ≡ true → number_in e ≡ number_at first k
Shown first k e (Some w) = (accepted e ≡ false) × (ended e ≡ false → due_in e.call w.sent ≡ repeated e)

-- the ranges of what waits
abbrev pub Ranges : ℕ → ℕ → Wait → Type 0
Ranges first max None = Unit
Ranges first max (Some w) = (first ≤ w.number) × (w.repeats ≤ max) × (may_wait w.command ≡ true)

-- what holds of each entry
pub record Moved (first max k : ℕ) (w : Wait) (e : Entry) : Type 0 where
  pub row : e.row ≡ row_in first max k w e.call
  pub shown : Shown first k e w
  pub after : e.after ≡ link_of (number_at first (count_after e k)) (wait_after e w)
  pub holds : Ranges first max (wait_after e w)
  pub unchanged : (accepted e || (repeated e || ended e)) ≡ false → e.after ≡ e.before
  pub never : e.row.number ≢ 17

-- ---- the calls

-- no due tick
abbrev Undue : Call → Wait → Type 0
Undue c None = Unit
Undue c (Some w) = due_in c w.sent ≡ false

module _ (first max k : ℕ) (small : first ≤ 255) where
  -- the link that used k numbers, with what waits
  abbrev standing : Wait → Link
  standing w = link_of (number_at first k) w

  -- of its call and the outcome
  abbrev Moves : Wait → Call → Outcome Link → Type 0
  Moves w c y = Moved first max k w (record { call = c; row = y.row; before = standing w; after = y.state })

  -- it passes the test for STATE
  is_in_range : (w : Wait) → Ranges first max w → in_range first max (standing w) ≡ true
  is_in_range None h = search (le-leb first (number_at first k) (omega arith))
  is_in_range (Some w) h =
      simp (le-leb first (number_at first k) (omega arith), le-leb first w.number h.0, le-leb w.repeats max h.1, h.2)

  -- a refused call, or a tick with nothing to do
  quiet : (w : Wait) {c : Call} {r : Row} → Ranges first max w → r ≡ row_in first max k w c → r.number ≢ 17
      → accepted_in c r ≡ false → ended_in c r ≡ false → repeated_in c r ≡ false → Undue c w
      → Moves w c (outcome r (standing w))
  quiet None h e n a d p u =
      record {
        row = e;
        shown = λ q. absurd (true≢false (sym q ∙ a));
        after = simp (a, d);
        holds = simp (a, d) tt;
        unchanged = λ _. refl;
        never = n;
      }
  quiet (Some w) h e n a d p u =
      record {
        row = e;
        shown = (a, λ _. u ∙ sym p);
        after = simp (a, d, p);
        holds = simp (a, d, p) h;
        unchanged = λ _. refl;
        never = n;
      }

  -- the end of a wait
  ends : {waiting under sent repeats : ℕ} {c : Call} {r : Row}
      → r ≡ waiting_row max waiting under sent repeats c → r.number ≢ 17
      → accepted_in c r ≡ false → ended_in c r ≡ true → repeated_in c r ≡ false
      → Moves (waits_for waiting under sent repeats) c (outcome r (standing None))
  ends e n a d p =
      record {
        row = e;
        shown = (a, λ q. absurd (true≢false (sym d ∙ q)));
        after = simp (a, d);
        holds = simp (a, d) tt;
        unchanged = λ q. absurd (true≢false (simp (a, d, p) at q));
        never = n;
      }

  -- a due tick repeats or gives up
  due : (waiting under sent repeats clock : ℕ)
      → Ranges first max (waits_for waiting under sent repeats) → is_due clock sent ≡ true
      → Moves (waits_for waiting under sent repeats) (ticking clock)
      (due_tick_of max (standing (waits_for waiting under sent repeats)) waiting under repeats clock)
  due waiting under sent repeats clock h d =
      by_test (Moves (waits_for waiting under sent repeats) (ticking clock)) (ltb repeats max)
      (λ s. record {
        row = rw (d, s);
        shown = (refl, λ _. d);
        after = refl;
        holds = (h.0, omega (arith, ltb-true), h.2);
        unchanged = λ q. absurd (true≢false q);
        never = omega arith;
      })
      (λ s. ends (rw (d, s)) (omega arith) refl refl refl)

  -- each call, the test passed
  moved_in : (w : Wait) (c : Call)
      → Ranges first max w → in_range first max (standing w) ≡ true → Moves w c (call_of first max (standing w) c)
  moved_in None (offering command clock) h i =
      rw i (by_test (Moves None (offering command clock)) (may_wait command)
      (λ s. record {
        row = rw s;
        shown = λ _. refl;
        after = rw (number_next first k small);
        holds = (omega arith, omega arith, s);
        unchanged = λ q. absurd (true≢false q);
        never = omega arith;
      })
      (λ s. quiet None h (rw s) (omega arith) refl refl refl tt))
  moved_in None (ticking clock) h i = rw i (quiet None h refl (omega arith) refl refl refl tt)
  moved_in None (receiving command number) h i = rw i (quiet None h refl (omega arith) refl refl refl tt)
  moved_in (Some w) (offering command clock) h i =
      rw i (by_test (Moves (Some w) (offering command clock)) (may_wait command)
      (λ s. quiet (Some w) h (rw s) (omega arith) refl refl refl refl)
      (λ s. quiet (Some w) h (rw s) (omega arith) refl refl refl refl))
  moved_in (Some w) (ticking clock) h i =
      rw i (by_test (Moves (Some w) (ticking clock)) (is_due clock w.sent)
      (λ d. due w.command w.number w.sent w.repeats clock h d)
      (λ d. quiet (Some w) h (rw d) (omega arith) refl refl refl d))
  moved_in (Some w) (receiving command number) h i =
      rw i (by_test (Moves (Some w) (receiving command number)) (fits_of command number w.command w.number)
      (λ s. ends (rw s) (omega arith) refl refl refl)
      (λ s. quiet (Some w) h (rw s) (omega arith) refl refl refl refl))

  -- each call, of a link that stands so
  pub moved : (w : Wait) (c : Call) {l : Link}
      → l ≡ standing w → Ranges first max w → Moved first max k w (entry_of first max l c)
  moved w c e h = rw e (moved_in w c h (is_in_range w h))
