-- Statement: what holds of every list of calls of a link that began fresh. PROTOCOL 9.1 to 9.13, 9.15.
-- The record `History` is the statement to be judged; link_history, in `Histories`, is its claim.
use Rattle.std.specs.Prelude.{◌≡◌, ℕ, ◌+◌, ◌<◌, ◌≤◌, true, false, cond, ◌&&◌, ◌||◌, ◌≢◌, None, List, [], ◌∷◌, ◌++◌}
use Rattle.std.specs.Prelude.{length, ◌==◌, nat_lt}
use Rattle.base.specs.Rows.{Row}
use Rattle.link.specs.Sending.{waits_for, may_wait, number_at}
use Rattle.link.specs.Clock.{is_due}
use Rattle.link.specs.Table.{busy_row, unsent_row, stray_row, accepted_row, nothing_row, again_row, given_up_row}
use Rattle.link.specs.Table.{replied_row}
use Rattle.link.specs.Logs.{Call, offering, ticking, receiving, Entry, command_in, clock_in, accepted, repeated}
use Rattle.link.specs.Logs.{ended, number_in, numbers_used, numbers_from, waits_after, none_ends, repeats_in, last_sent}
use Rattle.link.specs.Logs.{due_ticks}

-- ---- what each entry must answer

-- while nothing waits, with k numbers used: PROTOCOL 9.2, 9.8, 9.11, 9.12
abbrev pub idle_row : ℕ → ℕ → Call → Row
idle_row first k (offering command clock) = cond (may_wait command) (accepted_row (number_at first k)) unsent_row
idle_row first k (ticking clock) = nothing_row
idle_row first k (receiving command number) = stray_row

-- while a command waits, under a number, last sent at a clock, with so many repeats: PROTOCOL 9.4, 9.6 to 9.12
abbrev pub waiting_row : ℕ → ℕ → ℕ → ℕ → ℕ → Call → Row
waiting_row max waiting under sent repeats (offering command clock) = cond (may_wait command) busy_row unsent_row
waiting_row max waiting under sent repeats (ticking clock) =
    cond (is_due clock sent) (cond (nat_lt repeats max) (again_row waiting under) (given_up_row waiting under))
    nothing_row
waiting_row max waiting under sent repeats (receiving command number) =
    cond (command == waiting + 1 && number == under) (replied_row waiting under) stray_row

-- ---- what is counted

-- of an accepted offer and entries after it, none of which ends its wait
pub record Waits (max : ℕ) (a : Entry) (during : List Entry) : Type 0 where
  pub few : repeats_in during ≤ max  -- PROTOCOL 9.6
  -- as many repeats as due ticks; that each is at a due tick is in `waiting`
  pub each : due_ticks (clock_in a.call) during ≡ repeats_in during
  pub alone : numbers_used during ≡ []  -- PROTOCOL 9.1

-- a command that waits after a log: the offer that was accepted, and the entries after it, none of which ends its wait
pub record OpenWait (log : List Entry) : Type 0 where
  pub before : List Entry
  pub offer : Entry
  pub during : List Entry
  pub whole : log ≡ before ++ (offer ∷ during)
  pub accepts : accepted offer ≡ true
  pub continues : none_ends during ≡ true

-- ---- what holds of a log: `before ++ (e ∷ after)` is each entry of it, with those before and after it
pub record History (first max : ℕ) (log : List Entry) : Type 0 where
  -- the numbers used, in order: PROTOCOL 9.2
  pub numbers : numbers_used log ≡ numbers_from first 0 (length (numbers_used log))
  -- the answers while nothing waits
  pub idle : (before : List Entry) (e : Entry) (after : List Entry) → log ≡ before ++ (e ∷ after)
      → waits_after false before ≡ false → e.row ≡ idle_row first (length (numbers_used before)) e.call
  -- the answers after an accepted offer a, until its wait ends
  pub waiting : (before : List Entry) (a : Entry) (during : List Entry) (e : Entry) (after : List Entry)
      → log ≡ before ++ (a ∷ (during ++ (e ∷ after)))
      → accepted a ≡ true → none_ends during ≡ true
      → e.row
      ≡ waiting_row max (command_in a.call) (number_in a) (last_sent (clock_in a.call) during) (repeats_in during)
      e.call
  -- what is counted during that wait
  pub waits : (before : List Entry) (a : Entry) (during after : List Entry) → log ≡ before ++ (a ∷ (during ++ after))
      → accepted a ≡ true → none_ends during ≡ true → Waits max a during
  -- the due tick after the last repeat ends it, which follows from `waits`: PROTOCOL 9.7
  pub ends : (before : List Entry) (a : Entry) (during after : List Entry) → log ≡ before ++ (a ∷ (during ++ after))
      → accepted a ≡ true → max < due_ticks (clock_in a.call) during → none_ends during ≡ false
  -- an accepted command waits, sent at the clock of its offer and not yet repeated: PROTOCOL 9.5
  pub begun : (before : List Entry) (e : Entry) (after : List Entry) → log ≡ before ++ (e ∷ after)
      → accepted e ≡ true → e.after.waiting ≡ waits_for (command_in e.call) (number_in e) (clock_in e.call) 0
  -- a repeat counts one more, and is sent at the tick's clock: PROTOCOL 9.5, 9.6
  pub resent : (before : List Entry) (a : Entry) (during : List Entry) (e : Entry) (after : List Entry)
      → log ≡ before ++ (a ∷ (during ++ (e ∷ after)))
      → accepted a ≡ true → none_ends during ≡ true → repeated e ≡ true
      → e.after.waiting ≡ waits_for (command_in a.call) (number_in a) (clock_in e.call) (repeats_in during + 1)
  -- where a wait ends, nothing waits: PROTOCOL 9.7, 9.9
  pub freed : (before : List Entry) (e : Entry) (after : List Entry)
      → log ≡ before ++ (e ∷ after) → ended e ≡ true → e.after.waiting ≡ None
  -- every other call leaves the link as it was: PROTOCOL 9.8, 9.10 to 9.12
  pub unchanged : (before : List Entry) (e : Entry) (after : List Entry) → log ≡ before ++ (e ∷ after)
      → (accepted e || (repeated e || ended e)) ≡ false → e.after ≡ e.before
  -- PROTOCOL 9.15
  pub never_state : (before : List Entry) (e : Entry) (after : List Entry)
      → log ≡ before ++ (e ∷ after) → e.row.number ≢ 17
