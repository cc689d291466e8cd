-- Claims: each call of a link in range, case by case, in literal numbers. PROTOCOL 9.2 to 9.12.
use Rattle.std.specs.Prelude.{◌≡◌, ℕ, ◌+◌, ◌<◌, ◌≤◌, true, false, cond, ◌&&◌, None, [], ◌∷◌, ◌==◌}
use Rattle.base.specs.Rows.{row}
use Rattle.base.specs.Outcomes.{outcome}
use Rattle.base.specs.Keys.{among}
use Rattle.link.specs.Sending.{waits_for}
use Rattle.link.specs.Calls.{link_of}
use Rattle.link.specs.Clock.{is_due}
use Rattle.link.specs.Logs.{offering, ticking, receiving}
use Rattle.link.specs.Ranges.{answer_to, waiters}

-- ---- calls_exact: what every link in range answers, and what it becomes, call by call: PROTOCOL 9.2 to 9.12

-- the number that follows another
abbrev pub number_after : ℕ → ℕ
number_after n = cond (n == 255) 0 (n + 1)

-- nothing waits
pub record IdleExact (next : ℕ) : Type 0 where
  pub accepts : (command clock : ℕ) → among command waiters ≡ true
      → answer_to (link_of next None) (offering command clock)
      ≡ outcome (row 0 (next ∷ [])) (link_of (number_after next) (waits_for command next clock 0))
  pub unsent : (command clock : ℕ) → among command waiters ≡ false
      → answer_to (link_of next None) (offering command clock) ≡ outcome (row 42 []) (link_of next None)
  pub nothing : (clock : ℕ) → answer_to (link_of next None) (ticking clock) ≡ outcome (row 0 []) (link_of next None)
  pub stray : (command number : ℕ)
      → answer_to (link_of next None) (receiving command number) ≡ outcome (row 43 []) (link_of next None)

-- a command waits, last sent at a clock, with so many repeats
pub record WaitingExact (next command number sent repeats : ℕ) : Type 0 where
  pub busy : (other clock : ℕ) → among other waiters ≡ true
      → answer_to (link_of next (waits_for command number sent repeats)) (offering other clock)
      ≡ outcome (row 41 []) (link_of next (waits_for command number sent repeats))
  pub unsent : (other clock : ℕ) → among other waiters ≡ false
      → answer_to (link_of next (waits_for command number sent repeats)) (offering other clock)
      ≡ outcome (row 42 []) (link_of next (waits_for command number sent repeats))
  pub not_due : (clock : ℕ) → is_due clock sent ≡ false
      → answer_to (link_of next (waits_for command number sent repeats)) (ticking clock)
      ≡ outcome (row 0 []) (link_of next (waits_for command number sent repeats))
  pub again : (clock : ℕ) → is_due clock sent ≡ true → repeats < 2
      → answer_to (link_of next (waits_for command number sent repeats)) (ticking clock)
      ≡ outcome (row 0 (1 ∷ command ∷ number ∷ [])) (link_of next (waits_for command number clock (repeats + 1)))
  pub given_up : (clock : ℕ) → is_due clock sent ≡ true → repeats ≡ 2
      → answer_to (link_of next (waits_for command number sent repeats)) (ticking clock)
      ≡ outcome (row 0 (2 ∷ command ∷ number ∷ [])) (link_of next None)
  pub replied : answer_to (link_of next (waits_for command number sent repeats)) (receiving (command + 1) number)
      ≡ outcome (row 0 (command ∷ number ∷ [])) (link_of next None)
  pub stray : (other under : ℕ) → (other == command + 1 && under == number) ≡ false
      → answer_to (link_of next (waits_for command number sent repeats)) (receiving other under)
      ≡ outcome (row 43 []) (link_of next (waits_for command number sent repeats))

-- of every link in range; both sequence numbers are free
pub record CallsExact : Type 0 where
  pub idle : (next : ℕ) → IdleExact next
  pub waiting : (next command number sent repeats : ℕ)
      → repeats ≤ 2 → among command waiters ≡ true → WaitingExact next command number sent repeats
