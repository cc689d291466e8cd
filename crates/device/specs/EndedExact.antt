-- Claims: which wait a frame ends, and the link after each answer of the reader, in literal numbers. PROTOCOL 16.2 to
-- 16.5.
use Rattle.std.specs.Prelude.{None}
use Rattle.std.specs.Prelude.{ℕ, ◌+◌, ◌≤◌, ◌≡◌, ◌≢◌, true, List, [], ◌∷◌}
use Rattle.base.specs.Rows.{Row, row}
use Rattle.base.specs.Keys.{among}
use Rattle.frame.specs.Wire.{command_of, number_of}
use Rattle.link.specs.Calls.{link_of}
use Rattle.link.specs.EachCall.{number_after}
use Rattle.link.specs.Ranges.{waiters}
use Rattle.link.specs.declared.state.Link.{Link}
use Rattle.link.specs.Sending.{waits_for}
use Rattle.transfer.specs.Checks.{in_range_of}
use Rattle.device.specs.Handling.{After}
use Rattle.device.specs.HandlingExact.{Given, leaves_with}

-- ---- ended_exact: of every link and transfer in range

-- a wait ended, or none
pub record Ends (ended : Row) (l : Link) (y : After) : Type 0 where
  pub ended_is : y.ended ≡ ended
  pub link_is : y.link ≡ l

-- nothing waits: nothing ends, and an accepted 19, and only that, makes the 1B wait
pub record IdleExact (g : Given) (next : ℕ) : Type 0 where
  pub accepted :
      (v body : List ℕ) → command_of body ≡ 0x19 → (leaves_with g (link_of next None) (row 1 v) body).row.number ≡ 0
      → Ends (row 0 []) (link_of (number_after next) (waits_for 0x1B next g.clock 0))
      (leaves_with g (link_of next None) (row 1 v) body)
  pub stays :
      (answer : Row) (body : List ℕ)
      → (answer.number ≡ 1 → command_of body ≡ 0x19 → (leaves_with g (link_of next None) answer body).row.number ≢ 0)
      → Ends (row 0 []) (link_of next None) (leaves_with g (link_of next None) answer body)

-- a command waits: a frame with that command plus 1 and its number ends the wait, whatever the payload is, and nothing
-- waits after it; after every other answer it waits on, after a 19 too
pub record WaitingExact (g : Given) (next command number sent repeats : ℕ) : Type 0 where
  pub fits :
      (v body : List ℕ) → command_of body ≡ command + 1 → number_of body ≡ number
      → Ends (row 0 (command ∷ number ∷ [])) (link_of next None)
      (leaves_with g (link_of next (waits_for command number sent repeats)) (row 1 v) body)
  pub stays :
      (answer : Row) (body : List ℕ)
      → (answer.number ≡ 1 → command_of body ≡ command + 1 → number_of body ≢ number)
      → Ends (row 0 []) (link_of next (waits_for command number sent repeats))
      (leaves_with g (link_of next (waits_for command number sent repeats)) answer body)

-- of every such link
pub record EachEnded (g : Given) : Type 0 where
  pub idle : (next : ℕ) → IdleExact g next
  pub waiting : (next command number sent repeats : ℕ)
      → repeats ≤ 2 → among command waiters ≡ true → WaitingExact g next command number sent repeats

-- and of every transfer in range
abbrev pub EndedExact : Type 0
EndedExact = (g : Given) → in_range_of g.transfer ≡ true → EachEnded g
