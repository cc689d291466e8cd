-- Statement: asking a call how much room it needs, and then writing. PROTOCOL 6.12.
use Rattle.std.specs.Prelude.{ℕ, ◌≤◌, ◌<◌, ◌≡◌, ◌≢◌, List, length, get_or}
use Rattle.base.specs.Rows.{Row}
use Rattle.base.specs.Outcomes.{needed_in}

-- the answer of a call, by the buffer that it is given; all else is the same each time
pub record AsksOnce (answer : List ℕ → Row) : Type 0 where
  -- ROOM says a size above the buffer's
  pub short : (out : List ℕ) → (answer out).number ≡ 22 → length out < needed_in (answer out)
  -- every buffer below that size gets the same answer
  pub same : (out other : List ℕ) → (answer out).number ≡ 22 → length other < needed_in (answer out)
      → answer other ≡ answer out
  -- no other meets ROOM: it gets the answer of a write of that size
  pub written : (out other : List ℕ) → (answer out).number ≡ 22 → needed_in (answer out) ≤ length other
      → ((answer other).number ≢ 22) × (get_or (answer other).values 0 0 ≡ needed_in (answer out))
