-- Claims: what the time elapsed means, and when a tick is due, over a wrap and for a clock that is set back.
-- PROTOCOL 9.3, 9.4.
use Rattle.std.specs.Prelude.{◌≡◌, ℕ, ◌+◌, ◌-◌, ◌%◌, ◌^◌, ◌<◌, ◌≤◌, false, ◌&&◌, nat_le, nat_lt}
use Rattle.link.specs.Clock.{elapsed_of, is_due}

-- ---- elapsed_time: of two readings, the time elapsed is the step below 2^32 from the earlier to the later
pub record ElapsedTime (clock since : ℕ) : Type 0 where
  pub in_clock : elapsed_of clock since < 2 ^ 32
  pub leads : (since + elapsed_of clock since) % 2 ^ 32 ≡ clock

-- of all readings
abbrev pub ElapsedTimes : Type 0
ElapsedTimes = (clock since : ℕ) → clock < 2 ^ 32 → since < 2 ^ 32 → ElapsedTime clock since

-- ---- due_ahead: a clock that advanced by less than 2^32 is due exactly from 200 to below 2^31, over a wrap too
abbrev pub DueAhead : Type 0
DueAhead =
    (sent by : ℕ) → sent < 2 ^ 32 → by < 2 ^ 32 → is_due ((sent + by) % 2 ^ 32) sent
    ≡ (nat_le 200 by && nat_lt by (2 ^ 31))

-- ---- never_due_backward: a clock that was set back by up to 2^31 since the last sending is not due: PROTOCOL 9.4
abbrev pub NeverDueBackward : Type 0
NeverDueBackward = (sent by : ℕ) → sent < 2 ^ 32 → by ≤ 2 ^ 31 → is_due ((sent + 2 ^ 32 - by) % 2 ^ 32) sent ≡ false
