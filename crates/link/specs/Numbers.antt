-- Claims: the sequence numbers rise to 255 and begin again. PROTOCOL 9.2.
use Rattle.std.specs.Prelude.{◌≡◌, ℕ, ◌+◌, ◌-◌, ◌≤◌}
use Rattle.link.specs.Sending.{number_at}

-- ---- numbers_run: PROTOCOL 9.2, with the first number for 0
pub record NumbersRun (first : ℕ) : Type 0 where
  pub rises : (k : ℕ) → first + k ≤ 255 → number_at first k ≡ first + k
  pub again : (k : ℕ) → number_at first (k + (256 - first)) ≡ number_at first k

-- of every first number
abbrev pub NumbersRunFrom : Type 0
NumbersRunFrom = (first : ℕ) → first ≤ 255 → NumbersRun first
