-- Statement: the clock, the time elapsed, and when a tick is due. PROTOCOL 9.3, 9.4.
use Rattle.std.specs.Prelude.{ℕ, ◌+◌, ◌-◌, ◌%◌, ◌^◌, Bool, ◌&&◌, nat_le, nat_lt}

-- the time elapsed at a reading of the clock, since an earlier one: PROTOCOL 9.3
abbrev pub elapsed_of : ℕ → ℕ → ℕ
elapsed_of clock since = (clock + 2 ^ 32 - since) % 2 ^ 32

-- whether a tick is due, after the last sending; due is a term of ours: PROTOCOL 9.4
abbrev pub is_due : ℕ → ℕ → Bool
is_due clock sent = nat_le 200 (elapsed_of clock sent) && nat_lt (elapsed_of clock sent) (2 ^ 31)
