-- The difference of two readings modulo 2^32, and when a tick is due by it. Assumes nothing.
use Rattle.std.proofs.Common.{◌≡◌, ℕ, ◌+◌, ◌-◌, ◌%◌, ◌^◌, ◌<◌, ◌≤◌, Bool, true, false, ◌&&◌, ltb, leb, refl, ap, arith}
use Rattle.std.proofs.Common.{le-ltb, leb-true}
use Rattle.link.specs.Clock.{elapsed_of}
use Rattle.link.specs.Times.{ElapsedTimes, DueAhead, NeverDueBackward}

pub elapsed_time : ElapsedTimes
elapsed_time clock since c s = record { in_clock = omega arith; leads = omega arith }

-- of a clock that advanced by so much
advanced : (sent by : ℕ) → sent < 2 ^ 32 → by < 2 ^ 32 → elapsed_of ((sent + by) % 2 ^ 32) sent ≡ by
advanced sent by s b = omega arith

pub due_ahead : DueAhead
due_ahead sent by s b = ap (λ time. leb 200 time && ltb time (2 ^ 31)) (advanced sent by s b)

-- a time is not due if it is below 200, or 2^31 or more
not_due : (time : ℕ) → (200 ≤ time → 2 ^ 31 ≤ time) → (leb 200 time && ltb time (2 ^ 31)) ≡ false
not_due time h = go (leb 200 time) refl
  where
    go : (t : Bool) → leb 200 time ≡ t → (t && ltb time (2 ^ 31)) ≡ false
    go true e = le-ltb time (2 ^ 31) (h (leb-true 200 time e))
    go false e = refl

pub never_due_backward : NeverDueBackward
never_due_backward sent by s b = not_due (elapsed_of ((sent + 2 ^ 32 - by) % 2 ^ 32) sent) (λ h. omega arith)
