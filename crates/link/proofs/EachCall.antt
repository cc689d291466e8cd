-- Each call of a link in range, case by case. Assumes nothing.
use Rattle.std.proofs.Common.{◌≡◌, ℕ, ◌+◌, ◌≤◌, true, refl, arith, le-ltb, lt-ltb, eq-eqb}
use Rattle.base.specs.Keys.{among}
use Rattle.link.specs.Sending.{max_repeats}
use Rattle.link.specs.Ranges.{waiters}
use Rattle.link.specs.EachCall.{IdleExact, WaitingExact, CallsExact}
use Rattle.link.proofs.Ranges.{idle_ranged, waiting_ranged}

-- past the test for STATE, each call is what its own tests say
idle_exact : (next : ℕ) → IdleExact next
idle_exact next =
    let ranged = idle_ranged next in
    record {
      accepts = λ command clock w. simp (ranged, w);
      unsent = λ command clock w. simp (ranged, w);
      nothing = λ clock. simp ranged;
      stray = λ command number. simp ranged;
    }

waiting_exact : (next command number sent repeats : ℕ)
    → repeats ≤ 2 → among command waiters ≡ true → WaitingExact next command number sent repeats
waiting_exact next command number sent repeats m w =
    let ranged = waiting_ranged next command number sent repeats m w in
    record {
      busy = λ other clock o. simp (ranged, o);
      unsent = λ other clock o. simp (ranged, o);
      not_due = λ clock d. simp (ranged, d);
      again = λ clock d l. simp (ranged, d, lt-ltb repeats max_repeats (omega (arith, l)));
      given_up = λ clock d e. simp (ranged, d, le-ltb repeats max_repeats (omega (arith, e)));
      replied = simp (ranged, eq-eqb (command + 1) (command + 1) refl, eq-eqb number number refl);
      stray = λ other under n. simp (ranged, n);
    }

pub calls_exact : CallsExact
calls_exact = record { idle = idle_exact; waiting = waiting_exact }
