-- The ranges of a link, in literal numbers and for any first number. Assumes nothing.
use Rattle.std.proofs.Common.{◌≡◌, ℕ, ◌≤◌, Bool, true, false, ◌&&◌, leb, None, sym, refl, ◌∙◌, true≢false}
use Rattle.std.proofs.Common.{arith, le-leb}
use borrow.Author.Tests.{lt-leb}
use Rattle.base.specs.Keys.{among}
use Rattle.link.specs.Sending.{waits_for, first_number, max_repeats}
use Rattle.link.specs.Calls.{link_of, in_range}
use Rattle.link.specs.Logs.{Call, offering, ticking, receiving}
use Rattle.link.specs.LogsComputed.{call_of}
use Rattle.link.specs.Ranges.{IsState, InRange, waiters, LinkRange, LinkRanges, LinkWhole, BelowEachFirst}
use Rattle.link.specs.declared.state.Link.{Link}
use Rattle.link.proofs.Numbers.{none_below}
use Rattle.link.proofs.Refusals.{refused_unchanged}

-- of two tests, the second fails
later : (a : Bool) {b : Bool} → b ≡ false → (a && b) ≡ false
later true e = e
later false e = refl

-- where the definition says so, every call is STATE
out : (first max : ℕ) (c : Call) (l : Link) → in_range first max l ≡ false → IsState (call_of first max l c) l
out first max (offering command clock) l e = rw e
out first max (ticking clock) l e = rw e
out first max (receiving command number) l e = rw e

pub link_whole : LinkWhole
link_whole l = refl

-- with the code's own figures every idle link is in range
pub idle_ranged : (next : ℕ) → in_range first_number max_repeats (link_of next None) ≡ true
idle_ranged next = search none_below

-- and so is every wait of one of the nine, with at most two repeats
pub waiting_ranged : (next command number sent repeats : ℕ) → repeats ≤ 2 → among command waiters ≡ true
    → in_range first_number max_repeats (link_of next (waits_for command number sent repeats)) ≡ true
waiting_ranged next command number sent repeats m w =
    simp (none_below, le-leb repeats max_repeats (omega (arith, m))) w

pub below_first : BelowEachFirst
below_first first max c =
    record {
      next_out = λ next wait h. out first max c (link_of next wait) (rw (lt-leb first next h));
      number_out = λ next command number sent repeats h.
          out first max c (link_of next (waits_for command number sent repeats))
          (later (leb first next) (rw (lt-leb first number h)));
    }

module _ (c : Call) where
  within : (l : Link) → in_range first_number max_repeats l ≡ true → InRange l c
  within l e n = absurd (true≢false (sym e ∙ (refused_unchanged first_number max_repeats l c).state_out n))

  ranges : LinkRange c
  ranges =
      record {
        repeats_out = λ next command number sent repeats h.
            out first_number max_repeats c (link_of next (waits_for command number sent repeats))
            (simp (none_below, lt-leb repeats max_repeats (omega (arith, h))));
        command_out = λ next command number sent repeats h.
            out first_number max_repeats c (link_of next (waits_for command number sent repeats))
            (simp none_below (later (leb repeats max_repeats) h));
        idle_in = λ next. within (link_of next None) (idle_ranged next);
        waiting_in = λ next command number sent repeats m w.
            within (link_of next (waits_for command number sent repeats))
            (waiting_ranged next command number sent repeats m w);
      }

pub link_ranges : LinkRanges
link_ranges = record { each = ranges; fresh = refl }
