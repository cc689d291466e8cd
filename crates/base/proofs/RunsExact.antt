-- What a call of a loop leaves in the caller's buffer. Assumes nothing.
use mathlib.Core.Path.{refl}
use native.Mathlib.Omega.{arith}
use borrow.Author.Tests.{le-ltb}
use lib.ListN.{length, drop, length-append}
use Rattle.base.specs.RunsExact.{LeftWholeAlways}
use Rattle.base.proofs.OutcomesExact.{placed_whole_or_not}

-- the buffer is as with one text that is placed
pub left_whole : LeftWholeAlways
left_whole S run out =
    let whole = placed_whole_or_not run.text out in
    record {
      counted = refl;
      fits = λ h. let sum = length-append run.text (drop (length run.text) out) in omega (arith, h, sum);
      front = λ h. rw (le-ltb (length out) (length run.text) h) at (whole.front h);
      stays = λ h i g. rw (le-ltb (length out) (length run.text) h) at (whole.stays i g);
      same_length = λ h. rw (le-ltb (length out) (length run.text) h) at whole.same_length;
      state = refl;
      used = refl;
      stop = refl;
    }
