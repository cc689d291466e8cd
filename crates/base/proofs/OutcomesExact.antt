-- counts_read, placed_whole_or_not, placed_asked and rowed_exact. Assumes nothing.
use Prim.Native.Nat.{ℕ, ◌+◌, ◌-◌, ◌≤◌}
use mathlib.Core.Path.{◌≡◌, refl, ◌∙◌}
use mathlib.Core.List.{List}
use native.Mathlib.Omega.{arith}
use borrow.Author.Tests.{ne_eqb, ltb-true, ltb-false}
use lib.ListN.{length, get_or, drop, length-append, length-drop}
use lib.Seq.{get_or-append-add, get_or-drop, take-append_seam}
use lib.Dec.{eqb, ltb}
use Rattle.base.specs.Outcomes.{onto}
use Rattle.base.specs.OutcomesExact.{CountsReadAlways, PlacedAlways, PlacedAsked, RowedAlways}
use Rattle.base.proofs.Tests.{either_way, cond_same}
use Rattle.base.proofs.Asking.{asks_placed}

pub counts_read : CountsReadAlways
counts_read k n v =
    record {
      written = refl;
      needed = refl;
      not_written = λ h. rw (ne_eqb k 0 h);
      not_needed = λ h. rw (ne_eqb k 22 h);
      no_values = (cond_same (eqb k 0) 0, cond_same (eqb k 22) 0);
    }

-- bytes at the front of a buffer that has room for them
module _ (w out : List ℕ) where
  after : (i : ℕ) → length w ≤ i → get_or (onto w out) i 0 ≡ get_or out i 0
  after i h =
      let e : i ≡ length w + (i - length w) = omega arith in
      rw e (get_or-append-add w (drop (length w) out) (i - length w) 0 ∙ get_or-drop (length w) out (i - length w) 0)

  as_long : length w ≤ length out → length (onto w out) ≡ length out
  as_long h = simp (length-append, length-drop) (omega arith)

pub placed_whole_or_not : PlacedAlways
placed_whole_or_not w out =
    either_way (ltb (length out) (length w))
    (λ s. record {
      room_row = λ h. rw s;
      room_out = λ h. rw s;
      fits_row = λ h. absurd (omega (arith, ltb-true));
      front = λ h. absurd (omega (arith, ltb-true));
      stays = λ i h. rw s;
      same_length = rw s;
      room_counts = λ h. (rw s, rw s);
      fits_counts = λ h. absurd (omega (arith, ltb-true));
    })
    (λ s. record {
      room_row = λ h. absurd (omega (arith, ltb-false));
      room_out = λ h. absurd (omega (arith, ltb-false));
      fits_row = λ h. rw s;
      front = λ h. rw s (take-append_seam w (drop (length w) out));
      stays = λ i h. rw s (after w out i h);
      same_length = rw s (as_long w out (omega (arith, ltb-false)));
      room_counts = λ h. absurd (omega (arith, ltb-false));
      fits_counts = λ h. (rw s, rw s);
    })

pub placed_asked : PlacedAsked
placed_asked w = asks_placed w

pub rowed_exact : RowedAlways
rowed_exact f values out = record { wrote = λ n. refl; refused = λ w h. rw (ne_eqb w.row.number 0 h) }
