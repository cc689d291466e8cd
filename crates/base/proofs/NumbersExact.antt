-- worked_numbers, numbers_spelled and read_back. Assumes nothing.
use Prim.Native.Nat.{◌/◌, ◌%◌}
use mathlib.Core.Path.{◌≡◌, refl}
use native.Mathlib.Nat.{add_assoc}
use native.Mathlib.Omega.{arith}
use lib.Seq.{get_or-append-add, get_or-append_seam}
use Rattle.base.specs.Sums.{total}
use Rattle.base.specs.NumbersExact.{WorkedNumbers, AllSpelled, ReadBackBetween}
use Rattle.base.proofs.Numbers.{two_after}

pub worked_numbers : WorkedNumbers
unfolding total
worked_numbers =
    record { two_read = refl; two_at_end = refl; two_written = refl; four_read = refl; four_written = refl; sum = refl }

pub numbers_spelled : AllSpelled
unfolding total
numbers_spelled a b c d n r =
    record {
      two_at_is = refl;
      two_none = refl;
      four_at_is = omega arith;
      two_of = refl;
      four_of =
          let first : n / 65536 / 256 ≡ n / 16777216 = omega arith in
          let third : n % 65536 / 256 ≡ n / 256 % 256 = omega arith in
          let last : n % 65536 % 256 ≡ n % 256 = omega arith in
          rw (first, third, last);
      total_none = refl;
      total_of = refl;
      sum_of = refl;
    }

pub read_back : ReadBackBetween
read_back f r =
    record {
      two_back = λ n. two_after f refl n r;
      four_back = λ n. simp (get_or-append-add, get_or-append_seam, add_assoc) (omega arith);
      two_fits = λ n h. (omega arith, omega arith);
      four_fits = λ n h. (omega arith, omega arith, omega arith, omega arith);
    }
