-- format_spelled, record_exactly, numbers and directions_of_numbers. Assumes nothing.
use Prim.Native.Nat.{ℕ, zero, suc, ◌/◌, ◌%◌, ◌≤◌}
use mathlib.Core.Path.{◌≡◌, refl, sym, ap, ◌∙◌}
use native.Mathlib.Omega.{arith}
use Rattle.std.specs.Prelude.{Result, Ok, Err}
use Rattle.capture.specs.FormatSpelled.{AllFormatSpelled, RecordsExactly, Numbers, DirectionsOfNumbers}
use Rattle.capture.specs.Table.{direction_number, IsDirection}
use Rattle.capture.specs.declared.record.Direction.{Direction}
use Rattle.capture.specs.declared.record.Direction.TheVariants as direction
use Rattle.capture.specs.declared.record.UnknownDirection.{UnknownDirection}

pub format_spelled : AllFormatSpelled
format_spelled d t u v w a b p =
    record {
      head_bytes = refl;
      direction_at = refl;
      milliseconds_at = omega arith;
      payload_size_at = refl;
      payload_at = refl;
      size_is = refl;
      written =
          let first : t / 65536 / 256 ≡ t / 16777216 = omega arith in
          let third : t % 65536 / 256 ≡ t / 256 % 256 = omega arith in
          let last : t % 65536 % 256 ≡ t % 256 = omega arith in
          rw (first, third, last);
    }

pub record_exactly : RecordsExactly
record_exactly d t u v w a b p =
    record {
      is = λ low size. record { direction = low; size = omega arith };
      only_direction = λ r. r.direction;
      only_size = λ r. omega (arith, r.size);
      not_shorter = λ r short is. omega (arith, is.size);
    }

pub numbers : Numbers
numbers =
    record { from_module_is = refl; from_box_is = refl; mark = refl; version = refl; direction = refl; ended = refl }

-- a direction by its number
abbrev direction_from : ℕ → Direction
direction_from zero = direction.FromModule
direction_from (suc n) = direction.FromBox

direction_back : (d : Direction) → direction_from (direction_number d) ≡ d
direction_back direction.FromModule = refl
direction_back direction.FromBox = refl

direction_low : (d : Direction) → direction_number d ≤ 1
direction_low direction.FromModule = omega arith
direction_low direction.FromBox = omega arith

one_direction : (n : ℕ) (r s : Result Direction UnknownDirection) → IsDirection n r → IsDirection n s → r ≡ s
one_direction n (Ok a) (Ok b) p q = ap Ok (sym (direction_back a) ∙ ap direction_from (p ∙ sym q) ∙ direction_back b)
one_direction n (Ok a) (Err b) p q = absurd (omega (arith, direction_low a, p, q.1))
one_direction n (Err e) (Ok b) p q = absurd (omega (arith, direction_low b, q, p.1))
one_direction n (Err e) (Err b) p q = ap (λ m. Err (record { 0 = m })) (p.0 ∙ sym q.0)

pub directions_of_numbers : DirectionsOfNumbers
directions_of_numbers =
    record {
      from_module = refl;
      from_box = refl;
      unknown = λ e h. (refl, h);
      only_unknown = λ n e h. h;
      one_direction = one_direction;
    }
