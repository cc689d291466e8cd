-- fields_back, written_back and recorder_back. Assumes nothing.
use Prim.Native.Nat.{ℕ}
use mathlib.Core.Path.{◌≡◌, refl, ap, ◌∙◌}
use mathlib.Core.List.{List, [], ◌∷◌, ◌++◌, map, append-nil}
use native.Mathlib.Omega.{arith}
use lib.ListN.{length, drop}
use lib.Seq.{take-length, take-append-le}
use lib.Dec.{ltb}
use Rattle.base.specs.Outcomes.{placed}
use Rattle.base.proofs.Tests.{either_way}
use Rattle.frame.specs.Offers.{joined}
use Rattle.capture.specs.Format.{head}
use Rattle.base.proofs.Numbers.{two_back}
use Rattle.capture.specs.Captures.{AllRecords, whole, with_head}
use Rattle.capture.specs.Written.{Item, bytes_of, Directed, FieldsBackAlways, WrittenBack}
use Rattle.capture.specs.Written.{Recorded, record_call, put_by, AllWritten, recorded_bytes, items_of, RecorderBack}
use Rattle.capture.specs.Written.{RecorderRead}

pub fields_back : FieldsBackAlways
fields_back i =
    record {
      direction = refl;
      milliseconds = omega arith;
      payload = rw (two_back (length i.payload)) (take-length i.payload);
      size = omega arith;
    }

all_records : (items : List Item) → Directed items → AllRecords (map bytes_of items)
all_records [] d = tt
all_records (i ∷ items) d =
    (record { direction = d.0; size = omega arith }, all_records items d.1)

pub written_back : WrittenBack
written_back items d =
    with_head [] (rw append-nil) (omega arith) (all_records items d) (whole refl refl)

-- ---- recorder_back

-- what is placed, and not refused, is at the front
put_placed : (w out : List ℕ) → (placed w out).row.number ≡ 0 → put_by (placed w out) ≡ w
put_placed w out =
    either_way (ltb (length out) (length w))
    (λ t. rw t (λ e. absurd (omega (arith, e))))
    (λ t. rw t (λ e. take-append-le (length w) w (drop (length w) out) (omega arith) ∙ take-length w))

put_record : (r : Recorded) → (record_call r).row.number ≡ 0 → put_by (record_call r) ≡ bytes_of r.item
put_record r =
    either_way (ltb 65535 (length r.item.payload))
    (λ t. rw t (λ e. absurd (omega (arith, e))))
    (λ t. rw t (put_placed (bytes_of r.item) r.out))

recorded : (rs : List Recorded) → AllWritten rs → recorded_bytes rs ≡ joined (map bytes_of (items_of rs))
unfolding recorded_bytes joined
recorded [] a = refl
recorded (r ∷ rs) a =
    ap (λ (l : List ℕ). l ++ recorded_bytes rs) (put_record r a.0)
    ∙ ap (λ (l : List ℕ). bytes_of r.item ++ l) (recorded rs a.1)

pub recorder_back : RecorderBack
recorder_back out rs h a =
    ap (λ (l : List ℕ). l ++ recorded_bytes rs) (put_placed head out h)
    ∙ ap (λ (l : List ℕ). head ++ l) (recorded rs a)

pub recorder_read : RecorderRead
recorder_read out rs h a d = rw (recorder_back out rs h a) (written_back (items_of rs) d)
