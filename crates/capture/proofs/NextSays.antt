-- What an answer of `next` says of the bytes. Assumes nothing.
use Prim.Native.Nat.{ℕ, ◌+◌, ◌≤◌}
use mathlib.Core.Path.{◌≡◌, refl}
use mathlib.Core.Logic.{◌≢◌}
use mathlib.Core.List.{List, [], ◌∷◌}
use native.Mathlib.Omega.{arith}
use lib.ListN.{length, get_or, take, drop}
use lib.Dec.{eqb, ltb}
use borrow.Author.Tests.{eqb-false}
use Rattle.base.specs.Rows.{Row, row}
use Rattle.base.specs.Outcomes.{Outcome, outcome}
use Rattle.capture.specs.Format.{head, direction_of, milliseconds_of, size_of, IsRecord}
use Rattle.capture.specs.Captures.{Begins}
use Rattle.base.proofs.Tests.{by_test}
use Rattle.capture.specs.Reading.{next_of, lacking_of, end_of}
use Rattle.capture.specs.EachCall.{NextSaysAlways}
use Rattle.capture.proofs.Heads.{head_begun}
use Rattle.capture.proofs.NextCases.{head_cases, record_cases, next_cases}
use Rattle.capture.proofs.Records.{front_is}

-- a row has one value
abbrev OneValue : Row → Type 0
OneValue r = r ≡ row r.number (get_or r.values 0 0 ∷ [])

lacking_value : (place : ℕ) (b : List ℕ) → OneValue (lacking_of place b)
lacking_value place b =
    by_test OneValue (eqb place 0)
    (λ _. by_test OneValue (ltb (length b) 3) (λ _. refl) (λ _. refl))
    (λ _. by_test OneValue (eqb (length b) 0) (λ _. refl) (λ _. refl))

module _ (place : ℕ) (b : List ℕ) where
  -- the same of any outcome
  record Says (y : Outcome ℕ) : Type 0 where
    record_taken : y.row.number ≡ 1
        → (5 ≤ place) × (size_of b ≤ length b) × IsRecord (take (size_of b) b)
        × (y ≡ outcome (row 1 (size_of b ∷ direction_of b ∷ milliseconds_of b ∷ [])) (place + size_of b))
    head_taken : y.row.number ≡ 0 → 1 ≤ get_or y.row.values 0 0
        → (place ≡ 0) × Begins head b × (y ≡ outcome (row 0 (5 ∷ [])) 5)
    stays : y.row.number ≢ 0 → y.row.number ≢ 1 → y.state ≡ place
    one_value : y.row.number ≢ 1 → OneValue y.row

  -- an answer that takes nothing
  nothing : (number value at : ℕ) → number ≢ 1 → (number ≡ 0 → value ≡ 0) → at ≡ place
      → Says (outcome (row number (value ∷ [])) at)
  nothing number value at other zero same =
      record {
        record_taken = λ e. absurd (other e);
        head_taken = λ e h. absurd (omega (arith, zero e));
        stays = λ e h. same;
        one_value = λ e. refl;
      }

  says : Says (next_of place b)
  says =
      next_cases b Says place (λ o. nothing 17 0 place (λ e. omega arith) (λ e. absurd (omega arith)) refl)
      (λ o h. nothing 18 0 place (λ e. omega arith) (λ e. absurd (omega arith)) refl)
      (λ first h. head_cases b Says (λ d. nothing 51 0 0 (λ e. omega arith) (λ e. absurd (omega arith)) (omega arith))
      (λ s d. nothing 52 3 0 (λ e. omega arith) (λ e. absurd (omega arith)) (omega arith))
      (λ s k. nothing 0 0 0 (λ e. omega arith) (λ e. refl) (omega arith))
      (λ s k. record {
        record_taken = λ e. absurd (omega arith);
        head_taken = λ e n. (first, (drop 5 b, head_begun b s k), refl);
        stays = λ e n. absurd (e refl);
        one_value = λ e. refl;
      }))
      (λ low h. record_cases b Says place
      (λ d. nothing 53 place place (λ e. omega arith) (λ e. absurd (omega arith)) refl)
      (λ d k. nothing 0 0 place (λ e. omega arith) (λ e. refl) refl)
      (λ d k. record {
        record_taken = λ e. (low, k, front_is b d k, refl);
        head_taken = λ e n. absurd (omega arith);
        stays = λ e n. absurd (n refl);
        one_value = λ e. absurd (e refl);
      }))

  end_value : OneValue (end_of place b)
  end_value =
      by_test OneValue (eqb (next_of place b).row.number 0)
      (λ _. by_test OneValue (eqb (get_or (next_of place b).row.values 0 0) 0) (λ _. lacking_value place b) (λ _. refl))
      (λ _. by_test OneValue (eqb (next_of place b).row.number 1) (λ _. refl)
      (λ t. says.one_value (eqb-false (next_of place b).row.number 1 t)))

pub next_says : NextSaysAlways
next_says place b =
    let s = says place b in
    record {
      record_said = λ e. record {
        after_head = (s.record_taken e).0;
        within = (s.record_taken e).1;
        is_record = (s.record_taken e).2;
        answer = (s.record_taken e).3;
      };
      head_said = s.head_taken;
      others = s.stays;
      one_value = end_value place b;
    }
