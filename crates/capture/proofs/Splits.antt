-- What is left after a head: whole records, and a rest where reading stops. Assumes nothing.
use Prim.Native.Nat.{ℕ, ◌+◌, ◌^◌, ◌≤◌, ◌<◌}
use mathlib.Core.Path.{◌≡◌, refl, sym, ap, ◌∙◌}
use mathlib.Core.Logic.{◌≢◌, ◌⊎◌, inl, inr}
use mathlib.Core.List.{List, [], ◌∷◌, ◌++◌, append_assoc, append-nil}
use native.Mathlib.Omega.{arith}
use borrow.Author.Tests.{ne_eqb, eqb-true, eqb-false}
use lib.ListN.{length, get_or, take, drop, length-append, length-drop, take-append-drop, get_or-append}
use lib.Seq.{take-append-le, length-take-le}
use lib.Dec.{eqb}
use Rattle.base.specs.Rows.{Row, row}
use Rattle.base.specs.Outcomes.{Outcome}
use Rattle.base.proofs.Lists.{no_bytes}
use Rattle.base.proofs.Tests.{by_test}
use Rattle.frame.specs.Offers.{joined}
use Rattle.capture.specs.Format.{direction_of, size_of, IsRecord}
use Rattle.capture.specs.Captures.{AllRecords, Stops, whole, direction, ended}
use Rattle.capture.specs.Reading.{lacking_of, end_in, end_of}
use Rattle.capture.specs.Windows.{count_of, add_record, records_by, place_by, left_by, AreWindows, Closes}
use Rattle.capture.proofs.Records.{first_there, front_is, none_begins}
use Rattle.capture.proofs.NextCases.{later_cases}

-- some bytes are these records and a rest, before which reading stops with this number
pub record Split (left : List ℕ) (records : List (List ℕ)) (number : ℕ) : Type 0 where
  pub rest : List ℕ
  pub bytes : left ≡ joined records ++ rest
  pub all : AllRecords records
  pub stops : Stops rest number

pub split_none : {left : List ℕ} {number : ℕ} → Stops left number → Split left [] number
unfolding joined
split_none {left} s = record { rest = left; bytes = refl; all = tt; stops = s }

pub split_more : {r after left : List ℕ} {records : List (List ℕ)} {number : ℕ}
    → IsRecord r → left ≡ r ++ after → Split after records number → Split left (r ∷ records) number
unfolding joined
split_more {r} {records} is e s =
    record {
      rest = s.rest;
      bytes = e ∙ ap (λ (l : List ℕ). r ++ l) s.bytes ∙ sym (append_assoc r (joined records) s.rest);
      all = (is, s.all);
      stops = s.stops;
    }

-- ---- what calls take, from a place after the head on

-- the same, with the place where reading stops
pub record From (place : ℕ) (left : List ℕ) (records : List (List ℕ)) (number at : ℕ) : Type 0 where
  pub split : Split left records number
  pub stop : at ≡ place + length (joined records)

from_none : {place number at : ℕ} {left : List ℕ} → Stops left number → at ≡ place → From place left [] number at
unfolding joined
from_none s e = record { split = split_none s; stop = omega arith }

from_more : {r after left : List ℕ} {records : List (List ℕ)} {place n number at : ℕ}
    → IsRecord r → length r ≡ n → left ≡ r ++ after → From (place + n) after records number at
    → From place left (r ∷ records) number at
unfolding joined
from_more {r} {records} is size e f =
    record { split = split_more is e f.split; stop = omega (arith, f.stop, length-append r (joined records)) }

-- a row of one value
pub one_value : {n m p q : ℕ} → row n (p ∷ []) ≡ row m (q ∷ []) → (m ≡ n) × (q ≡ p)
one_value {n} {m} {p} {q} e =
    (sym (ap (λ (r : Row). r.number) e), sym (ap (λ (r : Row). get_or r.values 0 0) e))

-- what finish is offered, where no byte that is there is refused
pub all_left : {left w rest : List ℕ} {n : ℕ} → left ≡ w ++ rest → (rest ≡ []) ⊎ (50 < n) → n ≤ 50 → left ≡ w
all_left {w} e (inl q) h = e ∙ ap (λ (l : List ℕ). w ++ l) q ∙ append-nil w
all_left e (inr k) h = absurd (omega arith)

-- where finish closes it
module _ (place : ℕ) (left : List ℕ) (low : 5 ≤ place) (fits : place + length left ≤ 2 ^ 62)
    (number at : ℕ) (some : number ≢ 0) where
  lacks_rest : direction_of left ≤ 1 → length left < size_of left
      → lacking_of place left ≡ row number (at ∷ []) → From place left [] number at
  lacks_rest one few =
      rw (ne_eqb place 0 (λ e. omega arith))
      (by_test (λ (r : Row). r ≡ row number (at ∷ []) → From place left [] number at) (eqb (length left) 0)
      (λ t e. let q = one_value e in from_none (whole q.0 (no_bytes left (eqb-true (length left) 0 t))) q.1)
      (λ t e.
      let q = one_value e in
      from_none (ended q.0 (omega (arith, eqb-false (length left) 0 t)) one (none_begins left few)) q.1))

  pub closed : (w : List ℕ) → Closes place left w → end_of place w ≡ row number (at ∷ []) → From place left [] number at
  closed w c =
      let size : length left ≡ length w + length c.rest = ap length c.front ∙ length-append w c.rest in
      later_cases w
      (λ (o : Outcome ℕ).
      (c.rest ≡ []) ⊎ (50 < o.row.number) → end_in o.row place w ≡ row number (at ∷ [])
      → From place left [] number at) place low (omega arith)
      (λ two d e.
      let q = one_value e in
      let there : 1 ≤ length w = first_there w (omega arith) in
      let same : direction_of left ≡ direction_of w = rw c.front (get_or-append w c.rest 0 0 there) in
      from_none (direction q.0 (omega arith) (omega arith)) q.1)
      (λ one few d e.
      let q : left ≡ w = all_left c.front d (omega arith) in
      lacks_rest (rw q one) (rw q few) (rw q e))
      (λ one room d e. absurd (some (one_value e).0))
      c.decided

-- what is left after a record at its front
left_on : (left w rest : List ℕ) (n : ℕ) → left ≡ w ++ rest → n ≤ length w → left ≡ take n w ++ drop n left
left_on left w rest n e h =
    sym (take-append-drop n left)
    ∙ ap (λ (l : List ℕ). l ++ drop n left) (ap (λ (l : List ℕ). take n l) e ∙ take-append-le n w rest h)

pub from_later : (windows : List (List ℕ)) (place : ℕ) (left : List ℕ)
    → 5 ≤ place → place + length left ≤ 2 ^ 62 → AreWindows place left windows
    → (w : List ℕ) → Closes (place_by place windows) (left_by place left windows) w
    → (number at : ℕ) → end_of (place_by place windows) w ≡ row number (at ∷ []) → number ≢ 0
    → From place left (records_by place windows) number at
unfolding records_by place_by left_by AreWindows
from_later [] place left low fits a w c number at e some = closed place left low fits number at some w c e
from_later (v ∷ windows) place left low fits ((rest, front), a) w c number at e some =
    let size : length left ≡ length v + length rest = ap length front ∙ length-append v rest in
    later_cases v (λ (o : Outcome ℕ).
    AreWindows o.state (drop (count_of o.row) left) windows
    → Closes (place_by o.state windows) (left_by o.state (drop (count_of o.row) left) windows) w
    → end_of (place_by o.state windows) w ≡ row number (at ∷ [])
    → From place left (add_record o.row v (records_by o.state windows)) number at)
    place low (omega arith)
    (λ two a c e. from_later windows place left low fits a w c number at e some)
    (λ one few a c e. from_later windows place left low fits a w c number at e some)
    (λ one room a c e.
    let n : ℕ = size_of v in
    from_more (front_is v one room) (length-take-le n v room) (left_on left v rest n front room)
    (from_later windows (place + n) (drop n left) (omega arith) (rw length-drop (omega arith)) a w c number at e some))
    a c e
