-- Bytes are whole records and a rest where reading stops in one way, and in no other. Assumes nothing.
use Prim.Native.Nat.{ℕ, zero, suc, ◌≤◌, ◌<◌}
use mathlib.Core.Path.{◌≡◌, refl, sym, ap, ◌∙◌}
use mathlib.Core.Logic.{◌⊎◌, inl, inr}
use mathlib.Core.List.{List, [], ◌∷◌, ◌++◌, append_assoc}
use native.Mathlib.Omega.{arith}
use borrow.Author.Tests.{ltb-true, ltb-false}
use lib.ListN.{length, take, drop, length-append, length-drop, take-append-drop}
use lib.Seq.{drop_at}
use lib.Dec.{ltb}
use Rattle.base.proofs.Lists.{no_bytes}
use Rattle.base.proofs.Tests.{either_way}
use Rattle.frame.specs.Offers.{joined}
use Rattle.capture.specs.Format.{direction_of, size_of, IsRecord}
use Rattle.capture.specs.Captures.{Begins, Stops, whole, direction, ended}
use Rattle.capture.proofs.Records.{fields_begun, record_is, front_is, none_begins}
use Rattle.capture.proofs.Records.{none_lacks}
use Rattle.capture.proofs.Splits.{Split, split_none, split_more}

-- ---- one way

pub record SomeSplit (left : List ℕ) : Type 0 where
  pub records : List (List ℕ)
  pub number : ℕ
  pub split : Split left records number

some_none : {left : List ℕ} (number : ℕ) → Stops left number → SomeSplit left
some_none number s = record { records = []; number = number; split = split_none s }

some_more : (left : List ℕ) → direction_of left ≤ 1 → size_of left ≤ length left
    → SomeSplit (drop (size_of left) left) → SomeSplit left
some_more left one room s =
    record {
      records = take (size_of left) left ∷ s.records;
      number = s.number;
      split = split_more (front_is left one room) (sym (take-append-drop (size_of left) left)) s.split;
    }

-- of so many bytes at most
split_of : (most : ℕ) (left : List ℕ) → length left ≤ most → SomeSplit left
split_of zero left h = some_none 2 (whole refl (no_bytes left (omega arith)))
split_of (suc most) [] h = some_none 2 (whole refl refl)
split_of (suc most) (x ∷ left) h =
    let b : List ℕ = x ∷ left in
    either_way (ltb 1 x) (λ t. some_none 53 (direction refl (omega arith) (ltb-true 1 x t)))
    (λ t. either_way (ltb (length b) (size_of b))
    (λ u.
    some_none 54 (ended refl (omega arith) (ltb-false 1 x t) (none_begins b (ltb-true (length b) (size_of b) u))))
    (λ u. some_more b (ltb-false 1 x t) (ltb-false (length b) (size_of b) u)
    (split_of most (drop (size_of b) b) (rw length-drop (omega arith)))))

pub some_split : (left : List ℕ) → SomeSplit left
some_split left = split_of (length left) left (omega arith)

-- ---- no other

pub one_stop : {rest : List ℕ} {n m : ℕ} → Stops rest n → Stops rest m → n ≡ m
one_stop (whole e r) (whole f s) = e ∙ sym f
one_stop (whole e r) (direction f some two) = absurd (omega (arith, ap length r))
one_stop (whole e r) (ended f some one none) = absurd (omega (arith, ap length r))
one_stop (direction e some two) (whole f s) = absurd (omega (arith, ap length s))
one_stop (direction e some two) (direction f some' two') = e ∙ sym f
one_stop (direction e some two) (ended f some' one none) = absurd (omega arith)
one_stop (ended e some one none) (whole f s) = absurd (omega (arith, ap length s))
one_stop (ended e some one none) (direction f some' two) = absurd (omega arith)
one_stop (ended e some one none) (ended f some' one' none') = e ∙ sym f

-- reading does not stop before a record
pub no_stop : {rest : List ℕ} {n : ℕ} (r : List ℕ) → Stops rest n → IsRecord r → Begins r rest → ⊥
no_stop r (whole e q) is (more, b) =
    omega (arith, is.size, ap length q, ap length b, length-append r more)
no_stop {rest} r (direction e some two) is begins =
    omega (arith, (fields_begun r rest is begins).direction, is.direction)
no_stop r (ended e some one none) is begins = none r is begins

-- the parts of a split
stop_none : {left : List ℕ} {n : ℕ} → Split left [] n → Stops left n
unfolding joined
stop_none s = rw s.bytes s.stops

module _ (r : List ℕ) (rs : List (List ℕ)) {left : List ℕ} {n : ℕ} (s : Split left (r ∷ rs) n) where
  after_first : left ≡ r ++ (joined rs ++ s.rest)
  unfolding joined
  after_first = s.bytes ∙ append_assoc r (joined rs) s.rest

  begins_first : Begins r left
  begins_first = (joined rs ++ s.rest, after_first)

  split_rest : Split (drop (length r) left) rs n
  split_rest =
      record {
        rest = s.rest;
        bytes = rw after_first (drop_at r (joined rs ++ s.rest) (length r) refl);
        all = s.all.1;
        stops = s.stops;
      }

pub one_split : (rs ks : List (List ℕ)) {left : List ℕ} {n m : ℕ}
    → Split left rs n → Split left ks m → (rs ≡ ks) × (n ≡ m)
one_split [] [] s t = (refl, one_stop (stop_none s) (stop_none t))
one_split [] (k ∷ ks) s t = absurd (no_stop k (stop_none s) t.all.0 (begins_first k ks t))
one_split (r ∷ rs) [] s t = absurd (no_stop r (stop_none t) s.all.0 (begins_first r rs s))
one_split (r ∷ rs) (k ∷ ks) {left} {m} s t =
    let first : r ≡ k =
    sym (record_is r left s.all.0 (begins_first r rs s)) ∙ record_is k left t.all.0 (begins_first k ks t) in
    let other : Split (drop (length r) left) ks m = rw first (split_rest k ks t) in
    let rest = one_split rs ks (split_rest r rs s) other in
    let others : rs ≡ ks = rest.0 in
    (cc, rest.1)

-- ---- why reading stops, by the rest

pub record StopExactly (rest : List ℕ) (number : ℕ) : Type 0 where
  pub behind : (number ≡ 51) ⊎ (number ≡ 52) → ⊥
  pub direction : 1 ≤ length rest → 2 ≤ direction_of rest → number ≡ 53
  pub direction_only : number ≡ 53 → (1 ≤ length rest) × (2 ≤ direction_of rest)
  pub ended : 1 ≤ length rest → direction_of rest ≤ 1 → number ≡ 54
  pub ended_only : number ≡ 54 → (1 ≤ length rest) × (direction_of rest ≤ 1) × (length rest < size_of rest)
  pub whole : length rest ≡ 0 → number ≡ 2
  pub whole_only : number ≡ 2 → length rest ≡ 0

behind_any : {n : ℕ} → (52 < n) ⊎ (n ≡ 2) → (n ≡ 51) ⊎ (n ≡ 52) → ⊥
behind_any (inl h) (inl e) = omega arith
behind_any (inl h) (inr e) = omega arith
behind_any (inr h) (inl e) = omega arith
behind_any (inr h) (inr e) = omega arith

pub stop_exactly : {rest : List ℕ} {number : ℕ} → Stops rest number → StopExactly rest number
stop_exactly (whole n e) =
    let none = ap length e in
    record {
      behind = behind_any (inr n);
      direction = λ some two. absurd (omega (arith, none));
      direction_only = λ q. absurd (omega arith);
      ended = λ some one. absurd (omega (arith, none));
      ended_only = λ q. absurd (omega arith);
      whole = λ q. n;
      whole_only = λ q. none;
    }
stop_exactly (direction n some two) =
    record {
      behind = behind_any (inl (omega arith));
      direction = λ some two. n;
      direction_only = λ q. (some, two);
      ended = λ some one. absurd (omega arith);
      ended_only = λ q. absurd (omega arith);
      whole = λ q. absurd (omega arith);
      whole_only = λ q. absurd (omega arith);
    }
stop_exactly {rest} (ended n some one none) =
    record {
      behind = behind_any (inl (omega arith));
      direction = λ some two. absurd (omega arith);
      direction_only = λ q. absurd (omega arith);
      ended = λ some one. n;
      ended_only = λ q. (some, one, none_lacks rest one none);
      whole = λ q. absurd (omega arith);
      whole_only = λ q. absurd (omega arith);
    }
