-- A record at the front of bytes: its fields, and when there is one. Assumes nothing.
use Prim.Native.Nat.{ℕ, ◌≤◌, ◌<◌}
use mathlib.Core.Path.{◌≡◌, refl, sym, ap, ◌∙◌}
use mathlib.Core.List.{List, [], ◌∷◌, ◌++◌}
use native.Mathlib.Omega.{arith}
use lib.ListN.{length, get_or, take, drop, length-append, take-append-drop, get_or-append}
use lib.Seq.{length-take-le, take_at}
use lib.Dec.{ltb}
use borrow.Author.Tests.{ltb-true, ltb-false}
use Rattle.base.proofs.Tests.{either_way}
use Rattle.capture.specs.Format.{direction_of, milliseconds_of, size_of, IsRecord}
use Rattle.capture.specs.Captures.{Begins}

-- the fields before the payload are read from its first seven bytes
pub record SameFields (b r : List ℕ) : Type 0 where
  pub direction : direction_of b ≡ direction_of r
  pub milliseconds : milliseconds_of b ≡ milliseconds_of r
  pub size : size_of b ≡ size_of r

pub fields_later : (r more : List ℕ) → 7 ≤ length r → SameFields (r ++ more) r
fields_later r more h =
    let at : (i : ℕ) → i < 7 → get_or (r ++ more) i 0 ≡ get_or r i 0 = λ i k. get_or-append r more 0 i (omega arith) in
    record {
      direction = at 0 (omega arith);
      milliseconds = rw (at 1 (omega arith), at 2 (omega arith), at 3 (omega arith), at 4 (omega arith));
      size = rw (at 5 (omega arith), at 6 (omega arith));
    }

-- a record that bytes begin with
module _ (r b : List ℕ) (is : IsRecord r) (begins : Begins r b) where
  pub fields_begun : SameFields b r
  fields_begun = rw begins.1 (fields_later r begins.0 (omega (arith, is.size)))

  pub size_begun : size_of b ≡ length r
  size_begun = fields_begun.size ∙ sym is.size

  pub room_begun : size_of b ≤ length b
  room_begun = omega (arith, size_begun, ap length begins.1, length-append r begins.0)

  pub record_is : take (size_of b) b ≡ r
  record_is = rw (size_begun, begins.1) (take_at r begins.0 (length r) refl)

-- bytes begin with a record when all of it is there
module _ (b : List ℕ) (low : direction_of b ≤ 1) (all : size_of b ≤ length b) where
  pub front_is : IsRecord (take (size_of b) b)
  front_is =
      let n : length (take (size_of b) b) ≡ size_of b = length-take-le (size_of b) b all in
      let same : SameFields b (take (size_of b) b) =
      rw take-append-drop at (fields_later (take (size_of b) b) (drop (size_of b) b) (omega arith)) in
      record { direction = rw (← same.direction) low; size = n ∙ same.size }

  pub front_begins : Begins (take (size_of b) b) b
  front_begins = (drop (size_of b) b, sym (take-append-drop (size_of b) b))

-- and not when they are fewer
pub none_begins : (b : List ℕ) → length b < size_of b → (r : List ℕ) → IsRecord r → Begins r b → ⊥
none_begins b h r is begins = omega (arith, room_begun r b is begins)

pub none_lacks : (b : List ℕ) → direction_of b ≤ 1 → ((r : List ℕ) → IsRecord r → Begins r b → ⊥) → length b < size_of b
none_lacks b low none =
    either_way (ltb (length b) (size_of b)) (ltb-true (length b) (size_of b))
    (λ t.
    let all : size_of b ≤ length b = ltb-false (length b) (size_of b) t in
    absurd (none (take (size_of b) b) (front_is b low all) (front_begins b low all)))

-- a direction that is not 0 is there
pub first_there : (b : List ℕ) → 1 ≤ direction_of b → 1 ≤ length b
first_there [] h = absurd (omega arith)
first_there (x ∷ b) h = omega arith
