-- Windows on a capture, with one call more; and the record at the front of a window. Assumes nothing.
use Prim.Native.Nat.{ℕ, ◌+◌, ◌≤◌, ◌<◌}
use mathlib.Core.Path.{◌≡◌, refl, sym, ap, ◌∙◌}
use mathlib.Core.List.{List, [], ◌∷◌, ◌++◌, append-nil, append_assoc}
use native.Mathlib.Omega.{arith}
use lib.ListN.{length, get_or, take, drop, length-drop, take-append-drop, get_or-append}
use lib.Seq.{take-append-le, drop-append-le}
use lib.Dec.{eqb}
use Rattle.base.specs.Rows.{Row}
use Rattle.capture.specs.Format.{direction_of, payload_size_of, payload_of, size_of, IsRecord}
use Rattle.frame.specs.Offers.{joined}
use Rattle.capture.specs.Captures.{AllRecords}
use Rattle.capture.specs.Reading.{next_of}
use Rattle.capture.specs.Windows.{count_of, add_record, records_by, place_by, left_by, AreWindows}
use Rattle.replay.proofs.LineLaws.{front_first}

-- ---- one call more

pub records_more : (p : ℕ) (ws : List (List ℕ)) (w : List ℕ)
    → records_by p (ws ++ w ∷ []) ≡ records_by p ws ++ add_record (next_of (place_by p ws) w).row w []
unfolding records_by place_by
records_more p [] w = refl
records_more p (v ∷ ws) w =
    let a : Row = (next_of p v).row in
    let later = records_more (next_of p v).state ws w in
    ap (λ (l : List (List ℕ)). add_record a v l) later
    ∙ front_first (eqb a.number 1) (take (count_of a) v) (records_by (next_of p v).state ws)
    (add_record (next_of (place_by (next_of p v).state ws) w).row w [])

pub place_more : (p : ℕ) (ws : List (List ℕ)) (w : List ℕ) → place_by p (ws ++ w ∷ [])
    ≡ (next_of (place_by p ws) w).state
unfolding place_by
place_more p [] w = refl
place_more p (v ∷ ws) w = place_more (next_of p v).state ws w

pub left_more : (p : ℕ) (left : List ℕ) (ws : List (List ℕ)) (w : List ℕ)
    → left_by p left (ws ++ w ∷ []) ≡ drop (count_of (next_of (place_by p ws) w).row) (left_by p left ws)
unfolding left_by place_by
left_more p left [] w = refl
left_more p left (v ∷ ws) w = left_more (next_of p v).state (drop (count_of (next_of p v).row) left) ws w

pub windows_more : (p : ℕ) (left : List ℕ) (ws : List (List ℕ)) (w rest : List ℕ)
    → AreWindows p left ws → left_by p left ws ≡ w ++ rest → AreWindows p left (ws ++ w ∷ [])
unfolding AreWindows left_by
windows_more p left [] w rest a e = ((rest, e), tt)
windows_more p left (v ∷ ws) w rest a e =
    (a.0, windows_more (next_of p v).state (drop (count_of (next_of p v).row) left) ws w rest a.1 e)

-- ---- a record that is whole at the front of bytes is the same with more bytes after it

pub record SameRecord (b r : List ℕ) : Type 0 where
  pub direction : direction_of b ≡ direction_of r
  pub size : size_of b ≡ size_of r
  pub payload : payload_of b ≡ payload_of r

pub same_record : (r more : List ℕ) → size_of r ≤ length r → SameRecord (r ++ more) r
same_record r more h =
    let at : (i : ℕ) → i < 7 → get_or (r ++ more) i 0 ≡ get_or r i 0 = λ i k. get_or-append r more 0 i (omega arith) in
    let size : payload_size_of (r ++ more) ≡ payload_size_of r = rw (at 5 (omega arith), at 6 (omega arith)) in
    record {
      direction = at 0 (omega arith);
      size = ap (λ (n : ℕ). 7 + n) size;
      payload = ap (λ (n : ℕ). take n (drop 7 (r ++ more))) size
          ∙ (ap (λ (l : List ℕ). take (payload_size_of r) l) (drop-append-le 7 r more (omega arith))
          ∙ take-append-le (payload_size_of r) (drop 7 r) more (omega (arith, length-drop 7 r)));
    }

-- the record itself
pub taken_record : (b : List ℕ) → IsRecord (take (size_of b) b) → SameRecord b (take (size_of b) b)
taken_record b is =
    let r : List ℕ = take (size_of b) b in
    rw take-append-drop at (same_record r (drop (size_of b) b) (omega (arith, is.size)))

-- ---- a record more

pub joined_more : (rs : List (List ℕ)) (r : List ℕ) → joined (rs ++ r ∷ []) ≡ joined rs ++ r
unfolding joined
joined_more [] r = append-nil r
joined_more (q ∷ rs) r =
    ap (λ (l : List ℕ). q ++ l) (joined_more rs r) ∙ sym (append_assoc q (joined rs) r)

pub all_more : (rs : List (List ℕ)) (r : List ℕ) → AllRecords rs → IsRecord r → AllRecords (rs ++ r ∷ [])
all_more [] r a i = (i, tt)
all_more (q ∷ rs) r a i = (a.0, all_more rs r a.1 i)
