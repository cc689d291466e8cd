-- `here` computes the body of the frame at the front of a list.
use Rattle.std.proofs.Common.{◌≡◌, ℕ, ◌+◌, ◌≤◌, Bool, true, false, ◌&&◌, eqb, leb, List, [], ◌∷◌, ◌++◌, length, get_or}
use Rattle.std.proofs.Common.{take, drop, refl, arith, take_at, eq-eqb, eqb-true, le-leb, leb-true}
use mathlib.Core.Option.{Option, none, some}
use lib.ListN.{get_or-append}
use Rattle.frame.specs.Wire.{wire, length_of, Good}
use Rattle.frame.specs.FramesComputed.{unstuff, starts_with, candidate, is_good, is_sum, keep, here}
use Rattle.base.specs.Sums.{checksum}
use Rattle.base.proofs.Tests.{both}
use Rattle.frame.proofs.Stuffing.{unstuff-stuff}

pub starts_with_split : (w t : List ℕ) → starts_with w t ≡ true → t ≡ w ++ drop (length w) t
unfolding starts_with
starts_with_split [] t e = refl
starts_with_split (x ∷ xs) [] e = cc
starts_with_split (x ∷ xs) (y ∷ ys) e =
    let h : (eqb x y ≡ true) × (starts_with xs ys ≡ true) = both (eqb x y) e in
    cc (eqb-true x y h.0, starts_with_split xs ys h.1)

pub starts_with_append : (w r : List ℕ) → starts_with w (w ++ r) ≡ true
unfolding starts_with
starts_with_append [] r = refl
starts_with_append (x ∷ xs) r = rw (eq-eqb x x refl) (starts_with_append xs r)

-- a frame with the body b is at the front of t
pub record FrameHere (limit : ℕ) (t b : List ℕ) : Type 0 where
  pub rest : List ℕ
  pub bytes : t ≡ wire b ++ rest
  pub good : Good limit b

pub good_is_good : (limit : ℕ) (b : List ℕ) → Good limit b → is_good limit b ≡ true
unfolding is_good is_sum
good_is_good limit b g =
    rw (
      eq-eqb (length b) (length_of b + 2) g.true_length,
      le-leb 5 (length_of b) g.shortest,
      le-leb (length_of b) limit g.longest,
    )
    (eq-eqb (get_or b (length_of b + 1) 0) (checksum (take (length_of b + 1) b)) g.sum_holds)

pub is_good_good : (limit : ℕ) (b : List ℕ) → is_good limit b ≡ true → Good limit b
unfolding is_good is_sum
is_good_good limit b e =
    let h0 = both (eqb (length b) (length_of b + 2)) e in
    let h1 = both (leb 5 (length_of b)) h0.1 in
    let h2 = both (leb (length_of b) limit) h1.1 in
    record {
      true_length = eqb-true (length b) (length_of b + 2) h0.0;
      shortest = leb-true 5 (length_of b) h1.0;
      longest = leb-true (length_of b) limit h2.0;
      sum_holds = eqb-true (get_or b (length_of b + 1) 0) (checksum (take (length_of b + 1) b)) h2.1;
    }

pub length_of-append : (b r : List ℕ) → 2 ≤ length b → length_of (b ++ r) ≡ length_of b
length_of-append b r h =
    let e0 : get_or (b ++ r) 0 0 ≡ get_or b 0 0 = get_or-append b r 0 0 (omega arith) in
    let e1 : get_or (b ++ r) 1 0 ≡ get_or b 1 0 = get_or-append b r 0 1 (omega arith) in
    omega arith

pub candidate_is : (b rest : List ℕ) → length b ≡ length_of b + 2 → candidate (wire b ++ rest) ≡ b
unfolding candidate
candidate_is b rest l =
    let u : List ℕ = unstuff false rest in
    let e : length_of (b ++ u) ≡ length_of b = length_of-append b u (omega arith) in
    rw (unstuff-stuff b rest) (take_at b u (length_of (b ++ u) + 2) (omega arith))

pub here_some : (limit : ℕ) (t b : List ℕ) → FrameHere limit t b → here limit t ≡ some b
unfolding here
here_some limit t b f =
    rw (
      f.bytes,
      candidate_is b f.rest f.good.true_length,
      starts_with_append (wire b) f.rest,
      good_is_good limit b f.good,
    )

pub here_sound : (limit : ℕ) (t b : List ℕ) → here limit t ≡ some b → FrameHere limit t b
unfolding here
here_sound limit t b e = go (starts_with (wire (candidate t)) t && is_good limit (candidate t)) refl e
  where
    go : (k : Bool) → (starts_with (wire (candidate t)) t && is_good limit (candidate t)) ≡ k
        → keep k (candidate t) ≡ some b → FrameHere limit t b
    go true q e =
        let same : candidate t ≡ b = cc in
        let h = both (starts_with (wire (candidate t)) t) q in
        record {
          rest = drop (length (wire b)) t;
          bytes = starts_with_split (wire b) t (rw same at h.0);
          good = is_good_good limit b (rw same at h.1);
        }
    go false q e = let z : ◌≡◌ {A = ℕ} 0 1 = cc in absurd (omega arith)

pub here_none : (limit : ℕ) (t : List ℕ) → ((b : List ℕ) → FrameHere limit t b → ⊥) → here limit t ≡ none
here_none limit t h = go (here limit t) refl
  where
    go : (o : Option (List ℕ)) → here limit t ≡ o → o ≡ none
    go none e = refl
    go (some b) e = absurd (h b (here_sound limit t b e))
