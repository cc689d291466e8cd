-- Laws of stuffing; the claims stuffing and stuffed_form.
use Rattle.std.proofs.Common.{◌≡◌, ℕ, suc, ◌*◌, ◌≤◌, Bool, true, false, eqb, ◌⊎◌, List, [], ◌∷◌, ◌++◌, length, sym}
use Rattle.std.proofs.Common.{refl, ap, ◌∙◌, inl, inr, append-nil, arith, ne_eqb}
use mathlib.Core.List.{head-eq_of_cons-eq, tail-eq_of_cons-eq, cons≢nil}
use Rattle.frame.specs.Stuffing.{StuffsEach, StuffedForms}
use Rattle.frame.specs.Wire.{stuff_after, stuff}
use Rattle.frame.specs.FramesComputed.{unstuff}

-- stuff over ++
pub stuff-append : (a b : List ℕ) → stuff (a ++ b) ≡ stuff a ++ stuff b
unfolding stuff
stuff-append [] b = refl
stuff-append (x ∷ xs) b = go (eqb x 255) (stuff-append xs b)
  where
    go : (t : Bool) → stuff (xs ++ b) ≡ stuff xs ++ stuff b
        → x ∷ stuff_after t (stuff (xs ++ b)) ≡ x ∷ stuff_after t (stuff xs) ++ stuff b
    go true h = rw h
    go false h = rw h

pub unstuff-stuff : (b r : List ℕ) → unstuff false (stuff b ++ r) ≡ b ++ unstuff false r
unfolding stuff unstuff
unstuff-stuff [] r = refl
unstuff-stuff (x ∷ xs) r = go (eqb x 255) (unstuff-stuff xs r)
  where
    go : (t : Bool) → unstuff false (stuff xs ++ r) ≡ xs ++ unstuff false r
        → x ∷ unstuff t (stuff_after t (stuff xs) ++ r) ≡ x ∷ (xs ++ unstuff false r)
    go true h = rw h
    go false h = rw h

-- b goes on where a ends, and what is left on the wire is the rest of b, stuffed
pub record Longer (a b rest z : List ℕ) : Type 0 where
  pub first : ℕ
  pub more : List ℕ
  pub whole : b ≡ a ++ first ∷ more
  pub left : stuff (first ∷ more) ++ rest ≡ z

-- of two stuffed bodies at the front of the same bytes, one is a front of the other
pub compare_bodies : (b a rest z : List ℕ)
    → stuff b ++ rest ≡ stuff a ++ z → ((c : List ℕ) × (a ≡ b ++ c)) ⊎ Longer a b rest z
unfolding stuff
compare_bodies [] a rest z e = inl (a, refl)
compare_bodies (y ∷ ys) [] rest z e = inr (record { first = y; more = ys; whole = refl; left = e })
compare_bodies (y ∷ ys) (x ∷ xs) rest z e =
    go (λ h. compare_bodies ys xs rest z h) (eqb x 255) (rw (head-eq_of_cons-eq e) at (tail-eq_of_cons-eq e))
  where
    same : y ≡ x
    same = head-eq_of_cons-eq e

    Out : Type 0
    Out = ((c : List ℕ) × (x ∷ xs ≡ (y ∷ ys) ++ c)) ⊎ Longer (x ∷ xs) (y ∷ ys) rest z

    finish : ((c : List ℕ) × (xs ≡ ys ++ c)) ⊎ Longer xs ys rest z → ((c : List ℕ) × (x ∷ xs ≡ (y ∷ ys) ++ c))
        ⊎ Longer (x ∷ xs) (y ∷ ys) rest z
    finish (inl r) = inl (r.0, (cc (same, r.1)))
    finish (inr r) = inr (record { first = r.first; more = r.more; whole = cc (same, r.whole); left = r.left })

    go : (stuff ys ++ rest ≡ stuff xs ++ z → ((c : List ℕ) × (xs ≡ ys ++ c)) ⊎ Longer xs ys rest z)
        → (t : Bool) → stuff_after t (stuff ys) ++ rest ≡ stuff_after t (stuff xs) ++ z → Out
    go k true h = finish (k (tail-eq_of_cons-eq h))
    go k false h = finish (k h)

-- a 55 follows each FF of a stuffed form
escaped : (b before r : List ℕ) → stuff b ≡ before ++ 255 ∷ r → (r' : List ℕ) × (r ≡ 85 ∷ r')
unfolding stuff
escaped [] [] r e = absurd (cons≢nil (sym e))
escaped [] (y ∷ ys) r e = absurd (cons≢nil (sym e))
escaped (x ∷ xs) [] r e = (stuff xs, sym (tail-eq_of_cons-eq (rw (head-eq_of_cons-eq e) at e)))
escaped (x ∷ xs) (y ∷ ys) r e = go (eqb x 255) ys (tail-eq_of_cons-eq e) (λ zs f. escaped xs zs r f)
  where
    go : (t : Bool) (ys : List ℕ) → stuff_after t (stuff xs) ≡ ys ++ 255 ∷ r
        → ((zs : List ℕ) → stuff xs ≡ zs ++ 255 ∷ r → (r' : List ℕ) × (r ≡ 85 ∷ r')) → (r' : List ℕ) × (r ≡ 85 ∷ r')
    go true [] f k = let z : ◌≡◌ {A = ℕ} 85 255 = head-eq_of_cons-eq f in absurd (omega arith)
    go true (z ∷ zs) f k = k zs (tail-eq_of_cons-eq f)
    go false ys f k = k ys f

pub stuff_bound : (b : List ℕ) → length (stuff b) ≤ 2 * length b
unfolding stuff
stuff_bound [] = omega arith
stuff_bound (x ∷ xs) = go (eqb x 255) (stuff_bound xs)
  where
    go : (t : Bool) → length (stuff xs) ≤ 2 * length xs → suc (length (stuff_after t (stuff xs))) ≤ 2 * suc (length xs)
    go true h = omega arith
    go false h = omega arith

reads_back : (b : List ℕ) → unstuff false (stuff b) ≡ b
unfolding unstuff
reads_back b =
    ap (λ (l : List ℕ). unstuff false l) (sym (append-nil (stuff b))) ∙ unstuff-stuff b [] ∙ append-nil b

pub stuffed_form : StuffedForms
stuffed_form b =
    record {
      no_neighbours = λ before after e.
          let z : ◌≡◌ {A = ℕ} 255 85 = head-eq_of_cons-eq (escaped b before (255 ∷ after) e).1 in
          omega arith;
      no_last = λ before e. cons≢nil (sym (escaped b before [] e).1);
      at_most_twice = stuff_bound b;
      reads_back = reads_back b;
    }

pub stuffing : StuffsEach
unfolding stuff
stuffing x xs = record { none = refl; ff = refl; other = λ n. rw (ne_eqb x 255 n); header = refl }
