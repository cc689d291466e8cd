-- Places at which no frame starts, and the list of frames there; why_widest.
use Rattle.std.proofs.Common.{◌≡◌, ℕ, suc, ◌+◌, ◌<◌, ◌≤◌, Bool, true, false, eqb, ◌≢◌, ◌⊎◌, List, [], ◌∷◌, ◌++◌, length}
use Rattle.std.proofs.Common.{get_or, sym, refl, ap, ◌∙◌, inl, inr, append-nil, add-zero, arith, length-append}
use mathlib.Core.List.{head-eq_of_cons-eq, tail-eq_of_cons-eq, cons≢nil}
use mathlib.Core.Option.{none}
use borrow.Author.Tests.{eqb-false}
use Rattle.frame.specs.Wire.{stuff_after, stuff, wire, length_of, Good}
use Rattle.frame.specs.FramesComputed.{unstuff, is_good, here, frames_from}
use Rattle.frame.specs.Stuffing.{WhyWidest}
use Rattle.frame.proofs.Stuffing.{unstuff-stuff, compare_bodies, Longer}
use Rattle.frame.proofs.Here.{FrameHere, here_none, here_some, candidate_is, starts_with_append, length_of-append}

module _ (limit : ℕ) where
  pub pass : (n x : ℕ) (t : List ℕ)
      → here limit (x ∷ t) ≡ none → frames_from limit n (x ∷ t) ≡ frames_from limit (suc n) t
  unfolding frames_from
  pass n x t e = rw e

  pub pass_other : (n x : ℕ) (t : List ℕ) → x ≢ 255 → frames_from limit n (x ∷ t) ≡ frames_from limit (suc n) t
  pass_other n x t h = pass n x t (here_none limit (x ∷ t) (λ b f. h (head-eq_of_cons-eq f.bytes)))

  pub pass_pair : (n x y : ℕ) (t : List ℕ) → y ≢ 255 → frames_from limit n (x ∷ y ∷ t)
      ≡ frames_from limit (suc n) (y ∷ t)
  pass_pair n x y t h =
      pass n x (y ∷ t) (here_none limit (x ∷ y ∷ t) (λ b f. h (head-eq_of_cons-eq (tail-eq_of_cons-eq f.bytes))))

  pub pass_lone : (n x : ℕ) → frames_from limit n (x ∷ []) ≡ []
  unfolding frames_from
  pass_lone n x = rw (here_none limit (x ∷ []) (λ b f. cons≢nil (sym (tail-eq_of_cons-eq f.bytes))))

  -- a body that begins with FF is too long
  pub good_first : (b : List ℕ) → limit ≤ 65279 → Good limit b → get_or b 0 0 ≢ 255
  good_first b small g e = omega (arith, g.longest)

  first_of : (b rest : List ℕ) (x : ℕ) (t : List ℕ) → 1 ≤ length b → stuff b ++ rest ≡ x ∷ t → get_or b 0 0 ≡ x
  unfolding stuff
  first_of [] rest x t h e = absurd (omega arith)
  first_of (y ∷ ys) rest x t h e = head-eq_of_cons-eq e

  pub pass_triple : limit ≤ 65279 → (n : ℕ) (t : List ℕ)
      → frames_from limit n (255 ∷ 255 ∷ 255 ∷ t) ≡ frames_from limit (suc n) (255 ∷ 255 ∷ t)
  pass_triple small n t =
      pass n 255 (255 ∷ 255 ∷ t)
      (here_none limit (255 ∷ 255 ∷ 255 ∷ t)
      (λ b f. good_first b small f.good
      (first_of b f.rest 255 t (omega (arith, f.good.true_length))
      (sym (tail-eq_of_cons-eq (tail-eq_of_cons-eq f.bytes))))))

  pub pass_body : (b rest : List ℕ) (n : ℕ)
      → frames_from limit n (stuff b ++ rest) ≡ frames_from limit (n + length (stuff b)) rest
  unfolding stuff
  pass_body [] rest n = rw add-zero
  pass_body (x ∷ xs) rest n = go (eqb x 255) refl (λ m. pass_body xs rest m)
    where
      go : (t : Bool) → eqb x 255 ≡ t
          → ((m : ℕ) → frames_from limit m (stuff xs ++ rest) ≡ frames_from limit (m + length (stuff xs)) rest)
          → frames_from limit n (x ∷ stuff_after t (stuff xs) ++ rest)
          ≡ frames_from limit (n + suc (length (stuff_after t (stuff xs)))) rest
      go true e ih =
          pass_pair n x 85 (stuff xs ++ rest) (omega arith)
          ∙ pass_other (suc n) 85 (stuff xs ++ rest) (omega arith) ∙ ih (suc (suc n))
          ∙ ap (λ (k : ℕ). frames_from limit k rest) (omega arith)
      go false e ih =
          pass_other n x (stuff xs ++ rest) (eqb-false x 255 e) ∙ ih (suc n)
          ∙ ap (λ (k : ℕ). frames_from limit k rest) (omega arith)

  pub after_header : (b rest : List ℕ) (n : ℕ) → 1 ≤ length b → get_or b 0 0 ≢ 255
      → frames_from limit (suc n) (255 ∷ stuff b ++ rest) ≡ frames_from limit (n + length (wire b)) rest
  unfolding stuff
  after_header [] rest n h k = absurd (omega arith)
  after_header (x ∷ xs) rest n h k =
      pass_pair (suc n) 255 x (stuff_after (eqb x 255) (stuff xs) ++ rest) k ∙ pass_body (x ∷ xs) rest (suc (suc n))
      ∙ ap (λ (k : ℕ). frames_from limit k rest) (omega arith)

  pub pass_wire : (b rest : List ℕ) (n : ℕ) → 1 ≤ length b → get_or b 0 0 ≢ 255 → here limit (wire b ++ rest) ≡ none
      → frames_from limit n (wire b ++ rest) ≡ frames_from limit (n + length (wire b)) rest
  pass_wire b rest n h k e = pass n 255 (255 ∷ stuff b ++ rest) e ∙ after_header b rest n h k

  pub take-wire : (b rest : List ℕ) (n : ℕ) → 1 ≤ length b → get_or b 0 0 ≢ 255 → Good limit b
      → frames_from limit n (wire b ++ rest) ≡ record { start = n; end = n + length (wire b); body = b }
      ∷ frames_from limit (n + length (wire b)) rest
  unfolding frames_from
  take-wire b rest n h k g =
      rw (
        here_some limit (wire b ++ rest) b (record { rest = rest; bytes = refl; good = g }),
        after_header b rest n h k,
      )

  -- ---- a body that is not complete, or is refused

  -- a body that is shorter than its length, followed by bytes with which no stuffed body goes on
  unfinished : (b rest z b' : List ℕ)
      → length b < length_of b + 2 → Good limit b' → stuff b' ++ rest ≡ stuff b ++ z → Longer b b' rest z
  unfinished b rest z b' h g e = go (compare_bodies b' b rest z e)
    where
      go : ((c : List ℕ) × (b ≡ b' ++ c)) ⊎ Longer b b' rest z → Longer b b' rest z
      go (inl r) =
          let l : length_of b ≡ length_of b' = rw r.1 (length_of-append b' r.0 (omega (arith, g.true_length))) in
          let k : length b ≡ length b' + length r.0 = rw r.1 (length-append b' r.0) in
          absurd (omega (arith, g.true_length))
      go (inr r) = r

  bytes_of : (b z b' : List ℕ) (f : FrameHere limit (wire b ++ z) b') → stuff b' ++ f.rest ≡ stuff b ++ z
  bytes_of b z b' f = sym (tail-eq_of_cons-eq (tail-eq_of_cons-eq f.bytes))

  longer_of : (b z b' : List ℕ)
      → length b < length_of b + 2 → (f : FrameHere limit (wire b ++ z) b') → Longer b b' f.rest z
  longer_of b z b' h f = unfinished b f.rest z b' h f.good (bytes_of b z b' f)

  no_end : (first : ℕ) (more rest : List ℕ) → stuff (first ∷ more) ++ rest ≡ [] → ⊥
  unfolding stuff
  no_end first more rest e = cons≢nil e

  no_broken : (first : ℕ) (more rest : List ℕ) (x : ℕ) (t : List ℕ)
      → x ≢ 85 → stuff (first ∷ more) ++ rest ≡ 255 ∷ x ∷ t → ⊥
  unfolding stuff
  no_broken first more rest x t h e =
      let same : first ≡ 255 = head-eq_of_cons-eq e in
      h (sym (head-eq_of_cons-eq (rw same at (tail-eq_of_cons-eq e))))

  no_lone : (first : ℕ) (more rest : List ℕ) → stuff (first ∷ more) ++ rest ≡ 255 ∷ [] → ⊥
  unfolding stuff
  no_lone first more rest e =
      let same : first ≡ 255 = head-eq_of_cons-eq e in
      cons≢nil (rw same at (tail-eq_of_cons-eq e))

  pub none_end : (b : List ℕ) → length b < length_of b + 2 → here limit (wire b ++ []) ≡ none
  none_end b h =
      here_none limit (wire b ++ [])
      (λ b' f. let r = longer_of b [] b' h f in no_end r.first r.more f.rest r.left)

  pub none_lone : (b : List ℕ) → length b < length_of b + 2 → here limit (wire b ++ 255 ∷ []) ≡ none
  none_lone b h =
      here_none limit (wire b ++ 255 ∷ [])
      (λ b' f. let r = longer_of b (255 ∷ []) b' h f in no_lone r.first r.more f.rest r.left)

  pub none_broken : (b : List ℕ) (x : ℕ) (t : List ℕ)
      → length b < length_of b + 2 → x ≢ 85 → here limit (wire b ++ 255 ∷ x ∷ t) ≡ none
  none_broken b x t h k =
      here_none limit (wire b ++ 255 ∷ x ∷ t)
      (λ b' f. let r = longer_of b (255 ∷ x ∷ t) b' h f in no_broken r.first r.more f.rest x t k r.left)

  same_length : (b z b' : List ℕ) → 2 ≤ length b → FrameHere limit (wire b ++ z) b' → length_of b' ≡ length_of b
  same_length b z b' h f =
      let u : b' ++ unstuff false f.rest ≡ b ++ unstuff false z
      = sym (unstuff-stuff b' f.rest)
      ∙ ap (λ (t : List ℕ). unstuff false t) (bytes_of b z b' f) ∙ unstuff-stuff b z in
      sym (length_of-append b' (unstuff false f.rest) (omega (arith, f.good.true_length)))
      ∙ ap (λ (t : List ℕ). length_of t) u ∙ length_of-append b (unstuff false z) h

  pub none_short : (b z : List ℕ) → 2 ≤ length b → length_of b < 5 → here limit (wire b ++ z) ≡ none
  none_short b z h k = here_none limit (wire b ++ z) (λ b' f. omega (arith, same_length b z b' h f, f.good.shortest))

  pub none_long : (b z : List ℕ) → 2 ≤ length b → limit < length_of b → here limit (wire b ++ z) ≡ none
  none_long b z h k = here_none limit (wire b ++ z) (λ b' f. omega (arith, same_length b z b' h f, f.good.longest))

  pub none-sum : (b z : List ℕ) → length b ≡ length_of b + 2 → is_good limit b ≡ false → here limit (wire b ++ z) ≡ none
  unfolding here
  none-sum b z l e = rw (candidate_is b z l, starts_with_append (wire b) z, e)

kept_away : (limit : ℕ) → limit ≤ 65279 → (b : List ℕ) → Good limit b → (r : List ℕ) → wire b ≢ 255 ∷ 255 ∷ 255 ∷ r
kept_away limit small b g r e =
    good_first limit b small g (first_of limit b [] 255 r (omega (arith, g.true_length))
    (append-nil (stuff b) ∙ tail-eq_of_cons-eq (tail-eq_of_cons-eq e)))

two_readings : (r : List ℕ) → wire (255 ∷ r) ≡ 255 ∷ wire (85 ∷ r)
unfolding stuff
two_readings r = refl

pub why_widest : WhyWidest
why_widest = record { two_readings = two_readings; kept_away = kept_away }
