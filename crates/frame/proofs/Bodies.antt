-- One body byte of an open frame: the body goes on, or is complete, or is refused; never two of these. Assumes nothing.
use Rattle.std.proofs.Common.{◌≡◌, ℕ, ◌+◌, ◌*◌, ◌%◌, ◌^◌, ◌<◌, ◌≤◌, true, cond, eqb, ltb, ◌≢◌, List, [], ◌∷◌, ◌++◌}
use Rattle.std.proofs.Common.{length, get_or, take, sym, ap, ◌∙◌, subst, arith, length-append, length-take-le}
use Rattle.std.proofs.Common.{get_or-take, take_at, ltb-false, ltb-true, le-ltb, lt-ltb, eq-eqb, ne_eqb, eqb-true}
use lib.ListN.{get_or-append}
use lib.Seq.{get_or_at}
use borrow.Author.Tests.{eqb-false}
use Rattle.frame.specs.Wire.{length_of, head_size, found_sum, computed_sum, Good}
use Rattle.base.specs.Sums.{total, checksum}
use Rattle.frame.specs.Frames.{front_body}
use Rattle.frame.specs.Decisions.{Unfinished, WrongSum}
use Rattle.frame.specs.Rules.{grown_of, ended_of, completed_of, body_byte_of, broken_of, put_of}
use Rattle.frame.specs.declared.scan.Verdict.{Verdict}
use Rattle.frame.specs.declared.scan.Verdict.TheVariants.{Frame, Short, Long, Stuff, StuffLate, Sum}
use Rattle.frame.specs.State.{Scan, Step}
use Rattle.base.proofs.Tests.{by_test}
use Rattle.base.proofs.Sums.{checksum_snoc}
use Rattle.frame.proofs.Puts.{stored}
use Rattle.frame.proofs.Here.{length_of-append}

-- h, l and m are place, length and sum of a body that begins with b and is not complete
pub record Partial (limit h l m : ℕ) (b : List ℕ) : Type 0 where
  pub count : length b ≡ h
  pub summed : m ≡ checksum b
  pub high : h ≡ 1 → l ≡ get_or b 0 0
  pub known : 2 ≤ h → l ≡ length_of b
  pub first : get_or b 0 0 ≢ 255
  pub under : h < length_of b + 2
  pub bounds : 2 ≤ h → (5 ≤ length_of b) × (length_of b ≤ limit)

-- the verdict of a body b whose last byte decides
pub data Ends (limit : ℕ) (b : List ℕ) : Verdict → Type 0 where
  ends_frame : Good limit b → Ends limit b Frame
  ends_short : length b ≡ 2 → length_of b < 5 → Ends limit b Short
  ends_long : length b ≡ 2 → get_or b 0 0 ≢ 255 → 5 ≤ length_of b → limit < length_of b → Ends limit b Long
  ends_sum : WrongSum limit b → Ends limit b (Sum (found_sum b) (computed_sum b))

module _ (limit : ℕ) (b : List ℕ) where
  pub never_both : {e : Verdict} → Ends limit b e → Unfinished limit b → ⊥
  never_both (ends_frame g) u = omega (arith, g.true_length, u.under)
  never_both (ends_short n l) u = let two : 2 ≤ length b = omega arith in omega (arith, (u.bounds two).0)
  never_both (ends_long n f five l) u = let two : 2 ≤ length b = omega arith in omega (arith, (u.bounds two).1)
  never_both (ends_sum w) u = omega (arith, w.true_length, u.under)

  -- the only verdict that a body can end in
  abbrev ending : Verdict
  ending =
      cond (ltb (length_of b) 5) Short (cond (ltb limit (length_of b)) Long
      (cond (eqb (found_sum b) (computed_sum b)) Frame (Sum (found_sum b) (computed_sum b))))

  ends_in : {e : Verdict} → Ends limit b e → ending ≡ e
  ends_in (ends_frame g) =
      rw (
        le-ltb (length_of b) 5 g.shortest,
        le-ltb limit (length_of b) g.longest,
        eq-eqb (found_sum b) (computed_sum b) g.sum_holds,
      )
  ends_in (ends_short n l) = rw (lt-ltb (length_of b) 5 l)
  ends_in (ends_long n f five l) = rw (le-ltb (length_of b) 5 five, lt-ltb limit (length_of b) l)
  ends_in (ends_sum w) =
      rw (
        le-ltb (length_of b) 5 w.shortest,
        le-ltb limit (length_of b) w.longest,
        ne_eqb (found_sum b) (computed_sum b) w.sum_fails,
      )

  pub same_end : {d e : Verdict} → Ends limit b d → Ends limit b e → d ≡ e
  same_end p q = sym (ends_in p) ∙ ends_in q

pub unfinished_of : {limit h l m : ℕ} {b : List ℕ} → Partial limit h l m b → 1 ≤ length b → Unfinished limit b
unfinished_of p some =
    record {
      some_byte = some;
      first = p.first;
      under = rw p.count p.under;
      bounds = λ k. p.bounds (omega (arith, p.count));
    }

-- after a header there is no body byte yet
pub partial_none : {limit h l m : ℕ} (body : List ℕ) → h ≡ 0 → m ≡ 0 → Partial limit h l m (take h body)
unfolding total
partial_none body e s =
    rw (ap (λ (k : ℕ). take k body) e)
    (record {
      count = sym e;
      summed = s;
      high = λ k. absurd (omega arith);
      known = λ k. absurd (omega arith);
      first = λ k. omega arith;
      under = omega arith;
      bounds = λ k. absurd (omega arith);
    })

-- with one more byte
pub first_on : {limit h l m : ℕ} {b : List ℕ}
    → Partial limit h l m b → (v : ℕ) → 1 ≤ length b → get_or (b ++ v ∷ []) 0 0 ≢ 255
first_on {b} p v some = rw (get_or-append b (v ∷ []) 0 0 some) p.first

pub size : {limit h l m : ℕ} {b : List ℕ} → Partial limit h l m b → (v : ℕ) → length (b ++ v ∷ []) ≡ h + 1
size {b} p v = omega (arith, length-append b (v ∷ []), p.count)

-- a body that is complete with the byte v is the front that the reader holds
pub whole_held : (body : List ℕ) (h v : ℕ)
    → h < length body → length (take h body ++ v ∷ []) ≡ length_of (take h body ++ v ∷ []) + 2
    → front_body (put_of true body h v) ≡ take h body ++ v ∷ []
whole_held body h v k full =
    let b : List ℕ = put_of true body h v in
    let b' : List ℕ = take h body ++ v ∷ [] in
    let n : length b' ≡ h + 1 =
    omega (arith, length-append (take h body) (v ∷ []), length-take-le h body (omega arith)) in
    let a0 : get_or (take (h + 1) b) 0 0 ≡ get_or b 0 0 = get_or-take (h + 1) b 0 0 (omega arith) in
    let a1 : get_or (take (h + 1) b) 1 0 ≡ get_or b 1 0 = get_or-take (h + 1) b 1 0 (omega arith) in
    let e0 : get_or b' 0 0 ≡ get_or b 0 0 = rw (stored body h v k) at a0 in
    let e1 : get_or b' 1 0 ≡ get_or b 1 0 = rw (stored body h v k) at a1 in
    let all : length_of b + 2 ≡ h + 1 = omega arith in
    ap (λ (j : ℕ). take j b) all ∙ stored body h v k

-- a byte that breaks the stuffing, by the count of body bytes
pub broken_cases : (P : Verdict → Type 0) (filled x : ℕ) → (filled < head_size → P (Stuff x))
    → (head_size ≤ filled → P (StuffLate x)) → P (broken_of filled x)
broken_cases P filled x early late =
    by_test P (ltb filled head_size) (λ t. early (ltb-true filled head_size t))
    (λ t. late (ltb-false filled head_size t))

-- the byte v, after the body bytes b so far
module _ {limit : ℕ} {b : List ℕ} (s : Scan) (p : Partial limit s.filled s.length s.sum b) (v : ℕ)
    (first : get_or (b ++ v ∷ []) 0 0 ≢ 255) where
  abbrev h : ℕ
  h = s.filled

  abbrev grown : List ℕ
  grown = b ++ v ∷ []

  sum_on : (s.sum + v) % 2 ^ 8 ≡ checksum grown
  sum_on = ap (λ (k : ℕ). (k + v) % 256) p.summed ∙ checksum_snoc b v

  length_on : 2 ≤ h → length_of grown ≡ length_of b
  length_on k = length_of-append b (v ∷ []) (omega (arith, p.count))

  -- the length that the second byte makes known
  measured : h ≡ 1 → s.length * 256 + v ≡ length_of grown
  measured e =
      let a : get_or grown 0 0 ≡ get_or b 0 0 = get_or-append b (v ∷ []) 0 0 (omega (arith, p.count)) in
      let c : get_or grown 1 0 ≡ v = get_or_at b v [] 0 1 (p.count ∙ e) in
      omega (arith, p.high e)

  module _ (P : Step → Type 0)
      (continues : (k : ℕ) → h ≤ limit → Partial limit (h + 1) k ((s.sum + v) % 2 ^ 8) grown → P (grown_of s k v))
      (ends : (e : Verdict) → Ends limit grown e → P (ended_of s v e)) where
    completed : h ≡ length_of b + 1 → 2 ≤ h → P (completed_of s v)
    completed e two =
        let lo : length_of grown ≡ length_of b = length_on two in
        let full : length grown ≡ length_of grown + 2 = omega (arith, size p v) in
        let last : found_sum grown ≡ v = get_or_at b v [] 0 (length_of grown + 1) (omega (arith, p.count)) in
        let due : computed_sum grown ≡ s.sum =
        ap checksum (take_at b (v ∷ []) (length_of grown + 1) (omega (arith, p.count))) ∙ sym p.summed in
        let five : 5 ≤ length_of grown = omega (arith, (p.bounds two).0) in
        let longest : length_of grown ≤ limit = omega (arith, (p.bounds two).1) in
        by_test P (eqb v s.sum)
        (λ q. ends Frame (ends_frame (record {
          true_length = full;
          shortest = five;
          longest = longest;
          sum_holds = last ∙ eqb-true v s.sum q ∙ sym due;
        })))
        (λ q. subst (λ (k : ℕ). P (ended_of s v (Sum k s.sum))) last
        (subst (λ (k : ℕ). P (ended_of s v (Sum (found_sum grown) k))) due
        (ends (Sum (found_sum grown) (computed_sum grown)) (ends_sum (record {
          true_length = full;
          shortest = five;
          longest = longest;
          sum_fails = λ k. eqb-false v s.sum q (sym last ∙ k ∙ due);
        })))))

    pub body_cases : P (body_byte_of limit s v)
    body_cases =
        by_test P (eqb h 0)
        (λ a.
        let h0 : h ≡ 0 = eqb-true h 0 a in
        continues v (omega arith) (record {
          count = size p v;
          summed = sum_on;
          high = λ k. sym (get_or_at b v [] 0 0 (p.count ∙ h0));
          known = λ k. absurd (omega arith);
          first = first;
          under = omega arith;
          bounds = λ k. absurd (omega arith);
        }))
        (λ a. by_test P (eqb h 1)
        (λ c.
        let h1 : h ≡ 1 = eqb-true h 1 c in
        let l : ℕ = s.length * 256 + v in
        let e : l ≡ length_of grown = measured h1 in
        let two : length grown ≡ 2 = omega (arith, size p v) in
        by_test P (ltb l 5)
        (λ d. ends Short (ends_short two (rw e at (ltb-true l 5 d))))
        (λ d.
        let low : 5 ≤ length_of grown = rw e at (ltb-false l 5 d) in
        by_test P (ltb limit l)
        (λ f. ends Long (ends_long two first low (rw e at (ltb-true limit l f))))
        (λ f.
        let top : length_of grown ≤ limit = rw e at (ltb-false limit l f) in
        continues l (omega arith) (record {
          count = size p v;
          summed = sum_on;
          high = λ k. absurd (omega arith);
          known = λ k. e;
          first = first;
          under = omega arith;
          bounds = λ k. (low, top);
        }))))
        (λ c.
        let two : 2 ≤ h = omega (arith, eqb-false h 0 a, eqb-false h 1 c) in
        let known : s.length ≡ length_of b = p.known two in
        let lo : length_of grown ≡ length_of b = length_on two in
        by_test P (ltb s.length h)
        (λ d. completed (omega (arith, ltb-true s.length h d, p.under)) two)
        (λ d.
        let goes : h ≤ s.length = ltb-false s.length h d in
        by_test P (ltb limit h)
        (λ f. absurd (omega (arith, ltb-true limit h f, (p.bounds two).1)))
        (λ f. continues s.length (ltb-false limit h f) (record {
          count = size p v;
          summed = sum_on;
          high = λ k. absurd (omega arith);
          known = λ k. known ∙ sym lo;
          first = first;
          under = omega arith;
          bounds = λ k. rw lo (p.bounds two);
        })))))
