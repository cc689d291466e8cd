-- The head at the front of a capture, or what is there instead. Assumes nothing.
use Prim.Native.Nat.{ℕ, zero, suc, ◌≤◌, ◌<◌}
use mathlib.Core.Path.{◌≡◌, sym, ap, ◌∙◌}
use mathlib.Core.List.{List, ◌++◌}
use native.Mathlib.Omega.{arith}
use borrow.Author.Tests.{ltb-true, ltb-false}
use lib.ListN.{length, get_or, drop, get_or-append}
use lib.Dec.{ltb}
use Rattle.base.proofs.Tests.{either_way}
use Rattle.capture.specs.Format.{mark, version, head}
use Rattle.capture.specs.Captures.{Begins}
use Rattle.capture.specs.Reading.{agrees}
use Rattle.capture.specs.ReadingExact.{HasMark, HasHead}
use Rattle.capture.proofs.Agreeing.{Same, Differs, same_of, differs_of, same_begins, not_front}

-- its first three bytes are the mark
pub mark_at : (i : ℕ) → i < 3 → get_or head i 0 ≡ get_or mark i 0
mark_at i h = get_or-append mark version 0 i h

pub same_mark : (b : List ℕ) → Same head b → Same mark b
same_mark b s i h k = s i (omega arith) k ∙ mark_at i h

-- a byte that is not the head's, behind the mark
pub mark_whole : (b : List ℕ) → Same mark b → (d : Differs head b) → 3 ≤ d.at
mark_whole b s d =
    either_way (ltb d.at 3)
    (λ t.
    let low : d.at < 3 = ltb-true d.at 3 t in
    absurd (d.other (s d.at low d.there ∙ sym (mark_at d.at low))))
    (λ t. ltb-false d.at 3 t)

module _ (c : List ℕ) where
  pub mark_begun : Same mark c → 3 ≤ length c → c ≡ mark ++ drop 3 c
  mark_begun s h = same_begins mark c s h

  pub head_begun : Same head c → 5 ≤ length c → c ≡ head ++ drop 5 c
  head_begun s h = same_begins head c s h

  -- both are there when the head is
  pub version_behind : (rest : List ℕ) → c ≡ mark ++ rest → Begins version rest → Begins head c
  version_behind rest e (more, q) = (more, e ∙ ap (λ (l : List ℕ). mark ++ l) q)

  pub version_lacks : (rest : List ℕ) → c ≡ mark ++ rest → (Begins version rest → ⊥) → Begins head c → ⊥
  version_lacks rest e none (more, q) =
      none (more, sym (ap (λ (l : List ℕ). drop 3 l) e) ∙ ap (λ (l : List ℕ). drop 3 l) q)

  pub short_mark : length c < 3 → Begins mark c → ⊥
  short_mark h (more, e) = omega (arith, ap length e)

  pub short_head : length c < 5 → Begins head c → ⊥
  short_head h (more, e) = omega (arith, ap length e)

  -- a capture has no mark, or no version, or a head
  pub begin_cases : {A : Type 0} → ((Begins mark c → ⊥) → A)
      → ((rest : List ℕ) → c ≡ mark ++ rest → (Begins version rest → ⊥) → A)
      → (c ≡ head ++ drop 5 c → A) → A
  begin_cases {A = A} no_mark no_version whole =
      let with_mark : Same mark c → 3 ≤ length c → (Begins head c → ⊥) → A =
      λ s h k. no_version (drop 3 c) (mark_begun s h) (λ v. k (version_behind (drop 3 c) (mark_begun s h) v)) in
      let so_far : Same head c → length c < 5 → A =
      λ s h. either_way (ltb (length c) 3) (λ t. no_mark (short_mark (ltb-true (length c) 3 t)))
      (λ t. with_mark (same_mark c s) (ltb-false (length c) 3 t) (short_head h)) in
      either_way (agrees head c)
      (λ t. either_way (ltb (length c) 5) (λ u. so_far (same_of head c t) (ltb-true (length c) 5 u))
      (λ u. whole (head_begun (same_of head c t) (ltb-false (length c) 5 u))))
      (λ t.
      let d = differs_of head c t in
      either_way (agrees mark c)
      (λ u.
      let s : Same mark c = same_of mark c u in
      with_mark s (omega (arith, mark_whole c s d, d.there)) (not_front head c d))
      (λ u. no_mark (not_front mark c (differs_of mark c u))))

-- ---- by the bytes at their places

mark_same : (c : List ℕ) → HasMark c → Same mark c
mark_same c m zero h k = m.first
mark_same c m (suc zero) h k = m.second
mark_same c m (suc (suc zero)) h k = m.third
mark_same c m (suc (suc (suc i))) h k = absurd (omega arith)

head_same : (c : List ℕ) → HasHead c → Same head c
head_same c m zero h k = m.mark.first
head_same c m (suc zero) h k = m.mark.second
head_same c m (suc (suc zero)) h k = m.mark.third
head_same c m (suc (suc (suc zero))) h k = m.high
head_same c m (suc (suc (suc (suc zero)))) h k = m.low
head_same c m (suc (suc (suc (suc (suc i))))) h k = absurd (omega arith)

module _ (c : List ℕ) where
  pub mark_of : HasMark c → Begins mark c
  mark_of m = (drop 3 c, mark_begun c (mark_same c m) m.bytes)

  pub has_mark : Begins mark c → HasMark c
  has_mark (rest, e) = record { bytes = rw e (omega arith); first = rw e; second = rw e; third = rw e }

  pub head_of : HasHead c → Begins head c
  head_of m = (drop 5 c, head_begun c (head_same c m) m.bytes)

  pub has_head : Begins head c → HasHead c
  has_head (rest, e) =
      record {
        mark = has_mark (version ++ rest, e);
        bytes = rw e (omega arith);
        high = rw e;
        low = rw e;
      }
