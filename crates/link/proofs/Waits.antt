-- Logs, entry by entry: the numbers used, what stands after a part of a log, and what waits after an accepted offer.
-- Assumes nothing.
use Rattle.std.proofs.Common.{◌≡◌, ℕ, suc, ◌+◌, ◌≤◌, Bool, true, false, cond, None, Some, List, [], ◌∷◌, ◌++◌}
use Rattle.std.proofs.Common.{length, sym}
use Rattle.std.proofs.Common.{refl, ap, ◌∙◌, true≢false, add-zero, add-one, arith}
use Rattle.base.proofs.Tests.{by_test}
use Rattle.link.specs.Sending.{Wait, waits_for, number_at}
use Rattle.link.specs.Calls.{link_of}
use Rattle.link.specs.Logs.{Call, Entry, accepted, repeated, ended, number_in, numbers_used, numbers_from}
use Rattle.link.specs.LogsComputed.{log_of}
use Rattle.link.specs.Logs.{sent_after, waits_after, none_ends, repeats_in, last_sent, due_ticks}
use Rattle.link.specs.declared.state.Link.{Link}
use Rattle.link.proofs.Moves.{wait_after, count_after, Shown, Ranges, Moved, moved}

-- one more or none, counted before or after
one_more : {A : Type 0} (size : A → ℕ) (t : Bool) (k : ℕ) (x y : A)
    → size y ≡ suc (size x) → cond t (k + 1) k + size x ≡ k + size (cond t y x)
one_more size true k x y e = omega arith
one_more size false k x y e = refl

-- neither the first entry ends a wait nor another
none_ends_lem : (t : Bool) {u : Bool} → cond t false u ≡ true → (t ≡ false) × (u ≡ true)
none_ends_lem true q = absurd (true≢false (sym q))
none_ends_lem false q = (refl, q)

-- where by the calls and answers nothing waits, the link is idle: so after an entry if so before it
idle_after_lem : (e : Entry) (w : Wait) (t a d : Bool) → accepted e ≡ a → ended e ≡ d → (t ≡ false → w ≡ None)
    → cond a true (cond d false t) ≡ false → wait_after e w ≡ None
idle_after_lem e w t true d p q i s = absurd (true≢false s)
idle_after_lem e w t false true p q i s = simp (p, q)
idle_after_lem e w t false false p q i s = rw (i s) (simp (p, q))

module _ (first max : ℕ) where
  -- the entries of a link that used k numbers, and of what waits in it
  abbrev pub Follows : ℕ → Wait → List Entry → Type 0
  Follows k w [] = Unit
  Follows k w (e ∷ es) = Moved first max k w e × Follows (count_after e k) (wait_after e w) es

  -- every log goes so
  pub followed : first ≤ 255 → (calls : List Call) (k : ℕ) (w : Wait) {l : Link}
      → l ≡ link_of (number_at first k) w → Ranges first max w
      → Follows k w (log_of first max l calls)
  unfolding log_of
  followed small [] k w e h = tt
  followed small (c ∷ calls) k w e h =
      let m = moved first max k small w c e h in (m, followed small calls _ _ m.after m.holds)

  -- ---- the numbers used

  -- the number that an entry uses is the k-th
  in_turn : (k : ℕ) (w : Wait) (e : Entry) → Shown first k e w → accepted e ≡ true → number_in e ≡ number_at first k
  in_turn k None e t a = t a
  in_turn k (Some w) e t a = absurd (true≢false (sym a ∙ t.0))

  -- those of a log come in order
  pub numbered : (k : ℕ) (w : Wait) (es : List Entry)
      → Follows k w es → numbers_used es ≡ numbers_from first k (length (numbers_used es))
  unfolding numbers_used numbers_from
  numbered k w [] f = refl
  numbered k w (e ∷ es) f =
      let rest = numbered (count_after e k) (wait_after e w) es f.1 in
      by_test (λ (l : List ℕ). l ≡ numbers_from first k (length l)) (accepted e)
      (λ a. rw (in_turn k w e f.0.shown a) (ap (λ (l : List ℕ). number_at first k ∷ l) (simp (a, add-one) at rest)))
      (λ a. simp a at rest)

  -- ---- a part of a log

  -- what stands after a part of a log; t is whether a command waits before it
  pub record Standing (k : ℕ) (t : Bool) (before rest : List Entry) : Type 0 where
    pub wait : Wait
    pub idle : waits_after t before ≡ false → wait ≡ None
    pub follows : Follows (k + length (numbers_used before)) wait rest

  -- every part of a log leaves such a standing
  pub stands : (k : ℕ) (w : Wait) (t : Bool) (before rest : List Entry)
      → (t ≡ false → w ≡ None) → Follows k w (before ++ rest) → Standing k t before rest
  unfolding numbers_used waits_after
  stands k w t [] rest i f = record { wait = w; idle = i; follows = rw add-zero f }
  stands k w t (e ∷ before) rest i f =
      let b = stands (count_after e k) (wait_after e w) (cond (accepted e) true (cond (ended e) false t)) before rest
      (idle_after_lem e w t _ _ refl refl i) f.1 in
      let count = one_more length (accepted e) k (numbers_used before) (number_in e ∷ numbers_used before) refl in
      record { wait = b.wait; idle = b.idle; follows = rw count at b.follows }

  -- ---- after an accepted offer, until the wait ends

  -- what entries that do not end a wait leave of it
  pub record Waited (k command number sent repeats : ℕ) (during rest : List Entry) : Type 0 where
    pub few : repeats + repeats_in during ≤ max
    pub each : due_ticks sent during ≡ repeats_in during
    pub alone : numbers_used during ≡ []
    pub follows : Follows k (waits_for command number (last_sent sent during) (repeats + repeats_in during)) rest

  -- they leave it so
  pub waited : (k command number sent repeats : ℕ) (during rest : List Entry)
      → Ranges first max (waits_for command number sent repeats)
      → Follows k (waits_for command number sent repeats) (during ++ rest) → none_ends during ≡ true
      → Waited k command number sent repeats during rest
  unfolding numbers_used none_ends repeats_in last_sent due_ticks
  waited k command number sent repeats [] rest h f q =
      record { few = omega (arith, h.1); each = refl; alone = refl; follows = rw add-zero f }
  waited k command number sent repeats (e ∷ during) rest h f q =
      let a : accepted e ≡ false = f.0.shown.0 in
      let n = none_ends_lem (ended e) q in
      let i =
      waited k command number (sent_after sent e) (cond (repeated e) (repeats + 1) repeats) during rest
      (simp (a, n.0) at f.0.holds) (simp (a, n.0) at f.1) n.1 in
      let count = one_more (λ (m : ℕ). m) (repeated e) repeats (repeats_in during) (suc (repeats_in during)) refl in
      record {
        few = rw count at i.few;
        each = rw (f.0.shown.1 n.0, i.each);
        alone = rw a i.alone;
        follows = rw count at i.follows;
      }
