-- no_header_lost: a frame's start stays until the frame is decided. Assumes nothing.
use Rattle.std.proofs.Common.{◌≡◌, ℕ, ◌≤◌, Bool, true, false, cond, eqb, ◌≢◌, ◌⊎◌, List, [], ◌∷◌, ◌++◌, length}
use Rattle.std.proofs.Common.{get_or, sym, refl, ap, ◌∙◌, inl, inr, true≢false, arith, ne_eqb}
use mathlib.Core.List.Memᴰ
use mathlib.Core.List.{Memᴰ}
use lib.Seq.{get_or_at}
use Rattle.frame.specs.Rules.{body_byte_of, on_ff_in, on_other_in, advance_of, decides_of}
use Rattle.frame.specs.Calls.{next_of, fresh_of}
use Rattle.frame.specs.LogsComputed.{log_of}
use Rattle.frame.specs.Logs.{stream}
use Rattle.frame.specs.Decisions.{Decision, IsOpen}
use Rattle.frame.specs.StreamCorrect.{NoHeaderLost}
use Rattle.frame.specs.State.{Phase, Idle, Half, Header, Open, Escape, Scan, Step, State}
use Rattle.base.proofs.Tests.{by_test}
use Rattle.frame.proofs.Bodies.{Partial, partial_none, first_on, body_cases}
use Rattle.frame.proofs.Moves.{held, pending, origin_in, Inv, InvIn, moves}
use Rattle.frame.proofs.Fold.{decision_at, after_all, decided_all, after-append, decided-append, folded, kept}
use Rattle.frame.proofs.StreamCorrect.{fresh_holds}
use Rattle.frame.proofs.Deciding.{Deciding}
use Rattle.frame.proofs.Reading.{Between, At, read_header}
use Rattle.frame.proofs.Decisions.{from_fresh, Opened, pending_opens}

-- the phases of a frame with a body byte
abbrev Inside : Phase → Type 0
Inside Idle = ⊥
Inside Half = ⊥
Inside Header = ⊥
Inside Open = Unit {0}
Inside Escape = Unit {0}

-- a step of the frame that starts at st: it is decided, or goes on
abbrev Follows : ℕ → Step → Type 0
Follows st s = (decides_of s.event ≡ true) ⊎ (Inside s.scan.phase × (s.scan.start ≡ st))

-- a byte of the state r, by phase
module _ (limit : ℕ) (r : State) where
  abbrev b : List ℕ
  b = held r

  abbrev On : Step → Type 0
  On = Follows r.scan.start

  body_follows : (v : ℕ) → Partial limit r.scan.filled r.scan.length r.scan.sum b
      → get_or (b ++ v ∷ []) 0 0 ≢ 255
      → On (body_byte_of limit r.scan v)
  body_follows v p first = body_cases r.scan p v first On (λ k low q. inr (tt, refl)) (λ e q. inl refl)

  header_follows : (x : ℕ) → x ≢ 255 → InvIn limit Header r.scan b → On (body_byte_of limit r.scan x)
  header_follows x k i =
      let p = partial_none r.body i.1 i.2 in
      let e : get_or (b ++ x ∷ []) 0 0 ≡ x = get_or_at b x [] 0 0 (p.count ∙ i.1) in
      body_follows x p (λ j. k (sym e ∙ j))

  inside_follows : (x : ℕ) (f : Phase) → Inside f → InvIn limit f r.scan b
      → On (cond (eqb x 255) (on_ff_in f r.scan) (on_other_in f limit r.scan x))
  inside_follows x Idle n i = absurd n
  inside_follows x Half n i = absurd n
  inside_follows x Header n i = absurd n
  inside_follows x Open n i =
      by_test On (eqb x 255) (λ q. inr (tt, refl)) (λ q. body_follows x i.part (first_on i.part x i.some_byte))
  inside_follows x Escape n i =
      by_test On (eqb x 255) (λ q. inl refl)
      (λ q. by_test On (eqb x 85)
      (λ w. body_follows 255 i.part (first_on i.part 255 i.some_byte)) (λ w. inl refl))

-- a decision that starts at st is answered, or the frame is still open
abbrev Kept : ℕ → ℕ → State → List ℕ → Type 0
Kept limit st r xs =
    ((a : Decision) × (a.start ≡ st) × Memᴰ a (decided_all limit r xs))
    ⊎ (Inside (after_all limit r xs).scan.phase × ((after_all limit r xs).scan.start ≡ st))

module _ (limit : ℕ) where
  -- a step of the frame, followed by bytes that keep it
  step_on : (x : ℕ) (xs : List ℕ) (r : State)
      → (Inside (next_of limit r x).scan.phase → Kept limit (next_of limit r x).scan.start (next_of limit r x) xs)
      → Follows r.scan.start (advance_of limit r.scan x) → Kept limit r.scan.start r (x ∷ xs)
  unfolding decided_all after_all
  step_on x xs r rest f = go (decides_of (advance_of limit r.scan x).event) refl f
    where
      on : decides_of (advance_of limit r.scan x).event ≡ false → (next_of limit r x).scan.start ≡ r.scan.start
          → Kept limit (next_of limit r x).scan.start (next_of limit r x) xs → Kept limit r.scan.start r (x ∷ xs)
      on d s (inl w) = inl (w.0, w.1 ∙ s, (rw d w.2))
      on d s (inr w) = inr (w.0, w.1 ∙ s)

      go : (u : Bool) → decides_of (advance_of limit r.scan x).event ≡ u
          → Follows r.scan.start (advance_of limit r.scan x) → Kept limit r.scan.start r (x ∷ xs)
      go true d f = inl (decision_at limit r x, refl, (rw d (Memᴰ.head refl)))
      go false d (inl e) = absurd (true≢false (sym e ∙ d))
      go false d (inr w) = on d w.1 (rest w.0)

  module _ (small : limit ≤ 65279) where
    follows : (xs : List ℕ) (r : State) → Inv limit r → Inside r.scan.phase → Kept limit r.scan.start r xs
    unfolding decided_all after_all
    follows [] r i n = inr (n, refl)
    follows (x ∷ xs) r i n =
        step_on x xs r (λ k. follows xs (next_of limit r x) (moves limit small r x i).holds k)
        (inside_follows limit r x r.scan.phase n i.phase)

    -- a header that no FF follows
    header_kept : {st : ℕ} (x : ℕ) (xs : List ℕ) (r : State)
        → At limit st [] r → x ≢ 255 → Kept limit r.scan.start r (x ∷ xs)
    header_kept x xs r a k =
        step_on x xs r (λ n. follows xs (next_of limit r x) (moves limit small r x a.holds).holds n)
        (go r.scan.phase a.between a.holds.phase)
      where
        go : (f : Phase) → Between f → InvIn limit f r.scan (held r)
            → Follows r.scan.start (cond (eqb x 255) (on_ff_in f r.scan) (on_other_in f limit r.scan x))
        go Idle n i = absurd n
        go Half n i = absurd n
        go Header n i = rw (ne_eqb x 255 k) (header_follows limit r x k i)
        go Open n i = let none : length (held r) ≡ 0 = ap length a.held_is in absurd (omega (arith, i.some_byte))
        go Escape n i = absurd n

    -- the same after any bytes of a fresh reader
    from_before : (before after : List ℕ) (x : ℕ)
        → x ≢ 255 → Kept limit (length before) (fresh_of limit) (before ++ 255 ∷ 255 ∷ x ∷ after)
    from_before before after x k =
        let q : State = after_all limit (fresh_of limit) before in
        let there = kept limit small before (fresh_of limit) (fresh_holds limit) in
        let h : List ℕ = 255 ∷ 255 ∷ [] in
        let a : At limit q.scan.consumed [] (after_all limit q h) = read_header limit small q there.holds in
        let start : (after_all limit q h).scan.start ≡ length before = omega (arith, a.starts, there.place) in
        rw (
          after-append limit before (h ++ x ∷ after) (fresh_of limit),
          after-append limit h (x ∷ after) q,
          decided-append limit before (h ++ x ∷ after) (fresh_of limit),
          decided-append limit h (x ∷ after) q,
          ← start,
        )
        (wider (decided_all limit (fresh_of limit) before) (decided_all limit q h)
        (header_kept x after (after_all limit q h) a k))
      where
        wider : {A : Type 0} {st : ℕ} (u v : List Decision) {w : List Decision}
            → ((a : Decision) × (a.start ≡ st) × Memᴰ a w) ⊎ A
            → ((a : Decision) × (a.start ≡ st) × Memᴰ a (u ++ (v ++ w))) ⊎ A
        wider u v (inl p) = inl (p.0, p.1, Memᴰ.append_right u (Memᴰ.append_right v p.2))
        wider u v (inr p) = inr p

inside_opened : (f : Phase) (s : Scan) → Inside f → Opened f × (origin_in f s ≡ s.start)
inside_opened Idle s n = absurd n
inside_opened Half s n = absurd n
inside_opened Header s n = absurd n
inside_opened Open s n = (tt, refl)
inside_opened Escape s n = (tt, refl)

module _ (limit : ℕ) (small : limit ≤ 65279) where
  decided_or_open : (xs : List ℕ) (st : ℕ) → Kept limit st (fresh_of limit) xs
      → ((a : Decision) × (a.start ≡ st) × Memᴰ a (decided_all limit (fresh_of limit) xs)) ⊎ IsOpen limit xs st
  decided_or_open xs st (inl w) = inl w
  decided_or_open xs st (inr p) =
      let q : State = after_all limit (fresh_of limit) xs in
      let w : Deciding limit (fresh_of limit) [] xs = from_fresh limit small xs in
      let o = inside_opened q.scan.phase q.scan p.0 in
      inr (record {
        before = w.front;
        raw = pending q;
        bytes = w.bytes;
        starts = sym (w.place ∙ o.1 ∙ p.1);
        opens = pending_opens limit q.scan.phase q.scan (held q)
            (kept limit small xs (fresh_of limit) (fresh_holds limit)).holds.phase o.0;
      })

pub no_header_lost : NoHeaderLost
no_header_lost limit small calls before after x e k =
    rw (folded limit calls (fresh_of limit)).decisions
    (decided_or_open limit small (stream (log_of limit (fresh_of limit) calls)) (length before)
    (rw e (from_before limit small before after x k)))
