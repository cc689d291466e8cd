-- Laws of the reader: of one byte, of a run of bytes, and of a state in range. Assumes nothing.
use Rattle.std.proofs.Common.{◌≡◌, ℕ, ◌+◌, ◌-◌, ◌*◌, ◌^◌, ◌<◌, ◌≤◌, true, false, eqb, ltb, leb, List, [], ◌∷◌, length}
use Rattle.std.proofs.Common.{get_or, drop, ◌∙◌, add-one, arith, drop-cons, ltb-false, eqb-true, leb-true}
use lib.Seq.{drop-length}
use Rattle.base.specs.Rows.{row}
use Rattle.frame.specs.Rules.{Ready, in_range_of, completed_of, body_byte_of, on_ff_in, on_other_in, advance_of}
use Rattle.frame.specs.Rules.{decides_of}
use Rattle.frame.specs.Rules.{max_consumed, max_filled, put_of}
use Rattle.frame.specs.Table.{event_row}
use Rattle.base.specs.Outcomes.{outcome}
use Rattle.frame.specs.Calls.{run_of}
use Rattle.frame.specs.State.{Phase, Idle, Half, Header, Open, Escape, Scan, Step, State}
use Rattle.base.proofs.Tests.{by_test, both}

-- ---- one byte

module _ {limit : ℕ} {s : Scan} (n : ℕ) (h : Ready limit s (n + 1)) where
  abbrev Kept : Step → Type 0
  Kept t = Ready limit t.scan n

  kept_completed : (v : ℕ) → Kept (completed_of s v)
  kept_completed v = by_test Kept (eqb v s.sum) (λ _. omega arith) λ _. omega arith

  -- a fact that `omega` reads is named
  kept_body : (v : ℕ) → Kept (body_byte_of limit s v)
  kept_body v =
      by_test Kept (eqb s.filled 0) (λ none. omega (arith, eqb-true))
      λ _. by_test Kept (eqb s.filled 1)
      (λ one. by_test Kept (ltb (s.length * 256 + v) 5) (λ _. omega arith)
      λ shortest. by_test Kept (ltb limit (s.length * 256 + v)) (λ _. omega arith)
      λ longest. omega (arith, eqb-true, ltb-false))
      λ _. by_test Kept (ltb s.length s.filled) (λ _. kept_completed v)
      λ _. by_test Kept (ltb limit s.filled) (λ _. kept_completed v) λ within. omega (arith, ltb-false)

  kept_ff : (p : Phase) → Kept (on_ff_in p s)
  kept_ff Idle = omega arith
  kept_ff Half = omega arith
  kept_ff Header = omega arith
  kept_ff Open = omega arith
  kept_ff Escape = omega arith

  kept_other : (p : Phase) (x : ℕ) → Kept (on_other_in p limit s x)
  kept_other Idle x = omega arith
  kept_other Half x = omega arith
  kept_other Header x = kept_body x
  kept_other Open x = kept_body x
  kept_other Escape x = by_test Kept (eqb x 85) (λ _. kept_body _) λ _. omega arith

  -- a byte uses one place of the room left, and leaves the state in range
  pub kept : (x : ℕ) → Ready limit (advance_of limit s x).scan n
  kept x = by_test Kept (eqb x 255) (λ _. kept_ff s.phase) λ _. kept_other s.phase x

-- ---- a run of bytes

-- a call that began with the reader r₀ has consumed i bytes, which decided nothing, and has the reader r and room for
-- the rest
pub record At (limit : ℕ) (bytes : List ℕ) (r₀ : State) (i : ℕ) (r : State) : Type 0 where
  pub within : i ≤ length bytes
  pub room : Ready limit r.scan (length bytes - i)
  pub same : run_of limit bytes 0 r₀ ≡ run_of limit (drop i bytes) i r

next_byte : (bytes : List ℕ) (i : ℕ) → i < length bytes → drop i bytes ≡ get_or bytes i 0 ∷ drop (i + 1) bytes
next_byte bytes i h = rw (add-one, drop-cons bytes i 0)

module _ {limit : ℕ} {bytes : List ℕ} {r₀ r : State} {i : ℕ} (at : At limit bytes r₀ i r) where
  -- all bytes are consumed: the answer is MORE
  pub run_end : i ≡ length bytes → run_of limit bytes 0 r₀ ≡ outcome (row 0 (i ∷ [])) r
  unfolding run_of
  run_end e = at.same ∙ rw (e, drop-length)

  module _ (h : i < length bytes) {step : Step} {body : List ℕ} (e : step ≡ advance_of limit r.scan (get_or bytes i 0))
      (f : body ≡ put_of step.put r.body r.scan.filled step.byte) where
    abbrev after : State
    after = record { scan = step.scan; body = body }

    -- the next byte decides nothing: the run goes on after it
    pub run_on : decides_of step.event ≡ false → At limit bytes r₀ (i + 1) after
    unfolding run_of
    run_on q =
        let room : Ready limit r.scan (length bytes - (i + 1) + 1) = omega (arith, at.room) in
        record {
          within = omega arith;
          room = rw e (kept _ room (get_or bytes i 0));
          same = at.same ∙ rw (next_byte bytes i h) (simp (← e, q, f));
        }

    -- the next byte decides: the run stops after it
    pub run_stop : decides_of step.event ≡ true
        → run_of limit bytes 0 r₀
        ≡ outcome (event_row step.event (i + 1) r.scan.start step.scan.consumed) after
    unfolding run_of
    run_stop q = at.same ∙ rw (next_byte bytes i h) (simp (← e, q, f))

-- ---- a state in range

-- a state in range, with room for what may still be consumed
pub is_in_range : (limit : ℕ) (s : Scan) → limit ≤ 65279 → in_range_of limit s ≡ true
    → Ready limit s (2 ^ 62 - s.consumed)
is_in_range limit s l e =
    let ranges = both (leb s.consumed max_consumed) e in
    let consumed : s.consumed ≤ max_consumed = leb-true _ _ ranges.0 in
    let filled : s.filled ≤ max_filled limit = leb-true _ _ ranges.1 in
    record { room = omega arith; inside = omega arith; small = l }
