-- Each decision answered is one of the stream, in order of rising start, and the pending bytes are the stream's end.
-- Assumes nothing.
use Rattle.std.proofs.Common.{◌≡◌, ℕ, ◌+◌, ◌<◌, ◌≤◌, Bool, true, false, cond, eqb, ◌≢◌, ◌⊎◌, List, [], ◌∷◌, ◌++◌}
use Rattle.std.proofs.Common.{length, get_or, take, sym, refl, ap, ◌∙◌, inl, inr, true≢false, append_assoc, append-nil}
use Rattle.std.proofs.Common.{arith, length-append, eqb-true}
use mathlib.Core.List.Memᴰ
use mathlib.Core.List.{Memᴰ}
use lib.Seq.{get_or_at}
use borrow.Author.Tests.{eqb-false}
use Rattle.frame.specs.Wire.{wire, length_of}
use Rattle.frame.specs.Frames.{front_body}
use Rattle.frame.specs.Decisions.{Breaks, Decides, is_frame_lem, is_short, is_long, is_stuff, is_stuff_late, is_cut}
use Rattle.frame.specs.Decisions.{is_sum, Decision, IsDecision, DecisionsFrom}
use Rattle.frame.specs.Logs.{body_held}
use Rattle.frame.specs.Table.{verdict_number, verdict_values}
use Rattle.frame.specs.Rules.{body_byte_of, broken_of, on_ff_in, on_other_in, advance_of, decides_of, put_of}
use Rattle.frame.specs.Calls.{next_of}
use Rattle.frame.specs.State.{Phase, Idle, Half, Header, Open, Escape, Scan, Step, State, Event, Quiet}
use Rattle.frame.specs.declared.scan.Verdict.{Verdict}
use Rattle.base.proofs.Tests.{by_test}
use Rattle.frame.proofs.Moves.{held, pending, pending_in, origin, origin_in, Inv, InvIn, after, moves, wire_snoc}
use Rattle.frame.proofs.Moves.{wire_ff, wire_none, wire_wait}
use Rattle.frame.proofs.Bodies.{Partial, partial_none, first_on, Ends, ends_frame, ends_short, ends_long}
use Rattle.frame.proofs.Bodies.{ends_sum, unfinished_of, whole_held, body_cases, broken_cases}
use Rattle.frame.proofs.Puts.{stored}
use Rattle.frame.proofs.Fold.{event_code, event_values, decision_at, after_all, decided_all}

-- the bytes `raw`, from place o on, for which e is decided; `gone` are those that are not pending any more
pub record Answered (limit o : ℕ) (raw gone : List ℕ) (r : State) (e : Event) (held : List ℕ) : Type 0 where
  pub decides : Decides limit raw (event_code e) (event_values e) (body_held (event_code e) held)
  pub starts : r.scan.start ≡ o
  pub rises : 1 ≤ length gone

-- a step on the last of the bytes `raw`
pub record Shows (limit o : ℕ) (raw : List ℕ) (r : State) (s : Step) : Type 0 where
  pub gone : List ℕ
  pub bytes : raw ≡ gone ++ pending (after r s)
  pub decision : decides_of s.event ≡ true → Answered limit o raw gone r s.event (after r s).body

-- a byte that decides nothing
quiet : {limit o : ℕ} {raw : List ℕ} {r : State} {s : Step}
    → s.event ≡ Quiet → (gone : List ℕ) → raw ≡ gone ++ pending (after r s) → Shows limit o raw r s
quiet q gone e = record { gone = gone; bytes = e; decision = λ d. absurd (true≢false (sym d ∙ ap decides_of q)) }

-- the bytes `raw` end in this verdict
abbrev Ending : ℕ → List ℕ → Verdict → List ℕ → Type 0
Ending limit raw e held = Decides limit raw (verdict_number e) (verdict_values e) (body_held (verdict_number e) held)

body_decides : (limit : ℕ) (b held : List ℕ) {raw : List ℕ} {e : Verdict}
    → Ends limit b e → raw ≡ wire b → (length b ≡ length_of b + 2 → front_body held ≡ b) → Ending limit raw e held
body_decides limit b held (ends_frame g) q w = is_frame_lem b refl refl (w g.true_length) q g
body_decides limit b held (ends_short n l) q w = is_short b refl refl refl q n l
body_decides limit b held (ends_long n f five l) q w = is_long b refl refl refl q n f five l
body_decides limit b held (ends_sum s) q w = is_sum b refl refl (w s.true_length) q s

-- a byte of the state r, by phase
module _ (limit : ℕ) (r : State) (room : length r.body ≡ limit + 2) (inside : r.scan.filled ≤ limit + 1) where
  abbrev b : List ℕ
  b = held r

  abbrev ShowsFrom : Phase → ℕ → Step → Type 0
  ShowsFrom f x s = Shows limit (origin_in f r.scan) (pending_in f b ++ x ∷ []) r s

  body_shows : (raw : List ℕ) (v : ℕ)
      → Partial limit r.scan.filled r.scan.length r.scan.sum b → get_or (b ++ v ∷ []) 0 0 ≢ 255
      → raw ≡ wire (b ++ v ∷ []) → Shows limit r.scan.start raw r (body_byte_of limit r.scan v)
  body_shows raw v p first e =
      let h : ℕ = r.scan.filled in
      body_cases r.scan p v first (Shows limit r.scan.start raw r)
      (λ k low q. quiet refl [] (rw (stored r.body h v (omega arith)) e))
      (λ e' q. record {
        gone = raw;
        bytes = sym (append-nil raw);
        decision = λ d. record {
          decides =
              body_decides limit (b ++ v ∷ []) (put_of true r.body h v) q e
              (whole_held r.body h v (omega arith));
          starts = refl;
          rises = omega (arith, ap length e);
        };
      })

  ff_shows : (f : Phase) → InvIn limit f r.scan b → ShowsFrom f 255 (on_ff_in f r.scan)
  ff_shows Idle i = quiet refl [] refl
  ff_shows Half i = quiet refl [] refl
  ff_shows Header i = quiet refl (255 ∷ []) refl
  ff_shows Open i = quiet refl [] refl
  ff_shows Escape i =
      record {
        gone = wire b;
        bytes = wire_wait b (255 ∷ []);
        decision = λ d. record {
          decides = is_cut b refl refl refl (wire_wait b (255 ∷ []))
              (unfinished_of i.part i.some_byte);
          starts = refl;
          rises = omega arith;
        };
      }

  -- broken stuffing, by the count of body bytes
  broken_decides : (x : ℕ) (held : List ℕ) → InvIn limit Escape r.scan b → x ≢ 85 → x ≢ 255
      → Ending limit ((wire b ++ 255 ∷ []) ++ x ∷ []) (broken_of r.scan.filled x) held
  broken_decides x held i k n =
      let broken : Breaks limit ((wire b ++ 255 ∷ []) ++ x ∷ []) b x = record {
        bytes = wire_wait b (x ∷ []);
        unfinished = unfinished_of i.part i.some_byte;
        not_stuffed = k;
        not_header = n;
      } in
      broken_cases (λ (e : Verdict). Ending limit ((wire b ++ 255 ∷ []) ++ x ∷ []) e held) r.scan.filled x
      (λ early. is_stuff b x refl refl refl broken (rw i.part.count early))
      (λ late. is_stuff_late b x refl refl refl broken (rw i.part.count late))

  other_shows : (x : ℕ) → x ≢ 255 → (f : Phase) → InvIn limit f r.scan b
      → ShowsFrom f x (on_other_in f limit r.scan x)
  other_shows x k Idle i = quiet refl (x ∷ []) refl
  other_shows x k Half i = quiet refl (255 ∷ x ∷ []) refl
  other_shows x k Header i =
      let p = partial_none r.body i.1 i.2 in
      let none_yet : b ≡ [] = ap (λ (j : ℕ). take j r.body) i.1 in
      let e : get_or (b ++ x ∷ []) 0 0 ≡ x = get_or_at b x [] 0 0 (p.count ∙ i.1) in
      body_shows (255 ∷ 255 ∷ x ∷ []) x p (λ q. k (sym e ∙ q))
      (ap (λ (j : List ℕ). j ++ x ∷ []) (sym (wire_none none_yet)) ∙ sym (wire_snoc b x [] k)
      ∙ append-nil (wire (b ++ x ∷ [])))
  other_shows x k Open i =
      body_shows (wire b ++ x ∷ []) x i.part (first_on i.part x i.some_byte)
      (sym (wire_snoc b x [] k) ∙ append-nil (wire (b ++ x ∷ [])))
  other_shows x k Escape i =
      by_test (ShowsFrom Escape x) (eqb x 85)
      (λ q.
      body_shows ((wire b ++ 255 ∷ []) ++ x ∷ []) 255 i.part (first_on i.part 255 i.some_byte)
      (rw (eqb-true x 85 q) (wire_wait b (85 ∷ []) ∙ sym (wire_ff b []) ∙ append-nil (wire (b ++ 255 ∷ [])))))
      (λ q.
      record {
        gone = (wire b ++ 255 ∷ []) ++ x ∷ [];
        bytes = sym (append-nil ((wire b ++ 255 ∷ []) ++ x ∷ []));
        decision = λ d. record {
          decides = broken_decides x r.body i (eqb-false x 85 q) k;
          starts = refl;
          rises = omega arith;
        };
      })

-- ---- all bytes of a reader that calls can reach

place_in : (limit : ℕ) (f : Phase) (s : Scan) (b : List ℕ)
    → InvIn limit f s b → s.consumed ≡ origin_in f s + length (pending_in f b)
place_in limit Idle s b i = omega arith
place_in limit Half s b i = omega arith
place_in limit Header s b i = i.0
place_in limit Open s b i = i.place
place_in limit Escape s b i = omega (arith, i.place, length-append (wire b) (255 ∷ []))

-- decisions that start at n or later, after one that starts at m < n, if t
module _ {P : Decision → Type 0} (a : Decision) (ls : List Decision) {m n : ℕ}
    (each : (l : Decision) → Memᴰ l ls → P l) (low : m ≤ n) (rise : DecisionsFrom n ls) where
  from_lower : (ls : List Decision) (k : ℕ) → k ≤ n → DecisionsFrom n ls → DecisionsFrom k ls
  from_lower [] k h p = tt
  from_lower (l ∷ ls) k h p = (omega (arith, p.0), p.1)

  with_decision : (t : Bool) → (t ≡ true → P a × (a.start ≡ m) × (m < n))
      → ((l : Decision) → Memᴰ l (cond t (a ∷ ls) ls) → P l) × DecisionsFrom m (cond t (a ∷ ls) ls)
  with_decision true h =
      let first : P a × (a.start ≡ m) × (m < n) = h refl in (
        (λ l k. go first.0 l (Memᴰ.cases_cons k)),
        (omega (arith, first.1), from_lower ls (a.start + 1) (omega (arith, first.1, first.2)) rise),
      )
    where
      go : P a → (l : Decision) → (l ≡ a) ⊎ Memᴰ l ls → P l
      go p l (inl q) = rw q p
      go p l (inr k) = each l k
  with_decision false h = (each, from_lower ls m low rise)

regroup : (before p gone q xs : List ℕ) (x : ℕ)
    → p ++ x ∷ [] ≡ gone ++ q → before ++ (p ++ x ∷ xs) ≡ (before ++ gone) ++ (q ++ xs)
regroup before p gone q xs x e =
    ap (λ (k : List ℕ). before ++ k) (sym (append_assoc p (x ∷ []) xs) ∙ ap (λ (k : List ℕ). k ++ xs) e
    ∙ append_assoc gone q xs) ∙ sym (append_assoc before gone (q ++ xs))

-- the bytes xs, of a reader whose pending bytes follow the bytes `before`
pub record Deciding (limit : ℕ) (r : State) (before xs : List ℕ) : Type 0 where
  pub sound : (l : Decision) → Memᴰ l (decided_all limit r xs) → IsDecision limit (before ++ (pending r ++ xs)) l
  pub rising : DecisionsFrom (origin r) (decided_all limit r xs)
  pub front : List ℕ
  pub bytes : before ++ (pending r ++ xs) ≡ front ++ pending (after_all limit r xs)
  pub place : length front ≡ origin (after_all limit r xs)

module _ (limit : ℕ) (small : limit ≤ 65279) where
  shows : (r : State) (x : ℕ)
      → Inv limit r → Shows limit (origin r) (pending r ++ x ∷ []) r (advance_of limit r.scan x)
  shows r x i =
      by_test (ShowsFrom limit r i.room i.inside r.scan.phase x) (eqb x 255)
      (λ q. rw (eqb-true x 255 q) (ff_shows limit r i.room i.inside r.scan.phase i.phase))
      (λ q. other_shows limit r i.room i.inside x (eqb-false x 255 q) r.scan.phase i.phase)

  place_of : (r : State) → Inv limit r → r.scan.consumed ≡ origin r + length (pending r)
  place_of r i = place_in limit r.scan.phase r.scan (held r) i.phase

  -- a byte x, followed by the bytes xs
  added_on : (x : ℕ) (xs : List ℕ) (r : State) (before : List ℕ) → length before ≡ origin r
      → (w : Shows limit (origin r) (pending r ++ x ∷ []) r (advance_of limit r.scan x))
      → (next_of limit r x).scan.consumed ≡ origin r + length (pending r ++ x ∷ [])
      → origin (next_of limit r x) ≡ origin r + length w.gone
      → Deciding limit (next_of limit r x) (before ++ w.gone) xs → Deciding limit r before (x ∷ xs)
  unfolding decided_all after_all
  added_on x xs r before at w end on rest =
      let left : before ++ (pending r ++ x ∷ xs) ≡ (before ++ w.gone) ++ (pending (next_of limit r x) ++ xs) =
      regroup before (pending r) w.gone (pending (next_of limit r x)) xs x w.bytes in
      let both =
      with_decision {P = λ (l : Decision). IsDecision limit (before ++ (pending r ++ x ∷ xs)) l}
      (decision_at limit r x) (decided_all limit (next_of limit r x) xs) {m = origin r}
      (λ l k. rw left (rest.sound l k)) (omega arith) rest.rising
      (decides_of (advance_of limit r.scan x).event)
      (λ d.
      let a : Answered limit (origin r) (pending r ++ x ∷ []) w.gone r (advance_of limit r.scan x).event
      (next_of limit r x).body = w.decision d in (
        record {
          before = before;
          raw = pending r ++ x ∷ [];
          after = xs;
          bytes = ap (λ (k : List ℕ). before ++ k) (sym (append_assoc (pending r) (x ∷ []) xs));
          starts = a.starts ∙ sym at;
          ends = omega arith;
          decides = a.decides;
        },
        a.starts,
        omega (arith, a.rises),
      )) in
      record { sound = both.0; rising = both.1; front = rest.front; bytes = left ∙ rest.bytes; place = rest.place }

  pub add_decision : (xs : List ℕ) (r : State)
      → Inv limit r → (before : List ℕ) → length before ≡ origin r → Deciding limit r before xs
  unfolding decided_all after_all
  add_decision [] r i before at =
      record {
        sound = λ l k. absurd (Memᴰ.not-nil k);
        rising = tt;
        front = before;
        bytes = ap (λ (k : List ℕ). before ++ k) (append-nil (pending r));
        place = at;
      }
  add_decision (x ∷ xs) r i before at =
      let m = moves limit small r x i in
      let w : Shows limit (origin r) (pending r ++ x ∷ []) r (advance_of limit r.scan x) = shows r x i in
      let q : State = next_of limit r x in
      let from : r.scan.consumed ≡ origin r + length (pending r) = place_of r i in
      let to : q.scan.consumed ≡ origin q + length (pending q) = place_of q m.holds in
      let end : q.scan.consumed ≡ origin r + length (pending r ++ x ∷ []) =
      omega (arith, m.one, length-append (pending r) (x ∷ [])) in
      let parts : length (pending r ++ x ∷ []) ≡ length w.gone + length (pending q) =
      ap length w.bytes ∙ length-append w.gone (pending q) in
      let on : origin q ≡ origin r + length w.gone = omega arith in
      added_on x xs r before at w end on
      (add_decision xs q m.holds (before ++ w.gone) (omega (arith, length-append before w.gone)))
