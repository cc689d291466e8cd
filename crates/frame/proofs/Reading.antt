-- Each decision of the stream is answered: from any reader, a header and the bytes that follow it lead to the deciding
-- byte. Assumes nothing.
use Rattle.std.proofs.Common.{◌≡◌, ℕ, ◌+◌, ◌<◌, ◌≤◌, Bool, true, false, eqb, ltb, ◌≢◌, List, [], ◌∷◌, ◌++◌, length}
use Rattle.std.proofs.Common.{get_or, take, sym, refl, ap, ◌∙◌, append_assoc, append-nil, arith, length-append}
use Rattle.std.proofs.Common.{ltb-false, ltb-true, le-ltb, lt-ltb, ne_eqb, eqb-true}
use mathlib.Core.List.Memᴰ
use mathlib.Core.List.{Memᴰ}
use lib.ListN.{get_or-append}
use lib.Seq.{get_or_at}
use Rattle.frame.specs.Wire.{stuff, wire, length_of, head_size, found_sum, computed_sum}
use Rattle.frame.specs.Decisions.{Unfinished, Breaks, Decides, is_frame_lem, is_short, is_long, is_stuff}
use Rattle.frame.specs.Decisions.{is_stuff_late, is_cut, is_sum, Decision}
use Rattle.frame.specs.Rules.{escape_of, body_byte_of, broken_of, advance_of, decides_of}
use Rattle.frame.specs.Calls.{next_of}
use Rattle.frame.specs.State.{Phase, Idle, Half, Header, Open, Escape, Scan, Step, State, Decided}
use Rattle.frame.specs.declared.scan.Verdict.{Verdict}
use Rattle.frame.specs.declared.scan.Verdict.TheVariants.{Frame, Short, Long, Stuff, StuffLate, Cut, Sum}
use Rattle.frame.proofs.Stuffing.{stuff-append}
use Rattle.frame.proofs.Here.{length_of-append}
use Rattle.frame.proofs.Skip.{good_first}
use Rattle.frame.proofs.Moves.{held, Inv, InvIn, after}
use Rattle.frame.proofs.Bodies.{Partial, partial_none, Ends, ends_frame, ends_short, ends_long, ends_sum}
use Rattle.frame.proofs.Bodies.{never_both, same_end, unfinished_of, body_cases}
use Rattle.frame.proofs.Puts.{stored}
use Rattle.frame.specs.Table.{verdict_number, verdict_values}
use Rattle.frame.proofs.Fold.{event_code, event_values, decision_at, after_all, decided_all, after-append}
use Rattle.frame.proofs.Fold.{decided-append, kept}

-- ---- fronts of bodies

module _ (limit : ℕ) (a c : List ℕ) (some : 1 ≤ length a) where
  front_of : get_or (a ++ c) 0 0 ≢ 255 → length a < length_of (a ++ c) + 2
      → (2 ≤ length a → (5 ≤ length_of (a ++ c)) × (length_of (a ++ c) ≤ limit)) → Unfinished limit a
  front_of first under bounds =
      let e : get_or (a ++ c) 0 0 ≡ get_or a 0 0 = get_or-append a c 0 0 some in
      record {
        some_byte = some;
        first = λ q. first (e ∙ q);
        under = under_of (ltb (length a) 2) refl;
        bounds = λ k. rw (length_of-append a c k) at (bounds k);
      }
    where
      under_of : (t : Bool) → ltb (length a) 2 ≡ t → length a < length_of a + 2
      under_of true q = omega (arith, ltb-true (length a) 2 q)
      under_of false q = omega (arith, length_of-append a c (ltb-false (length a) 2 q))

  front_unfinished : Unfinished limit (a ++ c) → Unfinished limit a
  front_unfinished u =
      let size : length (a ++ c) ≡ length a + length c = length-append a c in
      front_of u.first (omega (arith, u.under)) (λ k. u.bounds (omega arith))

ends_first : (limit : ℕ) → limit ≤ 65279 → (b : List ℕ) {e : Verdict} → Ends limit b e → get_or b 0 0 ≢ 255
ends_first limit small b (ends_frame g) = good_first limit b small g
ends_first limit small b (ends_short n l) = λ q. omega arith
ends_first limit small b (ends_long n f five l) = f
ends_first limit small b (ends_sum w) = λ q. omega (arith, w.longest)

-- the body before a last byte that decides
ends_front : (limit : ℕ) → limit ≤ 65279 → (a : List ℕ) (v : ℕ) {e : Verdict}
    → Ends limit (a ++ v ∷ []) e → Unfinished limit a
ends_front limit small a v p = go p (length-append a (v ∷ [])) (ends_first limit small (a ++ v ∷ []) p)
  where
    go : {e : Verdict} → Ends limit (a ++ v ∷ []) e → length (a ++ v ∷ []) ≡ length a + 1
        → get_or (a ++ v ∷ []) 0 0 ≢ 255 → Unfinished limit a
    go (ends_frame g) n f =
        front_of limit a (v ∷ []) (omega (arith, g.true_length, g.shortest)) f (omega (arith, g.true_length))
        (λ k. (g.shortest, g.longest))
    go (ends_short two l) n f =
        front_of limit a (v ∷ []) (omega arith) f (omega arith) (λ k. absurd (omega arith))
    go (ends_long two h five l) n f =
        front_of limit a (v ∷ []) (omega arith) f (omega arith) (λ k. absurd (omega arith))
    go (ends_sum w) n f =
        front_of limit a (v ∷ []) (omega (arith, w.true_length, w.shortest)) f (omega (arith, w.true_length))
        (λ k. (w.shortest, w.longest))

record Snoc (b : List ℕ) : Type 0 where
  front : List ℕ
  last : ℕ
  parts : b ≡ front ++ last ∷ []

snoc : (x : ℕ) (xs : List ℕ) → Snoc (x ∷ xs)
snoc x [] = record { front = []; last = x; parts = refl }
snoc x (y ∷ ys) =
    let s : Snoc (y ∷ ys) = snoc y ys in
    record { front = x ∷ s.front; last = s.last; parts = ap (λ (k : List ℕ). x ∷ k) s.parts }

-- ---- one body byte

-- the phases between two body bytes
abbrev pub Between : Phase → Type 0
Between Idle = ⊥
Between Half = ⊥
Between Header = Unit {0}
Between Open = Unit {0}
Between Escape = ⊥

-- a frame that starts at st is open, with the body bytes b
pub record At (limit st : ℕ) (b : List ℕ) (r : State) : Type 0 where
  pub holds : Inv limit r
  pub between : Between r.scan.phase
  pub held_is : held r ≡ b
  pub starts : r.scan.start ≡ st

-- before the last byte on the wire of the body byte v
record Due (limit : ℕ) (r : State) (v : ℕ) : Type 0 where
  pre : List ℕ
  last : ℕ
  split : stuff (v ∷ []) ≡ pre ++ last ∷ []
  q : State
  runs : after_all limit r pre ≡ q
  room : length q.body ≡ limit + 2
  part : Partial limit q.scan.filled q.scan.length q.scan.sum (held q)
  same : held q ≡ held r
  starts : q.scan.start ≡ r.scan.start
  step : advance_of limit q.scan last ≡ body_byte_of limit q.scan v

-- a state, by its phase
module _ (limit : ℕ) (r : State) (room : length r.body ≡ limit + 2) where
  abbrev b : List ℕ
  b = held r

  -- before a body byte of one byte on the wire
  due_alone : (v : ℕ) → eqb v 255 ≡ false → Partial limit r.scan.filled r.scan.length r.scan.sum b
      → advance_of limit r.scan v ≡ body_byte_of limit r.scan v → Due limit r v
  unfolding after_all stuff
  due_alone v other p e =
      record {
        pre = [];
        last = v;
        split = rw other;
        q = r;
        runs = refl;
        room = room;
        part = p;
        same = refl;
        starts = refl;
        step = e;
      }

  due_in : (f : Phase) → r.scan.phase ≡ f → Between f → InvIn limit f r.scan b → (v : ℕ)
      → get_or (b ++ v ∷ []) 0 0 ≢ 255 → Due limit r v
  unfolding after_all stuff
  due_in Idle is n i v first = absurd n
  due_in Half is n i v first = absurd n
  due_in Header is n i v first =
      let p = partial_none r.body i.1 i.2 in
      let e : get_or (b ++ v ∷ []) 0 0 ≡ v = get_or_at b v [] 0 0 (p.count ∙ i.1) in
      let no : eqb v 255 ≡ false = ne_eqb v 255 (λ q. first (e ∙ q)) in
      due_alone v no p (rw (no, is))
  due_in Open is n i v first = go (eqb v 255) refl
    where
      go : (u : Bool) → eqb v 255 ≡ u → Due limit r v
      go true e =
          let ff : v ≡ 255 = eqb-true v 255 e in
          record {
            pre = 255 ∷ [];
            last = 85;
            split = rw ff;
            q = record { scan = escape_of r.scan (r.scan.consumed + 1); body = r.body };
            runs = rw is;
            room = room;
            part = i.part;
            same = refl;
            starts = refl;
            step = rw ff;
          }
      go false e = due_alone v e i.part (rw (e, is))
  due_in Escape is n i v first = absurd n

  -- two FF make a header
  abbrev HeaderMade : State → Type 0
  HeaderMade q = (Between q.scan.phase) × (held q ≡ []) × (q.scan.start ≡ r.scan.consumed)

  header_in : (f : Phase) → r.scan.phase ≡ f → HeaderMade (after_all limit r (255 ∷ 255 ∷ []))
  unfolding after_all
  header_in Idle is = rw is (tt, refl, omega arith)
  header_in Half is = rw is (tt, refl, omega arith)
  header_in Header is = rw is (tt, refl, omega arith)
  header_in Open is = rw is (tt, refl, omega arith)
  header_in Escape is = rw is (tt, refl, omega arith)

  -- an FF of the body waits, after so many body bytes
  wait_in : (f : Phase) → r.scan.phase ≡ f → Between f → InvIn limit f r.scan b → 1 ≤ length b
      → ((next_of limit r 255).scan.phase ≡ Escape) × ((next_of limit r 255).scan.start ≡ r.scan.start)
      × ((next_of limit r 255).scan.filled ≡ length b)
  wait_in Idle is n i some = absurd n
  wait_in Half is n i some = absurd n
  wait_in Header is n i some =
      let none_yet : length b ≡ 0 = ap (λ (j : ℕ). length (take j r.body)) i.1 in absurd (omega arith)
  wait_in Open is n i some = rw is (refl, refl, sym i.part.count)
  wait_in Escape is n i some = absurd n

-- ---- to the deciding byte

-- before the last of the bytes `raw`, which decides e for the frame that starts at st
pub record Ready (limit : ℕ) (r : State) (raw : List ℕ) (st : ℕ) (e : Verdict) : Type 0 where
  pub pre : List ℕ
  pub last : ℕ
  pub parts : raw ≡ pre ++ last ∷ []
  pub starts : (after_all limit r pre).scan.start ≡ st
  pub event : (advance_of limit (after_all limit r pre).scan last).event ≡ Decided e

pub decision_path : {a a' b b' c c' : ℕ} {d d' e e' : List ℕ} → a ≡ a' → b ≡ b' → c ≡ c' → d ≡ d' → e ≡ e'
    → ◌≡◌ {A = Decision} (record { number = a; start = b; end = c; values = d; body = e })
    (record { number = a'; start = b'; end = c'; values = d'; body = e' })
decision_path p q w v u = λ j. record { number = p j; start = q j; end = w j; values = v j; body = u j }

ready_after : {limit : ℕ} {r : State} {raw : List ℕ} {st : ℕ} {e : Verdict} (c : List ℕ)
    → Ready limit (after_all limit r c) raw st e → Ready limit r (c ++ raw) st e
ready_after {limit} {r} c w =
    let there : after_all limit r (c ++ w.pre) ≡ after_all limit (after_all limit r c) w.pre =
    after-append limit c w.pre r in
    record {
      pre = c ++ w.pre;
      last = w.last;
      parts = ap (λ (k : List ℕ). c ++ k) w.parts ∙ sym (append_assoc c w.pre (w.last ∷ []));
      starts = rw there w.starts;
      event = rw there w.event;
    }

module _ (limit : ℕ) (small : limit ≤ 65279) where
  due : {st : ℕ} {b : List ℕ} {r : State} → At limit st b r → (v : ℕ) → get_or (b ++ v ∷ []) 0 0 ≢ 255 → Due limit r v
  due {st} {b} {r} a v first =
      due_in limit r a.holds.room r.scan.phase refl a.between a.holds.phase v (rw a.held_is first)

  step_on : {st : ℕ} {b : List ℕ} {r : State} → At limit st b r → (v : ℕ) → Unfinished limit (b ++ v ∷ [])
      → At limit st (b ++ v ∷ []) (after_all limit r (stuff (v ∷ [])))
  unfolding after_all
  step_on {st} {b} {r} a v u =
      let d : Due limit r v = due a v u.first in
      let q : State = d.q in
      let b_is : held q ≡ b = d.same ∙ a.held_is in
      let Goes : Step → Type 0 =
      λ (s : Step). Between s.scan.phase × (held (after q s) ≡ b ++ v ∷ []) × (s.scan.start ≡ st) in
      let g : Goes (advance_of limit q.scan d.last) =
      rw d.step
      (body_cases q.scan d.part v (rw b_is u.first) Goes
      (λ k low p. (
        tt,
        stored q.body q.scan.filled v (omega (
          arith,
          d.room,
        )) ∙ ap (λ (j : List ℕ). j ++ v ∷ []) b_is,
        d.starts ∙ a.starts,
      ))
      (λ e p. absurd (never_both limit (b ++ v ∷ []) (rw b_is at p) u))) in
      let there : after_all limit r (stuff (v ∷ [])) ≡ next_of limit q d.last =
      rw (d.split, after-append limit d.pre (d.last ∷ []) r, d.runs) in
      record {
        holds = (kept limit small (stuff (v ∷ [])) r a.holds).holds;
        between = rw there g.0;
        held_is = rw there g.1;
        starts = rw there g.2;
      }

  step_end : {st : ℕ} {b : List ℕ} {r : State}
      → At limit st b r → (v : ℕ) (e : Verdict) → Ends limit (b ++ v ∷ []) e → Ready limit r (stuff (v ∷ [])) st e
  step_end {st} {b} {r} a v e p =
      let first : get_or (b ++ v ∷ []) 0 0 ≢ 255 = ends_first limit small (b ++ v ∷ []) p in
      let d : Due limit r v = due a v first in
      let q : State = d.q in
      let b_is : held q ≡ b = d.same ∙ a.held_is in
      let shows : (advance_of limit q.scan d.last).event ≡ Decided e =
      rw d.step
      (body_cases q.scan d.part v (rw b_is first) (λ (s : Step). s.event ≡ Decided e)
      (λ k low w. absurd (never_both limit (b ++ v ∷ []) p (rw b_is at (unfinished_of w (omega (arith, w.count))))))
      (λ e' w. ap Decided (same_end limit (b ++ v ∷ []) (rw b_is at w) p))) in
      record {
        pre = d.pre;
        last = d.last;
        parts = d.split;
        starts = rw d.runs (d.starts ∙ a.starts);
        event = rw d.runs shows;
      }

  -- a stuffed body that decides nothing
  run : (c b : List ℕ) {st : ℕ} {r : State}
      → At limit st b r → Unfinished limit (b ++ c) → At limit st (b ++ c) (after_all limit r (stuff c))
  unfolding after_all stuff
  run [] b a u = rw (append-nil b) a
  run (v ∷ c) b {st} {r} a u =
      let whole : (b ++ v ∷ []) ++ c ≡ b ++ v ∷ c = append_assoc b (v ∷ []) c in
      let some : 1 ≤ length (b ++ v ∷ []) = omega (arith, length-append b (v ∷ [])) in
      let all : Unfinished limit ((b ++ v ∷ []) ++ c) = rw whole u in
      let next : At limit st (b ++ v ∷ []) (after_all limit r (stuff (v ∷ []))) =
      step_on a v (front_unfinished limit (b ++ v ∷ []) c some all) in
      rw (stuff-append (v ∷ []) c, after-append limit (stuff (v ∷ [])) (stuff c) r, ← whole)
      (run c (b ++ v ∷ []) next all)

  module _ (r : State) (i : Inv limit r) where
    abbrev st : ℕ
    st = r.scan.consumed

    pub read_header : At limit st [] (after_all limit r (255 ∷ 255 ∷ []))
    read_header =
        let g = header_in limit r i.room r.scan.phase refl in
        record { holds = (kept limit small (255 ∷ 255 ∷ []) r i).holds; between = g.0; held_is = g.1; starts = g.2 }

    pub read_body : (b : List ℕ) → Unfinished limit b → At limit st b (after_all limit r (wire b))
    read_body b u = rw (after-append limit (255 ∷ 255 ∷ []) (stuff b) r) (run b [] read_header u)

    pub read_ff : (b : List ℕ) → Unfinished limit b → ((after_all limit r (wire b ++ 255 ∷ [])).scan.phase ≡ Escape)
        × ((after_all limit r (wire b ++ 255 ∷ [])).scan.start ≡ st)
        × ((after_all limit r (wire b ++ 255 ∷ [])).scan.filled ≡ length b)
    unfolding after_all
    read_ff b u =
        let q : State = after_all limit r (wire b) in
        let a : At limit st b q = read_body b u in
        let w = wait_in limit q a.holds.room q.scan.phase refl a.between a.holds.phase
        (rw a.held_is u.some_byte) in
        rw (after-append limit (wire b) (255 ∷ []) r) (w.0, w.1 ∙ a.starts, w.2 ∙ ap length a.held_is)

    -- SHORT, LONG, FRAME and SUM
    body_ready : (b : List ℕ) (e : Verdict) → Ends limit b e → Ready limit r (wire b) st e
    body_ready b e p = go b (some_byte p) p
      where
        some_byte : {e : Verdict} → Ends limit b e → 1 ≤ length b
        some_byte (ends_frame g) = omega (arith, g.true_length)
        some_byte (ends_short n l) = omega arith
        some_byte (ends_long n f five l) = omega arith
        some_byte (ends_sum w) = omega (arith, w.true_length)

        go : (b : List ℕ) → 1 ≤ length b → Ends limit b e → Ready limit r (wire b) st e
        go [] n p = absurd (omega arith)
        go (x ∷ xs) n p =
            let s : Snoc (x ∷ xs) = snoc x xs in
            let a : List ℕ = s.front in
            let v : ℕ = s.last in
            let ends : Ends limit (a ++ v ∷ []) e = rw s.parts at p in
            let w : Ready limit (after_all limit r (wire a)) (stuff (v ∷ [])) st e =
            step_end (read_body a (ends_front limit small a v ends)) v e ends in
            rw (s.parts, stuff-append a (v ∷ [])) (ready_after (wire a) w)

    -- CUT, STUFF and STUFFLATE: the byte x that follows an FF that waits
    ff_ready : (b : List ℕ) (x : ℕ) (e : Verdict) → Unfinished limit b
        → ((s : Scan) → s.phase ≡ Escape → s.filled ≡ length b → (advance_of limit s x).event ≡ Decided e)
        → Ready limit r (wire b ++ 255 ∷ x ∷ []) st e
    ff_ready b x e u shows =
        let w = read_ff b u in
        record {
          pre = wire b ++ 255 ∷ [];
          last = x;
          parts = sym (append_assoc (wire b) (255 ∷ []) (x ∷ []));
          starts = w.1;
          event = shows (after_all limit r (wire b ++ 255 ∷ [])).scan w.0 w.2;
        }

    broken_ready : (b : List ℕ) (x : ℕ) (e : Verdict) {raw : List ℕ} → Breaks limit raw b x
        → broken_of (length b) x ≡ e → Ready limit r raw st e
    broken_ready b x e w is =
        rw w.bytes (ff_ready b x e w.unfinished
        (λ s f n. rw (ne_eqb x 255 w.not_header, f, ne_eqb x 85 w.not_stuffed, n) (ap Decided is)))

    -- the byte's decision is among those answered, with some body
    abbrev Shown : List ℕ → ℕ → List ℕ → Type 0
    Shown raw n values = (b : List ℕ)
        × Memᴰ (record { number = n; start = st; end = st + length raw; values = values; body = b })
        (decided_all limit r raw)

    shows : {raw : List ℕ} {n : ℕ} {values : List ℕ} (e : Verdict)
        → n ≡ verdict_number e → values ≡ verdict_values e → Ready limit r raw st e → Shown raw n values
    unfolding decided_all after_all
    shows {raw} {n} {values} e code carried w =
        let q : State = after_all limit r w.pre in
        let ev : (advance_of limit q.scan w.last).event ≡ Decided e = w.event in
        let yes : decides_of (advance_of limit q.scan w.last).event ≡ true = ap decides_of ev in
        let all : List ℕ = w.pre ++ w.last ∷ [] in
        let end : (next_of limit q w.last).scan.consumed ≡ st + length all
        = ap (λ (z : State). z.scan.consumed) (sym (after-append limit w.pre (w.last ∷ []) r))
        ∙ (kept limit small all r i).place in
        let b : List ℕ = (decision_at limit q w.last).body in
        let here : Memᴰ (record { number = n; start = st; end = st + length all; values = values; body = b })
        (decided_all limit q (w.last ∷ []))
        = rw yes (Memᴰ.head (decision_path (code ∙ sym (ap event_code ev)) (sym w.starts) (sym end)
        (carried ∙ sym (ap event_values ev)) refl)) in (
          b,
          (rw (
            w.parts,
            decided-append limit w.pre (w.last ∷ []) r,
          ) (Memᴰ.append_right (decided_all limit r w.pre) here)),
        )

    pub reads : {raw : List ℕ} {n : ℕ} {values body : List ℕ} → Decides limit raw n values body → Shown raw n values
    reads (is_frame_lem b n v h e g) = shows Frame n v (rw e (body_ready b Frame (ends_frame g)))
    reads (is_short b n v h e l k) = shows Short n v (rw e (body_ready b Short (ends_short l k)))
    reads (is_long b n v h e l f five k) = shows Long n v (rw e (body_ready b Long (ends_long l f five k)))
    reads (is_stuff b x n v h w early) =
        shows (Stuff x) n v (broken_ready b x (Stuff x) w (rw (lt-ltb (length b) head_size early)))
    reads (is_stuff_late b x n v h w late) =
        shows (StuffLate x) n v (broken_ready b x (StuffLate x) w (rw (le-ltb (length b) head_size late)))
    reads (is_cut b n v h e u) = shows Cut n v (rw e (ff_ready b 255 Cut u (λ s f k. rw f)))
    reads (is_sum b n v h e w) =
        let sum : Verdict = Sum (found_sum b) (computed_sum b) in
        shows sum n v (rw e (body_ready b sum (ends_sum w)))
