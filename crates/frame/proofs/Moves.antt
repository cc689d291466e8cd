-- One byte of the stream. A state stands for the bytes on the wire of the frame that it has begun, its pending bytes.
-- A byte leaves the list of frames of the pending bytes and any rest as it is, except for the frame that it delivers.
-- Assumes nothing.
use Rattle.std.proofs.Common.{◌≡◌, ℕ, suc, ◌+◌, ◌-◌, ◌%◌, ◌^◌, ◌≤◌, true, false, cond, eqb, ◌≢◌, List, [], ◌∷◌, ◌++◌}
use Rattle.std.proofs.Common.{length, get_or, take, sym, refl, ap, ◌∙◌, append_assoc, add-one, arith, length-append}
use Rattle.std.proofs.Common.{eq-eqb, ne_eqb, eqb-true, le-leb}
use mathlib.Core.Option.{none}
use lib.Seq.{get_or_at}
use borrow.Author.Tests.{eqb-false}
use Rattle.frame.specs.Wire.{stuff, wire, length_of, found_sum, computed_sum, Good}
use Rattle.frame.specs.Frames.{Found, front_body}
use Rattle.frame.specs.FramesComputed.{is_good, is_sum, frames_from, here}
use Rattle.frame.specs.Table.{verdict_number}
use Rattle.frame.specs.Rules.{put_of, grown_of, ended_of, body_byte_of, broken_of, on_ff_in, on_other_in, advance_of}
use Rattle.frame.specs.State.{Phase, Idle, Half, Header, Open, Escape, Scan, Step, State, Event, Quiet, Decided}
use Rattle.frame.specs.declared.scan.Verdict.{Verdict}
use Rattle.frame.specs.declared.scan.Verdict.TheVariants.{Frame, Short, Long, Sum}
use Rattle.base.proofs.Tests.{by_test}
use Rattle.frame.proofs.Stuffing.{stuff-append}
use Rattle.frame.proofs.Bodies.{Partial, partial_none, first_on, Ends, ends_frame, ends_short, ends_long}
use Rattle.frame.proofs.Bodies.{ends_sum, size, body_cases, broken_cases, whole_held}
use Rattle.frame.proofs.Puts.{put_length, stored}
use Rattle.frame.proofs.Skip.{pass, pass_other, pass_pair, pass_lone, pass_triple, pass_wire, take-wire}
use Rattle.frame.proofs.Skip.{none_end, none_lone, none_broken, none_short, none_long, none-sum}

-- ---- what a state stands for

-- the body bytes so far
abbrev pub held : State → List ℕ
held r = take r.scan.filled r.body

abbrev pub pending_in : Phase → List ℕ → List ℕ
pending_in Idle b = []
pending_in Half b = 255 ∷ []
pending_in Header b = 255 ∷ 255 ∷ []
pending_in Open b = wire b
pending_in Escape b = wire b ++ 255 ∷ []

abbrev pub pending : State → List ℕ
pending r = pending_in r.scan.phase (held r)

-- the place of the first pending byte
abbrev pub origin_in : Phase → Scan → ℕ
origin_in Idle s = s.consumed
origin_in Half s = s.consumed - 1
origin_in Header s = s.start
origin_in Open s = s.start
origin_in Escape s = s.start

abbrev pub origin : State → ℕ
origin r = origin_in r.scan.phase r.scan

-- an open frame with n bytes on the wire so far
pub record Begun (limit : ℕ) (s : Scan) (b : List ℕ) (n : ℕ) : Type 0 where
  pub some_byte : 1 ≤ length b
  pub place : s.consumed ≡ s.start + n
  pub part : Partial limit s.filled s.length s.sum b

abbrev pub InvIn : ℕ → Phase → Scan → List ℕ → Type 0
InvIn limit Idle s b = Unit {0}
InvIn limit Half s b = 1 ≤ s.consumed
InvIn limit Header s b = (s.consumed ≡ s.start + 2) × (s.filled ≡ 0) × (s.sum ≡ 0)
InvIn limit Open s b = Begun limit s b (length (wire b))
InvIn limit Escape s b = Begun limit s b (suc (length (wire b)))

-- what holds of a reader after any calls
pub record Inv (limit : ℕ) (r : State) : Type 0 where
  pub phase : InvIn limit r.scan.phase r.scan (held r)
  pub room : length r.body ≡ limit + 2
  pub inside : r.scan.filled ≤ limit + 1

-- the frame that an event delivers, followed by others
abbrev pub delivered_by : Event → Found → List Found → List Found
delivered_by Quiet f l = l
delivered_by (Decided v) f l = cond (eqb (verdict_number v) 1) (f ∷ l) l

-- the reader after a step, and the frame that the step completes
abbrev pub after : State → Step → State
after r s = record { scan = s.scan; body = put_of s.put r.body r.scan.filled s.byte }

abbrev pub found_by : State → Step → Found
found_by r s = record { start = r.scan.start; end = s.scan.consumed; body = front_body (after r s).body }

-- a step from the pending bytes p at place o, with any rest
pub record Moved (limit o : ℕ) (p : List ℕ → List ℕ) (r : State) (s : Step) : Type 0 where
  pub one : s.scan.consumed ≡ suc r.scan.consumed
  pub holds : Inv limit (after r s)
  pub frames : (t : List ℕ) → frames_from limit o (p t)
      ≡ delivered_by s.event (found_by r s) (frames_from limit (origin (after r s)) (pending (after r s) ++ t))

pub at_place : (limit : ℕ) (t : List ℕ) {m n : ℕ} → m ≡ n → frames_from limit m t ≡ frames_from limit n t
at_place limit t e = ap (λ (k : ℕ). frames_from limit k t) e

found_path : {s s' e e' : ℕ} {b b' : List ℕ} → s ≡ s' → e ≡ e' → b ≡ b'
    → ◌≡◌ {A = Found} (record { start = s; end = e; body = b }) (record { start = s'; end = e'; body = b' })
found_path p q r = λ i. record { start = p i; end = q i; body = r i }

-- broken stuffing delivers no frame
none_delivered : (filled x : ℕ) (f : Found) (l : List Found) → delivered_by (Decided (broken_of filled x)) f l ≡ l
none_delivered filled x f l =
    broken_cases (λ (v : Verdict). delivered_by (Decided v) f l ≡ l) filled x (λ _. refl) (λ _. refl)

-- ---- one more byte of a list

pub wire_snoc : (b : List ℕ) (x : ℕ) (t : List ℕ) → x ≢ 255 → wire (b ++ x ∷ []) ++ t ≡ wire b ++ x ∷ t
unfolding stuff
wire_snoc b x t h = rw (stuff-append b (x ∷ []), ne_eqb x 255 h, append_assoc (stuff b) (x ∷ []) t)

length_snoc : (b : List ℕ) (x : ℕ) → x ≢ 255 → length (stuff (b ++ x ∷ [])) ≡ length (stuff b) + 1
unfolding stuff
length_snoc b x h = rw (stuff-append b (x ∷ []), ne_eqb x 255 h) (length-append (stuff b) (x ∷ []))

pub wire_ff : (b t : List ℕ) → wire (b ++ 255 ∷ []) ++ t ≡ wire b ++ 255 ∷ 85 ∷ t
unfolding stuff
wire_ff b t = rw (stuff-append b (255 ∷ []), append_assoc (stuff b) (255 ∷ 85 ∷ []) t)

length_ff : (b : List ℕ) → length (stuff (b ++ 255 ∷ [])) ≡ length (stuff b) + 2
unfolding stuff
length_ff b = rw (stuff-append b (255 ∷ [])) (length-append (stuff b) (255 ∷ 85 ∷ []))

pub wire_wait : (b t : List ℕ) → (wire b ++ 255 ∷ []) ++ t ≡ wire b ++ 255 ∷ t
wire_wait b t = rw (append_assoc (stuff b) (255 ∷ []) t)

-- after a header there is no body byte yet
pub wire_none : {b : List ℕ} → b ≡ [] → wire b ≡ 255 ∷ 255 ∷ []
unfolding stuff
wire_none e = rw e refl

-- ---- a body byte

-- the next body byte v of the state r, in any phase, is in the stream
module _ (limit : ℕ) (r : State) (room : length r.body ≡ limit + 2) (inside : r.scan.filled ≤ limit + 1)
    (p : Partial limit r.scan.filled r.scan.length r.scan.sum (held r)) (v : ℕ)
    (first : get_or (held r ++ v ∷ []) 0 0 ≢ 255)
    (place : suc r.scan.consumed ≡ r.scan.start + length (wire (held r ++ v ∷ []))) where
  abbrev h : ℕ
  h = r.scan.filled

  abbrev st : ℕ
  st = r.scan.start

  abbrev grown : List ℕ
  grown = held r ++ v ∷ []

  abbrev Moves : Step → Type 0
  Moves s = Moved limit st (λ t. wire grown ++ t) r s

  some : 1 ≤ length grown
  some = omega (arith, size p v)

  continues : (k : ℕ) → h ≤ limit → Partial limit (h + 1) k ((r.scan.sum + v) % 2 ^ 8) grown
      → Moves (grown_of r.scan k v)
  continues k low q =
      let in_place : take (h + 1) (put_of true r.body h v) ≡ grown = stored r.body h v (omega arith) in
      record {
        one = add-one r.scan.consumed;
        holds = record {
          phase = rw in_place (record { some_byte = some; place = omega arith; part = q });
          room = put_length true r.body h v ∙ room;
          inside = omega arith;
        };
        frames = λ t. rw in_place refl;
      }

  -- the frame ends
  ended : (e : Verdict) → ((t : List ℕ) → frames_from limit st (wire grown ++ t)
      ≡ delivered_by (Decided e) (found_by r (ended_of r.scan v e)) (frames_from limit (r.scan.consumed + 1) t))
      → Moves (ended_of r.scan v e)
  ended e f =
      record {
        one = add-one r.scan.consumed;
        holds = record { phase = tt; room = put_length true r.body h v ∙ room; inside = omega arith };
        frames = f;
      }

  -- a refused frame is not a frame of the stream
  refused : (e : Verdict)
      → eqb (verdict_number e) 1 ≡ false → ((t : List ℕ) → here limit (wire grown ++ t) ≡ none)
      → Moves (ended_of r.scan v e)
  refused e other none_here =
      ended e (λ t. pass_wire limit grown t st some first (none_here t)
      ∙ at_place limit t {n = r.scan.consumed + 1} (omega arith) ∙ rw other)

  completes : Good limit grown → Moves (ended_of r.scan v Frame)
  completes g =
      ended Frame (λ t.
      take-wire limit grown t st some first g
      ∙ ap (λ (l : List Found). record { start = st; end = st + length (wire grown); body = grown } ∷ l)
      (at_place limit t (omega arith))
      ∙ ap (λ (f : Found). f ∷ frames_from limit (r.scan.consumed + 1) t)
      (found_path refl (omega arith) (sym (whole_held r.body h v (omega arith) g.true_length))))

  ended_moves : (e : Verdict) → Ends limit grown e → Moves (ended_of r.scan v e)
  unfolding is_good is_sum
  ended_moves e (ends_frame g) = completes g
  ended_moves e (ends_short n l) = refused Short refl (λ t. none_short limit grown t (omega arith) l)
  ended_moves e (ends_long n f five l) = refused Long refl (λ t. none_long limit grown t (omega arith) l)
  ended_moves e (ends_sum w) =
      refused (Sum (found_sum grown) (computed_sum grown)) refl (λ t. none-sum limit grown t w.true_length
      (rw (
        eq-eqb (length grown) (length_of grown + 2) w.true_length,
        le-leb 5 (length_of grown) w.shortest,
        le-leb (length_of grown) limit w.longest,
      )
      (ne_eqb (found_sum grown) (computed_sum grown) w.sum_fails)))

  pub body_moves : Moves (body_byte_of limit r.scan v)
  body_moves = body_cases r.scan p v first Moves continues ended_moves

-- ---- a byte on the wire, by phase

module _ (limit : ℕ) (small : limit ≤ 65279) (r : State) (room : length r.body ≡ limit + 2)
    (inside : r.scan.filled ≤ limit + 1) where
  abbrev b : List ℕ
  b = held r

  abbrev at : ℕ
  at = r.scan.start

  abbrev Start : Phase → Type 0
  Start f = InvIn limit f r.scan b

  abbrev MovesFrom : Phase → ℕ → Step → Type 0
  MovesFrom f x s = Moved limit (origin_in f r.scan) (λ t. pending_in f b ++ x ∷ t) r s

  one : r.scan.consumed + 1 ≡ suc r.scan.consumed
  one = add-one r.scan.consumed

  -- bytes on the wire that are a stuffed body with one byte more
  on_body : (f : Phase) (x v : ℕ)
      → Partial limit r.scan.filled r.scan.length r.scan.sum b → get_or (b ++ v ∷ []) 0 0 ≢ 255
      → suc r.scan.consumed ≡ at + length (wire (b ++ v ∷ [])) → origin_in f r.scan ≡ at
      → ((t : List ℕ) → pending_in f b ++ x ∷ t ≡ wire (b ++ v ∷ []) ++ t) → MovesFrom f x (body_byte_of limit r.scan v)
  on_body f x v p first place o same =
      let m = body_moves limit r room inside p v first place in
      record {
        one = m.one;
        holds = m.holds;
        frames = λ t. at_place limit (pending_in f b ++ x ∷ t) o
            ∙ ap (λ (j : List ℕ). frames_from limit at j) (same t) ∙ m.frames t;
      }

  -- a frame that is begun, followed by bytes with which it cannot go on, is not a frame of the stream
  broken : (x : ℕ) (t : List ℕ) {n : ℕ} → Begun limit r.scan b n → x ≢ 85
      → frames_from limit at (wire b ++ 255 ∷ x ∷ t) ≡ frames_from limit (at + length (wire b)) (255 ∷ x ∷ t)
  broken x t i k =
      pass_wire limit b (255 ∷ x ∷ t) at i.some_byte i.part.first
      (none_broken limit b x t (rw i.part.count i.part.under) k)

  ff_moves : (f : Phase) → Start f → MovesFrom f 255 (on_ff_in f r.scan)
  ff_moves Idle i =
      record {
        one = one;
        holds = record { phase = omega arith; room = room; inside = omega arith };
        frames = λ t. at_place limit (255 ∷ t) (omega arith);
      }
  ff_moves Half i =
      record {
        one = one;
        holds = record { phase = (omega arith, refl, refl); room = room; inside = omega arith };
        frames = λ t. refl;
      }
  ff_moves Header i =
      record {
        one = one;
        holds = record { phase = (omega arith, refl, refl); room = room; inside = omega arith };
        frames = λ t. pass_triple limit small at t ∙ at_place limit (255 ∷ 255 ∷ t) (omega (arith, i.0));
      }
  ff_moves Open i =
      record {
        one = one;
        holds = record {
          phase = record { some_byte = i.some_byte; place = omega (arith, i.place); part = i.part };
          room = room;
          inside = inside;
        };
        frames = λ t. ap (λ (k : List ℕ). frames_from limit at k) (sym (wire_wait b t));
      }
  ff_moves Escape i =
      record {
        one = one;
        holds = record { phase = (omega (arith, i.place), refl, refl); room = room; inside = omega arith };
        frames = λ t.
            ap (λ (k : List ℕ). frames_from limit at k) (wire_wait b (255 ∷ t)) ∙ broken 255 t i (omega arith)
            ∙ at_place limit (255 ∷ 255 ∷ t) (omega (arith, i.place));
      }

  other_moves : (x : ℕ) → x ≢ 255 → (f : Phase) → Start f → MovesFrom f x (on_other_in f limit r.scan x)
  other_moves x k Idle i =
      record {
        one = one;
        holds = record { phase = tt; room = room; inside = omega arith };
        frames = λ t. pass_other limit r.scan.consumed x t k ∙ at_place limit t (omega arith);
      }
  other_moves x k Half i =
      let o : ℕ = r.scan.consumed - 1 in
      record {
        one = one;
        holds = record { phase = tt; room = room; inside = omega arith };
        frames = λ t. pass_pair limit o 255 x t k ∙ pass_other limit (suc o) x t k ∙ at_place limit t (omega arith);
      }
  other_moves x k Header i =
      let p = partial_none r.body i.1 i.2 in
      let none_yet : b ≡ [] = ap (λ (j : ℕ). take j r.body) i.1 in
      let e : get_or (b ++ x ∷ []) 0 0 ≡ x = get_or_at b x [] 0 0 (p.count ∙ i.1) in
      let n : length (wire b) ≡ 2 = ap length (wire_none none_yet) in
      on_body Header x x p (λ q. k (sym e ∙ q)) (omega (arith, length_snoc b x k, i.0)) refl
      (λ t. ap (λ (j : List ℕ). j ++ x ∷ t) (sym (wire_none none_yet)) ∙ sym (wire_snoc b x t k))
  other_moves x k Open i =
      on_body Open x x i.part (first_on i.part x i.some_byte) (omega (arith, length_snoc b x k, i.place)) refl
      (λ t. sym (wire_snoc b x t k))
  other_moves x k Escape i =
      by_test (MovesFrom Escape x) (eqb x 85)
      (λ q. on_body Escape x 255 i.part (first_on i.part 255 i.some_byte)
      (omega (arith, length_ff b, i.place)) refl
      (λ t. rw (eqb-true x 85 q) (wire_wait b (85 ∷ t) ∙ sym (wire_ff b t))))
      (λ q.
      let n : ℕ = at + length (wire b) in
      record {
        one = one;
        holds = record { phase = tt; room = room; inside = omega arith };
        frames = λ t.
            ap (λ (j : List ℕ). frames_from limit at j) (wire_wait b (x ∷ t)) ∙ broken x t i (eqb-false x 85 q)
            ∙ pass_pair limit n 255 x t k ∙ pass_other limit (suc n) x t k
            ∙ at_place limit t {n = r.scan.consumed + 1} (omega (arith, i.place))
            ∙ sym (none_delivered r.scan.filled x _ _);
      })

-- a byte, of any reader that calls can reach
pub moves : (limit : ℕ) → limit ≤ 65279 → (r : State) (x : ℕ) → Inv limit r
    → Moved limit (origin r) (λ t. pending r ++ x ∷ t) r (advance_of limit r.scan x)
moves limit small r x i =
    by_test (MovesFrom limit small r i.room i.inside r.scan.phase x) (eqb x 255)
    (λ q. rw (eqb-true x 255 q) (ff_moves limit small r i.room i.inside r.scan.phase i.phase))
    (λ q. other_moves limit small r i.room i.inside x (eqb-false x 255 q) r.scan.phase i.phase)

-- ---- where a frame begins or the bytes end

module _ (limit : ℕ) where
  -- the pending bytes are not a frame
  pub nothing_left : (r : State) → Inv limit r → frames_from limit (origin r) (pending r ++ []) ≡ []
  unfolding frames_from stuff
  nothing_left r i = go r.scan.phase r.scan (held r) i.phase
    where
      go : (f : Phase) (s : Scan) (b : List ℕ)
          → InvIn limit f s b → frames_from limit (origin_in f s) (pending_in f b ++ []) ≡ []
      go Idle s b h = refl
      go Half s b h = pass_lone limit (s.consumed - 1) 255
      go Header s b h =
          pass limit s.start 255 (255 ∷ []) (none_end limit [] (omega arith)) ∙ pass_lone limit (suc s.start) 255
      go Open s b h =
          pass_wire limit b [] s.start h.some_byte h.part.first
          (none_end limit b (rw h.part.count h.part.under))
      go Escape s b h =
          ap (λ (l : List ℕ). frames_from limit s.start l) (wire_wait b [])
          ∙ pass_wire limit b (255 ∷ []) s.start h.some_byte h.part.first
          (none_lone limit b (rw h.part.count h.part.under))
          ∙ pass_lone limit (s.start + length (wire b)) 255

  -- a header that follows ends the pending bytes
  pub settles : limit ≤ 65279 → (r : State) → Inv limit r → (t : List ℕ)
      → frames_from limit (origin r) (pending r ++ 255 ∷ 255 ∷ t) ≡ frames_from limit r.scan.consumed (255 ∷ 255 ∷ t)
  settles small r i t = go r.scan.phase r.scan (held r) i.phase
    where
      go : (f : Phase) (s : Scan) (b : List ℕ) → InvIn limit f s b → frames_from limit (origin_in f s) (pending_in f b
          ++ 255 ∷ 255 ∷ t) ≡ frames_from limit s.consumed (255 ∷ 255 ∷ t)
      go Idle s b h = refl
      go Half s b h = pass_triple limit small (s.consumed - 1) t ∙ at_place limit (255 ∷ 255 ∷ t) (omega arith)
      go Header s b h =
          pass_triple limit small s.start (255 ∷ t) ∙ pass_triple limit small (suc s.start) t
          ∙ at_place limit (255 ∷ 255 ∷ t) (omega (arith, h.0))
      go Open s b h =
          pass_wire limit b (255 ∷ 255 ∷ t) s.start h.some_byte h.part.first
          (none_broken limit b 255 t (rw h.part.count h.part.under) (omega arith))
          ∙ at_place limit (255 ∷ 255 ∷ t) (omega (arith, h.place))
      go Escape s b h =
          ap (λ (l : List ℕ). frames_from limit s.start l) (wire_wait b (255 ∷ 255 ∷ t))
          ∙ pass_wire limit b (255 ∷ 255 ∷ 255 ∷ t) s.start h.some_byte h.part.first
          (none_broken limit b 255 (255 ∷ t) (rw h.part.count h.part.under) (omega arith))
          ∙ pass_triple limit small (s.start + length (wire b)) t
          ∙ at_place limit (255 ∷ 255 ∷ t) (omega (arith, h.place))
