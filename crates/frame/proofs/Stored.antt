-- byte_stored and stored_at; and in_pieces, of EachCall, which needs the same laws. Assumes nothing.
use Rattle.std.proofs.Common.{◌≡◌, ℕ, suc, ◌+◌, ◌*◌, ◌^◌, ◌<◌, ◌≤◌, true, false, eqb, ltb, leb, ◌≢◌, ◌⊎◌, List, [], ◌∷◌}
use Rattle.std.proofs.Common.{◌++◌, length, get_or, sym, refl, ap, ◌∙◌, inl, inr, true≢false, add-zero, add_assoc}
use Rattle.std.proofs.Common.{zero-add, arith, length-append, ne_eqb, le-leb}
use Rattle.base.specs.Outcomes.{Outcome, outcome}
use Rattle.base.proofs.Tests.{by_test, either_way}
use Rattle.frame.specs.State.{Phase, Idle, Half, Header, Open, Escape, Step, State, Event, Quiet, Decided}
use Rattle.frame.specs.Table.{event_row}
use Rattle.frame.specs.Rules.{Ready, max_consumed, max_filled, in_range_of, completed_of, body_byte_of, on_ff_in}
use Rattle.frame.specs.Rules.{advance_of, decides_of, put_of}
use Rattle.frame.specs.Calls.{next_of, run_of, feed_of}
use Rattle.frame.specs.Stored.{BytesStored, ConsumesOne, StoresAt}
use Rattle.frame.specs.EachCall.{later, AllInPieces}
use Rattle.frame.proofs.Puts.{put_other, put_length, put_same}
use Rattle.frame.proofs.EachCall.{not_other}
use Rattle.frame.proofs.Steps.{kept}

-- ---- one byte

-- the state after one byte is the next one, or the same where the call is refused
one_byte : (limit : ℕ) (r : State) (x : ℕ) (P : State → Type 0)
    → P r → P (next_of limit r x) → P (feed_of limit r (x ∷ [])).state
unfolding run_of
one_byte limit r x P same next =
    let Q : Outcome State → Type 0 = λ (y : Outcome State). P y.state in
    by_test Q (in_range_of limit r.scan)
    (λ a. by_test Q (leb (r.scan.consumed + length (x ∷ [])) (2 ^ 62))
    (λ b. by_test Q (decides_of (advance_of limit r.scan x).event) (λ c. next) (λ c. next)) (λ b. same))
    (λ a. same)

module _ (limit : ℕ) (r : State) where
  -- the body after a step
  abbrev left : Step → List ℕ
  left s = put_of s.put r.body r.scan.filled s.byte

  abbrev Same : Step → Type 0
  Same s = left s ≡ r.body

  same_outside : (x : ℕ) → (r.scan.phase ≡ Idle) ⊎ (r.scan.phase ≡ Half) → Same (advance_of limit r.scan x)
  same_outside x (inl h) = by_test Same (eqb x 255) (λ t. rw h) (λ t. rw h)
  same_outside x (inr h) = by_test Same (eqb x 255) (λ t. rw h) (λ t. rw h)

  same_ff : (f : Phase) → Same (on_ff_in f r.scan)
  same_ff Idle = refl
  same_ff Half = refl
  same_ff Header = refl
  same_ff Open = refl
  same_ff Escape = refl

  same_broken : (x : ℕ) → r.scan.phase ≡ Escape → x ≢ 85 → Same (advance_of limit r.scan x)
  same_broken x h n = by_test Same (eqb x 255) (λ t. rw h) (λ t. rw (h, ne_eqb x 85 n))

pub byte_stored : BytesStored
byte_stored limit r x =
    let s : Step = advance_of limit r.scan x in
    let Kept : State → Type 0 = λ (q : State). q.body ≡ r.body in
    record {
      others_kept = λ i n. one_byte limit r x (λ (q : State). get_or q.body i 0 ≡ get_or r.body i 0) refl
          (put_other s.put r.body r.scan.filled s.byte i n);
      same_length = one_byte limit r x (λ (q : State). length q.body ≡ length r.body) refl
          (put_length s.put r.body r.scan.filled s.byte);
      outside = λ h. one_byte limit r x Kept refl (same_outside limit r x h);
      ff = one_byte limit r 255 Kept refl (same_ff limit r r.scan.phase);
      broken = λ h n. one_byte limit r x Kept refl (same_broken limit r x h n);
    }

module _ (limit : ℕ) (r : State) (room : r.scan.filled < length r.body) where
  abbrev Stores : ℕ → Step → Type 0
  Stores v s = get_or (left limit r s) r.scan.filled 0 ≡ v

  put : (v : ℕ) → get_or (put_of true r.body r.scan.filled v) r.scan.filled 0 ≡ v
  put v = put_same r.body r.scan.filled v room

  stores_last : (v : ℕ) → Stores v (completed_of r.scan v)
  stores_last v = by_test (Stores v) (eqb v r.scan.sum) (λ t. put v) (λ t. put v)

  stores_body : (v : ℕ) → Stores v (body_byte_of limit r.scan v)
  stores_body v =
      let l : ℕ = r.scan.length * 256 + v in
      by_test (Stores v) (eqb r.scan.filled 0) (λ a. put v)
      (λ a. by_test (Stores v) (eqb r.scan.filled 1)
      (λ b. by_test (Stores v) (ltb l 5) (λ c. put v) (λ c. by_test (Stores v) (ltb limit l) (λ d. put v) (λ d. put v)))
      (λ b. by_test (Stores v) (ltb r.scan.length r.scan.filled) (λ c. stores_last v)
      (λ c. by_test (Stores v) (ltb limit r.scan.filled) (λ d. stores_last v) (λ d. put v))))

  stores_plain : (x : ℕ) → (r.scan.phase ≡ Header) ⊎ (r.scan.phase ≡ Open) → x ≢ 255
      → Stores x (advance_of limit r.scan x)
  stores_plain x (inl h) n = rw (ne_eqb x 255 n, h) (stores_body x)
  stores_plain x (inr h) n = rw (ne_eqb x 255 n, h) (stores_body x)

  stores_stuffed : r.scan.phase ≡ Escape → Stores 255 (advance_of limit r.scan 85)
  stores_stuffed h = rw h (stores_body 255)

-- ---- a run of bytes

-- a reader in range runs
pub feed_run : (limit : ℕ) (r : State) (bs : List ℕ)
    → r.scan.filled ≤ limit + 1 → r.scan.consumed + length bs ≤ 2 ^ 62 → feed_of limit r bs ≡ run_of limit bs 0 r
feed_run limit r bs inside room =
    rw (
      le-leb r.scan.consumed max_consumed (omega arith),
      le-leb r.scan.filled (max_filled limit) (omega arith),
      le-leb (r.scan.consumed + length bs) (2 ^ 62) room,
    )

one_next : (limit : ℕ) (r : State) (x : ℕ) → ConsumesOne limit r → (feed_of limit r (x ∷ [])).state ≡ next_of limit r x
unfolding run_of
one_next limit r x h =
    ap (λ (y : Outcome State). y.state) (feed_run limit r (x ∷ []) h.1 (omega (arith, h.0)))
    ∙ by_test (λ (y : Outcome State). y.state ≡ next_of limit r x) (decides_of (advance_of limit r.scan x).event)
    (λ t. refl) (λ t. refl)

pub stored_at : StoresAt
stored_at limit r x h room =
    record {
      plain = λ f n. ap (λ (q : State). get_or q.body r.scan.filled 0) (one_next limit r x h)
          ∙ stores_plain limit r room x f n;
      stuffed = λ f. ap (λ (q : State). get_or q.body r.scan.filled 0) (one_next limit r 85 h)
          ∙ stores_stuffed limit r room f;
    }

-- a byte that decides is not answered MORE
decides_some : (e : Event) (n s p : ℕ) → decides_of e ≡ true → (event_row e n s p).number ≢ 0
decides_some Quiet n s p d = absurd (true≢false (sym d))
decides_some (Decided v) n s p d = not_other v 0 refl

module _ (limit : ℕ) where
  abbrev Quiets : List ℕ → ℕ → State → Type 0
  Quiets a n r = (run_of limit a n r).row.number ≡ 0

  -- the first byte decides nothing, if all of them decide nothing
  first_quiet : (x : ℕ) (a : List ℕ) (n : ℕ) (r : State)
      → Quiets (x ∷ a) n r → decides_of (advance_of limit r.scan x).event ≡ false
  unfolding run_of
  first_quiet x a n r h =
      let e : Event = (advance_of limit r.scan x).event in
      either_way (decides_of e)
      (λ t. absurd (decides_some e (n + 1) r.scan.start (next_of limit r x).scan.consumed t (rw t at h)))
      (λ t. t)

  run_on : (a b : List ℕ) (n : ℕ) (r : State) → Quiets a n r
      → run_of limit (a ++ b) n r ≡ run_of limit b (n + length a) (run_of limit a n r).state
  unfolding run_of
  run_on [] b n r h = rw add-zero
  run_on (x ∷ a) b n r h =
      let t = first_quiet x a n r h in
      let count : n + 1 + length a ≡ n + suc (length a) = omega arith in
      rw (t, ← count) (run_on a b (n + 1) (next_of limit r x) (rw t at h))

  run_stop : (a b : List ℕ) (n : ℕ) (r : State) → (Quiets a n r → ⊥) → run_of limit (a ++ b) n r ≡ run_of limit a n r
  unfolding run_of
  run_stop [] b n r h = absurd (h refl)
  run_stop (x ∷ a) b n r h =
      either_way (decides_of (advance_of limit r.scan x).event) (λ t. rw t)
      (λ t. rw t (run_stop a b (n + 1) (next_of limit r x) (rw t at h)))

  run_ready : (a : List ℕ) (n m : ℕ) (r : State)
      → Quiets a n r → Ready limit r.scan (length a + m) → Ready limit (run_of limit a n r).state.scan m
  unfolding run_of
  run_ready [] n m r h i = omega arith
  run_ready (x ∷ a) n m r h i =
      let t = first_quiet x a n r h in
      let more : Ready limit r.scan (length a + m + 1) = omega arith in
      rw t (run_ready a (n + 1) m (next_of limit r x) (rw t at h) (kept (length a + m) more x))

  later_event : (e : Event) (n k s p : ℕ) (q : State)
      → outcome (event_row e (n + k) s p) q ≡ later n (outcome (event_row e k s p) q)
  later_event Quiet n k s p q = refl
  later_event (Decided v) n k s p q = refl

  run_later : (b : List ℕ) (n k : ℕ) (r : State) → run_of limit b (n + k) r ≡ later n (run_of limit b k r)
  unfolding run_of
  run_later [] n k r = refl
  run_later (x ∷ b) n k r =
      let e : Event = (advance_of limit r.scan x).event in
      let q : State = next_of limit r x in
      either_way (decides_of e)
      (λ t. rw (t, add_assoc n k 1) (later_event e n (k + 1) r.scan.start q.scan.consumed q))
      (λ t. rw (t, add_assoc n k 1) (run_later b n (k + 1) q))

pub in_pieces : AllInPieces
in_pieces limit small r a b inside room =
    let both : length (a ++ b) ≡ length a + length b = length-append a b in
    let whole : feed_of limit r (a ++ b) ≡ run_of limit (a ++ b) 0 r = feed_run limit r (a ++ b) inside room in
    let front : feed_of limit r a ≡ run_of limit a 0 r = feed_run limit r a inside (omega arith) in
    record {
      continues = λ h.
          let quiet : Quiets limit a 0 r = rw front at h in
          let q : State = (run_of limit a 0 r).state in
          let ready : Ready limit q.scan (length b) = run_ready limit a 0 (length b) r quiet
          (record { room = omega arith; inside = inside; small = small }) in
          let rest : feed_of limit q b ≡ run_of limit b 0 q = feed_run limit q b ready.inside ready.room in
          whole ∙ run_on limit a b 0 r quiet
          ∙ ap (λ (n : ℕ). run_of limit b n q) (zero-add (length a) ∙ sym (add-zero (length a)))
          ∙ run_later limit b (length a) 0 q
          ∙ ap (later (length a)) (sym rest)
          ∙ ap (λ (y : Outcome State). later (length a) (feed_of limit y.state b)) (sym front);
      stops = λ h. whole ∙ run_stop limit a b 0 r (rw front at h) ∙ sym front;
    }
