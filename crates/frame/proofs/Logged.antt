-- From bytes to calls, and from calls to lists of calls. Assumes nothing.
use Rattle.std.proofs.Common.{◌≡◌, ℕ, suc, ◌+◌, ◌^◌, ◌<◌, ◌≤◌, true, false, eqb, leb, ◌≢◌, ◌⊎◌, List, [], ◌∷◌, ◌++◌}
use Rattle.std.proofs.Common.{length, get_or, take, sym, refl, ap, ◌∙◌, inl, inr, true≢false, add-zero, add-one, arith}
use Rattle.std.proofs.Common.{length-append, length-take-le, ne_eqb, le-leb, leb-false, leb-true}
use mathlib.Core.List.Memᴰ
use mathlib.Core.List.{cons≢nil, Memᴰ}
use Rattle.frame.specs.Frames.{Found, front_body}
use Rattle.frame.specs.FramesComputed.{frames_from}
use Rattle.base.specs.Rows.{Row, row}
use Rattle.base.specs.Keys.{among}
use Rattle.frame.specs.Table.{event_row}
use Rattle.frame.specs.Rules.{advance_of, decides_of, in_range_of, max_consumed, max_filled}
use Rattle.base.specs.Outcomes.{Outcome, outcome}
use Rattle.frame.specs.Calls.{next_of, finish_row_in, run_of, feed_of, finish_of}
use Rattle.frame.specs.Logs.{Call, feed, finish, Entry, offered, consumed_by, consumed_in, stream, add_delivered}
use Rattle.frame.specs.Logs.{delivered, decided}
use Rattle.frame.specs.LogsComputed.{call_of, entry_of, log_of, state_after}
use Rattle.frame.specs.Accounts.{finish_numbers, Account, Accounts}
use Rattle.frame.specs.State.{Phase, Idle, Half, Header, Open, Escape, State, Event, Quiet, Decided}
use Rattle.base.proofs.Tests.{by_test}
use Rattle.frame.proofs.EachCall.{numbered, not_other}
use Rattle.frame.proofs.Accounts.{not_state}
use Rattle.frame.proofs.Moves.{Inv, origin, pending, delivered_by, moves, nothing_left}

abbrev consumed : State → ℕ
consumed r = r.scan.consumed

-- ---- the bytes of a call

-- a call consumed k of the bytes bs, after n others; the last one gave the event
record Ran (limit : ℕ) (r : State) (n : ℕ) (bs : List ℕ) (y : Outcome State) : Type 0 where
  k : ℕ
  event : Event
  start : ℕ
  within : k ≤ length bs
  all : decides_of event ≡ false → k ≡ length bs
  some : decides_of event ≡ true → 1 ≤ k
  idle : bs ≡ [] → y.state ≡ r
  row_is : y.row ≡ event_row event (n + k) start (consumed r + k)
  place : consumed y.state ≡ consumed r + k
  holds : Inv limit y.state
  frames : (t : List ℕ) → frames_from limit (origin r) (pending r ++ (take k bs ++ t))
      ≡ delivered_by event (record { start = start; end = consumed r + k; body = front_body y.state.body })
      (frames_from limit (origin y.state) (pending y.state ++ t))

silent : (e : Event) → decides_of e ≡ false → (f : Found) (l : List Found) → delivered_by e f l ≡ l
silent Quiet d f l = refl
silent (Decided v) d f l = absurd (true≢false d)

ran : (limit : ℕ) → limit ≤ 65279 → (bs : List ℕ) (n : ℕ) (r : State) → Inv limit r
    → Ran limit r n bs (run_of limit bs n r)
unfolding run_of
ran limit small [] n r i =
    record {
      k = 0;
      event = Quiet;
      start = 0;
      within = omega arith;
      all = λ d. refl;
      some = λ d. absurd (true≢false (sym d));
      idle = λ e. refl;
      row_is = rw add-zero;
      place = omega arith;
      holds = i;
      frames = λ t. refl;
    }
ran limit small (x ∷ xs) n r i =
    let m = moves limit small r x i in
    let e : Event = (advance_of limit r.scan x).event in
    let one : consumed (next_of limit r x) ≡ consumed r + 1 = m.one ∙ sym (add-one (consumed r)) in
    by_test (Ran limit r n (x ∷ xs)) (decides_of e)
    (λ d. record {
      k = 1;
      event = e;
      start = r.scan.start;
      within = omega arith;
      all = λ q. absurd (true≢false (sym d ∙ q));
      some = λ q. omega arith;
      idle = λ e. absurd (cons≢nil e);
      row_is = ap (λ (j : ℕ). event_row e (n + 1) r.scan.start j) one;
      place = one;
      holds = m.holds;
      frames = λ t. rw (← one) (m.frames t);
    })
    (λ d.
    let w : Ran limit (next_of limit r x) (n + 1) xs (run_of limit xs (n + 1) (next_of limit r x)) =
    ran limit small xs (n + 1) (next_of limit r x) m.holds in
    let count : n + 1 + w.k ≡ n + suc w.k = omega arith in
    let end : consumed (next_of limit r x) + w.k ≡ consumed r + suc w.k = omega arith in
    record {
      k = suc w.k;
      event = w.event;
      start = w.start;
      within = omega (arith, w.within);
      all = λ q. ap suc (w.all q);
      some = λ q. omega arith;
      idle = λ e. absurd (cons≢nil e);
      row_is = w.row_is ∙ ap (λ (j : ℕ). event_row w.event j w.start (consumed (next_of limit r x) + w.k)) count
          ∙ ap (λ (j : ℕ). event_row w.event (n + suc w.k) w.start j) end;
      place = w.place ∙ end;
      holds = w.holds;
      frames = λ t. m.frames (take w.k xs ++ t) ∙ silent e d _ _ ∙ rw end at (w.frames t);
    })

-- ---- one call

-- what a call of a reader that calls can reach gives
pub record Called (limit : ℕ) (r : State) (c : Call) (y : Outcome State) : Type 0 where
  pub holds : Inv limit y.state
  pub longest : consumed y.state ≤ 2 ^ 62
  pub place : consumed y.state ≡ consumed r + consumed_by c y.row
  pub account : Account (consumed r) (entry_of r c y)
  pub shape : y.row.number ≡ 1
      → y.row ≡ row 1 (consumed_by c y.row ∷ get_or y.row.values 1 0 ∷ get_or y.row.values 2 0 ∷ [])
  pub frames : (t : List ℕ) → frames_from limit (origin r) (pending r ++ (take (consumed_by c y.row) (offered c) ++ t))
      ≡ add_delivered (entry_of r c y) (frames_from limit (origin y.state) (pending y.state ++ t))

-- a feed is not a finish
pub not_finish : {A : Type 0} {bs : List ℕ} → feed bs ≡ finish → A
not_finish e = let z : ◌≡◌ {A = ℕ} 0 1 = cc in absurd (omega arith)

pub not_feed : {A : Type 0} {bs : List ℕ} → finish ≡ feed bs → A
not_feed e = not_finish (sym e)

-- a feed with no data
none_fed : {bs : List ℕ} → feed bs ≡ feed [] → bs ≡ []
none_fed e = cc

with_row : (limit : ℕ) (r : State) (c : Call) (y : Outcome State) (a : Row)
    → y.row ≡ a → Called limit r c (outcome a y.state) → Called limit r c y
with_row limit r c y a e h = rw (← e) at h

module _ (limit : ℕ) (r q : State) (bs : List ℕ) (k s : ℕ)
    (fits : consumed r + length bs ≤ 2 ^ 62) (within : k ≤ length bs)
    (place : consumed q ≡ consumed r + k) (holds : Inv limit q) (idle : bs ≡ [] → q ≡ r) where
  -- MORE
  more_called : k ≡ length bs
      → ((t : List ℕ) → frames_from limit (origin r) (pending r ++ (take k bs ++ t))
      ≡ frames_from limit (origin q) (pending q ++ t))
      → Called limit r (feed bs) (outcome (row 0 (k ∷ [])) q)
  unfolding among
  more_called all f =
      record {
        holds = holds;
        longest = omega arith;
        place = place;
        account = record {
          feed_row = λ b e. refl;
          finish_row = λ e. not_finish e;
          within = within;
          all = λ e. all;
          progress = λ e o. omega arith;
          empty = λ e. (refl, (cc (idle (none_fed e))));
          ends = λ e. absurd (true≢false (sym e));
          used = λ e. absurd (omega arith);
          unused = λ e. fits;
          finished = λ e. not_finish e;
          used_none = λ e. absurd (omega arith);
          used_kept = λ e. absurd (omega arith);
          finish_kept = λ e. not_finish e;
        };
        shape = λ e. absurd (omega arith);
        frames = f;
      }

  event_called : (e : Event) → (decides_of e ≡ false → k ≡ length bs) → (decides_of e ≡ true → 1 ≤ k)
      → ((t : List ℕ) → frames_from limit (origin r) (pending r ++ (take k bs ++ t))
      ≡ delivered_by e (record { start = s; end = consumed r + k; body = front_body q.body })
      (frames_from limit (origin q) (pending q ++ t)))
      → Called limit r (feed bs) (outcome (event_row e k s (consumed r + k)) q)
  event_called Quiet all some f = more_called (all refl) f
  event_called (Decided v) all some f =
      record {
        holds = holds;
        longest = omega arith;
        place = place;
        account = record {
          feed_row = λ b e. (numbered v).is_feed;
          finish_row = λ e. not_finish e;
          within = within;
          all = λ e. absurd (not_other v 0 refl e);
          progress = λ e o. omega (arith, some refl);
          empty = λ e. let none : length bs ≡ 0 = ap length (none_fed e) in absurd (omega (arith, some refl));
          ends = λ e. refl;
          used = λ e. absurd (not_other v 18 refl e);
          unused = λ e. fits;
          finished = λ e. not_finish e;
          used_none = λ e. absurd (not_other v 18 refl e);
          used_kept = λ e. absurd (not_other v 18 refl e);
          finish_kept = λ e. not_finish e;
        };
        shape = λ e. rw (e, (numbered v).plain e);
        frames = f;
      }

module _ (limit : ℕ) (small : limit ≤ 65279) (r : State) (i : Inv limit r) (longest : consumed r ≤ 2 ^ 62) where
  pub is_in_range : in_range_of limit r.scan ≡ true
  is_in_range =
      rw (
        le-leb (consumed r) max_consumed (omega arith),
        le-leb r.scan.filled (max_filled limit) (omega (arith, i.inside)),
      )

  feed_called : (bs : List ℕ) → Called limit r (feed bs) (feed_of limit r bs)
  unfolding among
  feed_called bs =
      rw is_in_range
      (by_test (Called limit r (feed bs)) (leb (consumed r + length bs) (2 ^ 62))
      (λ d.
      let w : Ran limit r 0 bs (run_of limit bs 0 r) = ran limit small bs 0 r i in
      let n : 0 + w.k ≡ w.k = omega arith in
      with_row limit r (feed bs) (run_of limit bs 0 r) (event_row w.event w.k w.start (consumed r + w.k))
      (w.row_is ∙ ap (λ (j : ℕ). event_row w.event j w.start (consumed r + w.k)) n)
      (event_called limit r (run_of limit bs 0 r).state bs w.k w.start
      (leb-true (consumed r + length bs) (2 ^ 62) d) w.within w.place w.holds
      w.idle w.event w.all w.some w.frames))
      (λ d.
      let over : 2 ^ 62 < consumed r + length bs = leb-false (consumed r + length bs) (2 ^ 62) d in
      record {
        holds = i;
        longest = longest;
        place = omega arith;
        account = record {
          feed_row = λ b e. refl;
          finish_row = λ e. not_finish e;
          within = omega arith;
          all = λ e. absurd (omega arith);
          progress = λ e o. absurd (e refl);
          empty = λ e. let none : length bs ≡ 0 = ap length (none_fed e) in absurd (omega arith);
          ends = λ e. absurd (true≢false (sym e));
          used = λ e. over;
          unused = λ e. absurd (e refl);
          finished = λ e. not_finish e;
          used_none = λ e. omega arith;
          used_kept = λ e. refl;
          finish_kept = λ e. not_finish e;
        };
        shape = λ e. absurd (omega arith);
        frames = λ t. refl;
      }))

  -- CLEAN or OPEN, of number d
  end_called : (d : ℕ) (v : List ℕ)
      → among d finish_numbers ≡ true → decided d ≡ false → 2 ≤ d → d < 17 → get_or v 0 0 ≡ consumed r
      → Called limit r finish (outcome (row d v) r)
  end_called d v named undecided low high first =
      let other : eqb d 1 ≡ false = ne_eqb d 1 (λ e. omega arith) in
      record {
        holds = i;
        longest = longest;
        place = omega arith;
        account = record {
          feed_row = λ b e. not_feed e;
          finish_row = λ e. named;
          within = omega arith;
          all = λ e. absurd (omega arith);
          progress = λ e o. absurd (omega arith);
          empty = λ e. not_feed e;
          ends = λ e. absurd (true≢false (sym e ∙ undecided));
          used = λ e. absurd (omega arith);
          unused = λ e. omega arith;
          finished = λ e. first;
          used_none = λ e. omega arith;
          used_kept = λ e. refl;
          finish_kept = λ e. refl;
        };
        shape = λ e. absurd (omega arith);
        frames = λ t. rw other;
      }

  finish_called : Called limit r finish (finish_of limit r)
  unfolding among
  finish_called = rw is_in_range (go r.scan.phase)
    where
      go : (f : Phase) → Called limit r finish (outcome (finish_row_in f r.scan) r)
      go Idle = end_called 2 (consumed r ∷ []) refl refl (omega arith) (omega arith) refl
      go Half = end_called 2 (consumed r ∷ []) refl refl (omega arith) (omega arith) refl
      go Header = end_called 16 (consumed r ∷ r.scan.start ∷ []) refl refl (omega arith) (omega arith) refl
      go Open = end_called 16 (consumed r ∷ r.scan.start ∷ []) refl refl (omega arith) (omega arith) refl
      go Escape = end_called 16 (consumed r ∷ r.scan.start ∷ []) refl refl (omega arith) (omega arith) refl

  pub called : (c : Call) → Called limit r c (call_of limit r c)
  called (feed bs) = feed_called bs
  called finish = finish_called

-- ---- all calls

pub record Logged (limit : ℕ) (r : State) (log : List Entry) : Type 0 where
  pub frames : delivered log ≡ frames_from limit (origin r) (pending r ++ stream log)
  pub accounts : Accounts (consumed r) log
  pub never : (e : Entry) → Memᴰ e log → e.row.number ≢ 17
  pub shapes : (e : Entry) → Memᴰ e log → e.row.number ≡ 1
      → e.row ≡ row 1 (consumed_in e ∷ get_or e.row.values 1 0 ∷ get_or e.row.values 2 0 ∷ [])

-- what holds of the first and of all others holds of each
each : (P : Entry → Type 0) (a e : Entry) (l : List Entry)
    → P a → ((e : Entry) → Memᴰ e l → P e) → Memᴰ e (a ∷ l) → P e
each P a e l first rest m = go (Memᴰ.cases_cons m)
  where
    go : (e ≡ a) ⊎ Memᴰ e l → P e
    go (inl q) = rw q first
    go (inr k) = rest e k

module _ (limit : ℕ) (small : limit ≤ 65279) where
  pub logged : (cs : List Call) (r : State) → Inv limit r → consumed r ≤ 2 ^ 62 → Logged limit r (log_of limit r cs)
  unfolding log_of delivered stream Accounts
  logged [] r i longest =
      record {
        frames = sym (nothing_left limit r i);
        accounts = tt;
        never = λ e m. absurd (Memᴰ.not-nil m);
        shapes = λ e m. absurd (Memᴰ.not-nil m);
      }
  logged (c ∷ cs) r i longest =
      let y : Outcome State = call_of limit r c in
      let ok : Called limit r c y = called limit small r i longest c in
      let rest = logged cs y.state ok.holds ok.longest in
      record {
        frames = ap (λ (l : List Found). add_delivered (entry_of r c y) l) rest.frames
            ∙ sym (ok.frames (stream (log_of limit y.state cs)));
        accounts = (ok.account, (rw ok.place at rest.accounts));
        never = λ e m. each (λ e. e.row.number ≢ 17) (entry_of r c y) e (log_of limit y.state cs)
            (not_state ok.account) rest.never m;
        shapes = λ e m. each (λ e. e.row.number ≡ 1 → e.row ≡ row 1 (consumed_in e ∷ get_or e.row.values 1 0 ∷ get_or
            e.row.values 2 0 ∷ [])) (entry_of r c y) e (log_of limit y.state cs) ok.shape rest.shapes m;
      }

  -- the reader after the calls
  pub record Reached (r q : State) (log : List Entry) : Type 0 where
    pub holds : Inv limit q
    pub longest : consumed q ≤ 2 ^ 62
    pub place : consumed q ≡ consumed r + length (stream log)

  pub reached : (cs : List Call) (r : State)
      → Inv limit r → consumed r ≤ 2 ^ 62 → Reached r (state_after limit r cs) (log_of limit r cs)
  unfolding log_of state_after stream
  reached [] r i longest = record { holds = i; longest = longest; place = omega arith }
  reached (c ∷ cs) r i longest =
      let y : Outcome State = call_of limit r c in
      let ok : Called limit r c y = called limit small r i longest c in
      let rest = reached cs y.state ok.holds ok.longest in
      let front : List ℕ = take (consumed_by c y.row) (offered c) in
      let size : length front ≡ consumed_by c y.row =
      length-take-le (consumed_by c y.row) (offered c) ok.account.within in
      record {
        holds = rest.holds;
        longest = rest.longest;
        place = omega (arith, rest.place, ok.place, length-append front (stream (log_of limit y.state cs)));
      }
