-- The capture's bytes alone decide the text, however windows and rooms cut it. Assumes nothing.
use Prim.Native.Nat.{ℕ, ◌≤◌, ◌<◌}
use mathlib.Core.Path.{◌≡◌, refl, sym, ap, ◌∙◌}
use mathlib.Core.Bool.{true}
use mathlib.Core.Logic.Dec
use mathlib.Core.Logic.{◌≢◌, ◌⊎◌, inl, inr}
use mathlib.Core.List.{List, [], ◌∷◌, ◌++◌, append-nil, List-discrete}
use native.Mathlib.Decide.{ℕ_discrete}
use native.Mathlib.Omega.{arith}
use borrow.Author.Tests.{eqb-true, eqb-false, eq-eqb, ne_eqb, lt-ltb, le-ltb}
use lib.ListN.{length, get_or, take}
use lib.Dec.{eqb, ltb}
use Rattle.base.specs.Keys.{among}
use Rattle.base.specs.Rows.{Row}
use Rattle.base.specs.Outcomes.{Outcome}
use Rattle.base.proofs.Lists.{append_cancel}
use Rattle.base.proofs.Keys.{among_holds}
use Rattle.base.proofs.Tests.{by_test, either_way}
use Rattle.frame.specs.Wire.{widest}
use Rattle.frame.specs.State.{State as Reader}
use Rattle.frame.specs.Decisions.{Decision, IsOpen}
use Rattle.frame.proofs.Decisions.{finish_correct}
use Rattle.frame.proofs.Unique.{one_decisions}
use Rattle.listing.specs.Lines.{last_of}
use Rattle.listing.specs.Listing.{decisions_text}
use Rattle.capture.specs.Format.{direction_of, payload_of, size_of, IsRecord}
use Rattle.capture.specs.Captures.{Stops, Reads, no_mark, no_version, with_head, whole, direction, ended}
use Rattle.capture.specs.Reading.{next_of, end_in, end_of}
use Rattle.capture.specs.Windows.{records_by}
use Rattle.capture.proofs.EachCall.{more_later}
use Rattle.capture.proofs.NextSays.{next_says}
use Rattle.capture.proofs.ReadingExact.{windows_read, one_reading}
use Rattle.replay.specs.Lines.{Printed, printed_text, lines_of, prefix_of, replay_heading}
use Rattle.replay.specs.State.{State, fresh_of, in_range_of}
use Rattle.replay.specs.Replays.{heard_of, Adds, AreLines, IsEndLine, IsEnding, IsReplay}
use Rattle.replay.specs.Closing.{end_line, closing_text, closed}
use Rattle.replay.specs.Turns.{state_by, text_by, left_by, Finishes}
use Rattle.replay.specs.TurnReplays.{TurnsReplay, OneReplay, AnyTurns, TurnStops, TurnsStop, TurnsFinish}
use Rattle.replay.specs.TurnReplays.{TurnsSoFar}
use Rattle.replay.proofs.LineLaws.{printed_both, lines_of_text}
use Rattle.replay.proofs.Sides.{Side}
use Rattle.replay.proofs.Told.{Within, Told, none_fed, told_nothing, told_more, told_turns, next_stops, is_in_range}
use Rattle.replay.proofs.NextAnswers.{next_cases}

-- ---- the end of a replay

-- a reader's end line is that of its bytes
end_line_lem : (limit e : ℕ) (t : List ℕ) (r : Reader) → limit ≤ widest → Side limit (prefix_of e) t r
    → IsEndLine limit e t (end_line limit e r)
end_line_lem limit e t r small s =
    let f = rw (s.stream_is, s.state_is) at (finish_correct limit small s.calls) in
    record {
      left_open = λ start o. ap (λ (y : Outcome Reader). last_of (prefix_of e) y.row) (f.left_open start o);
      left_clean = λ none. ap (λ (y : Outcome Reader). last_of (prefix_of e) y.row) (f.left_clean none);
    }

-- where a reading stops, its number is 2 or above 50
stop_number_lem : (rest : List ℕ) (number : ℕ) → Stops rest number → number ≢ 2 → 50 < number
stop_number_lem rest number (whole e h) other = absurd (other e)
stop_number_lem rest number (direction e h k) other = omega arith
stop_number_lem rest number (ended e h k n) other = omega arith

reads_number : (c : List ℕ) (rs : List (List ℕ)) (number place : ℕ) → Reads c rs number place → number ≢ 2 → 50 < number
reads_number c rs number place (no_mark r n p h) other = omega arith
reads_number c rs number place (no_version rest r n p h k) other = omega arith
reads_number c rs number place (with_head rest b p a s) other = stop_number_lem rest number s other

module _ (limit : ℕ) (small : limit ≤ widest) (capture : List ℕ) (size : length capture ≤ 4611686018427387904)
    (s : State) (left text : List ℕ) (t : Told limit capture s left text) (w : List ℕ) (f : Finishes s left w) where
  abbrev end : Row
  end = end_of s.place w

  abbrev past : List (List ℕ)
  past = records_by 0 t.windows

  -- a record that is there is still to be played
  no_record : (next_of s.place left).row.number ≡ 1 → ⊥
  no_record one = go f.decided
    where
      go : (f.rest ≡ []) ⊎ (50 < (next_of s.place w).row.number) → ⊥
      go (inl none) =
          let all : left ≡ w = f.front ∙ (ap (λ (l : List ℕ). w ++ l) none ∙ append-nil w) in
          let here : (next_of s.place w).row.number ≡ 1 =
          ap (λ (l : List ℕ). (next_of s.place l).row.number) (sym all) ∙ one in
          f.nothing_to_play
          (rw (
            ne_eqb (next_of s.place w).row.number 0 (λ e. omega arith),
            eq-eqb (next_of s.place w).row.number
                1 here,
          ))
      go (inr refused) =
          let same : next_of s.place left ≡ next_of s.place w =
          ap (λ (l : List ℕ). next_of s.place l) f.front
          ∙ more_later s.place w f.rest (omega (arith, t.size_is, ap length f.front))
          (λ e. absurd (omega (arith, refused, ap (λ (r : Row). r.number) e))) in
          omega (arith, refused, one, ap (λ (y : Outcome ℕ). y.row.number) same)

  -- so nothing of a record is fed
  idle : (s.fed ≡ 0) × (t.new ≡ [])
  idle = go t.within
    where
      go : Within limit past s left t.new → (s.fed ≡ 0) × (t.new ≡ [])
      go (inl h) = h
      go (inr h) = absurd (no_record h.0)

  end_side0 : Side limit (prefix_of 0) (heard_of 0 past) s.reader0
  end_side0 = rw (idle.0, none_fed 0 left, append-nil) at t.side0

  end_side1 : Side limit (prefix_of 1) (heard_of 1 past) s.reader1
  end_side1 = rw (idle.0, none_fed 1 left, append-nil) at t.side1

  -- what the capture holds
  end_reads : Reads capture past end.number (get_or end.values 0 0)
  end_reads =
      windows_read capture size t.windows t.are w
      (rw (t.place_is, t.left_is) (record { rest = f.rest; front = f.front; decided = f.decided }))
      end.number (get_or end.values 0 0) (rw t.place_is (next_says s.place w).one_value) f.nothing_to_play

  -- the replay, and the readers that have heard its records
  pub record Ended : Type 0 where
    pub replay : IsReplay limit capture (replay_heading ++ (text ++ closing_text limit s end))
    pub side0 : Side limit (prefix_of 0) (heard_of 0 replay.records) s.reader0
    pub side1 : Side limit (prefix_of 1) (heard_of 1 replay.records) s.reader1

  lines_alone : text ≡ printed_text t.lines
  unfolding decisions_text
  lines_alone =
      t.text_is
      ∙ (ap (λ (ds : List Decision). printed_text t.lines ++ decisions_text (prefix_of (direction_of left)) ds) idle.1
      ∙ append-nil (printed_text t.lines))

  is_ending : IsEnding limit past end.number (get_or end.values 0 0) (closing_text limit s end)
  is_ending =
      record {
        line0 = end_line limit 0 s.reader0;
        line1 = end_line limit 1 s.reader1;
        is_line0 = end_line_lem limit 0 (heard_of 0 past) s.reader0 small end_side0;
        is_line1 = end_line_lem limit 1 (heard_of 1 past) s.reader1 small end_side1;
        whole = λ e. rw (eq-eqb end.number 2 e);
        refused = λ e. rw (
          ne_eqb end.number 2 e,
          lt-ltb 50 end.number (reads_number capture past end.number (get_or end.values 0 0) end_reads e),
        );
      }

  pub is_ended : Ended
  is_ended =
      record {
        replay = record {
          records = past;
          number = end.number;
          place = get_or end.values 0 0;
          reads = end_reads;
          lines = t.lines;
          are_lines = t.are_lines;
          ending = closing_text limit s end;
          is_ending = is_ending;
          text_is = ap (λ (l : List ℕ). replay_heading ++ (l ++ closing_text limit s end)) lines_alone;
        };
        side0 = end_side0;
        side1 = end_side1;
      }

pub turns_replay : TurnsReplay
turns_replay limit small capture size turns a w f =
    (is_ended limit small capture size (state_by limit (fresh_of limit) turns)
    (left_by limit (fresh_of limit) capture turns)
    (text_by limit (fresh_of limit) turns)
    (told_turns limit small capture size turns (fresh_of limit) capture [] (told_nothing limit capture) a) w f).replay

-- ---- turns_so_far

part_told : (limit : ℕ) (past : List (List ℕ)) (s : State) (left : List ℕ) (new : List Decision)
    → Within limit past s left new
    → (new ≡ []) ⊎ (IsRecord (take (size_of left) left)
    × Adds limit (heard_of (direction_of left) past) (take s.fed (payload_of left)) new)
part_told limit past s left new (inl h) = inl h.1
part_told limit past s left new (inr h) = inr (((next_says s.place left).record_said h.0).is_record, h.1)

pub turns_so_far : TurnsSoFar
turns_so_far limit small capture size turns a =
    let s : State = state_by limit (fresh_of limit) turns in
    let left : List ℕ = left_by limit (fresh_of limit) capture turns in
    let t : Told limit capture s left (text_by limit (fresh_of limit) turns) =
    told_turns limit small capture size turns (fresh_of limit) capture [] (told_nothing limit capture) a in
    record {
      records = records_by 0 t.windows;
      lines = t.lines;
      part = t.new;
      taken = t.split;
      are_lines = t.are_lines;
      part_of = part_told limit (records_by 0 t.windows) s left t.new t.within;
      text_is = t.text_is
          ∙ sym (printed_both t.lines (lines_of (direction_of left) t.new)
          ∙ ap (λ (l : List ℕ). printed_text t.lines ++ l) (lines_of_text (direction_of left) t.new));
    }

pub turns_stop : TurnsStop
turns_stop limit small capture size turns a w rest front room =
    (told_more limit small capture size (state_by limit (fresh_of limit) turns)
    (left_by limit (fresh_of limit) capture turns) (text_by limit (fresh_of limit) turns) w rest room
    (told_turns limit small capture size turns (fresh_of limit) capture [] (told_nothing limit capture) a) front).stops

-- ---- turns_finish

-- the numbers of finish's answers where nothing is out of range
abbrev closings : List ℕ
closings = 0 ∷ 2 ∷ 51 ∷ 52 ∷ 53 ∷ 54 ∷ []

-- the numbers of next's
abbrev Known : ℕ → Type 0
Known n = among n (0 ∷ 1 ∷ 51 ∷ 52 ∷ 53 ∷ []) ≡ true

next_known : (place : ℕ) (b : List ℕ) → TurnStops (next_of place b).row.number → Known (next_of place b).row.number
unfolding among
next_known place b =
    next_cases place b (λ (y : Outcome ℕ). TurnStops y.row.number → Known y.row.number)
    (λ o s. absurd (s.never_state refl)) (λ s. absurd (s.never_used refl)) (λ s. refl) (λ s. refl) (λ s. refl)
    (λ p s. refl) (λ z h s. refl) (λ l f h s. refl)

-- those of the capture's end
Closing : ℕ → Type 0
Closing n = among n closings ≡ true

refused_known : (n : ℕ) → Known n → n ≢ 0 → n ≢ 1 → Closing n
unfolding among Closing
refused_known n =
    among_holds (λ (m : ℕ). m ≢ 0 → m ≢ 1 → Closing m) n (0 ∷ 1 ∷ 51 ∷ 52 ∷ 53 ∷ []) (
      (λ z o. absurd (z refl)),
      ((λ z o. absurd (o refl)), ((λ z o. refl), ((λ z o. refl), ((λ z o. refl), tt)))),
    )

end_known : (r : Row) (place : ℕ) (b : List ℕ) → Known r.number → Closing (end_in r place b).number
unfolding among Closing
end_known r place b k =
    by_test P (eqb r.number 0)
    (λ z. by_test P (eqb (get_or r.values 0 0) 0)
    (λ v. by_test P (eqb place 0)
    (λ p. by_test P (ltb (length b) 3) (λ l. refl) (λ l. refl))
    (λ p. by_test P (eqb (length b) 0) (λ l. refl) (λ l. refl)))
    (λ v. refl))
    (λ z. by_test P (eqb r.number 1) (λ o. refl)
    (λ o. refused_known r.number k (eqb-false r.number 0 z) (eqb-false r.number 1 o)))
  where
    P : Row → Type 0
    P q = Closing q.number

-- and of finish, where its text fits
closed_known : (end : Row) (text out : List ℕ) → length text ≤ length out → Closing end.number
    → Closing (closed end text out).row.number
unfolding Closing among
closed_known end text out h k =
    rw (le-ltb (length out) (length text) h)
    (by_test P (eqb end.number 2) (λ t. refl) (λ t. by_test P (ltb 50 end.number) (λ u. k) (λ u. k)))
  where
    P : Row → Type 0
    P q = Closing q.number

pub turns_finish : TurnsFinish
unfolding Closing
turns_finish limit small capture size turns a w rest front out h =
    let s : State = state_by limit (fresh_of limit) turns in
    let left : List ℕ = left_by limit (fresh_of limit) capture turns in
    let text : List ℕ = text_by limit (fresh_of limit) turns in
    let t : Told limit capture s left text =
    told_turns limit small capture size turns (fresh_of limit) capture [] (told_nothing limit capture) a in
    let known : Closing (end_of s.place w).number =
    end_known (next_of s.place w).row s.place w
    (next_known s.place w (next_stops limit small capture size s left text t w rest front)) in
    let inside : in_range_of limit s ≡ true = is_in_range limit small capture size s left text t in
    rw inside (closed_known (end_of s.place w) (closing_text limit s (end_of s.place w)) out h known)

-- ---- a capture has one replay

-- the decisions that bytes add
one_addition : (limit : ℕ) (t p : List ℕ) (a b : List Decision) → Adds limit t p a → Adds limit t p b → a ≡ b
one_addition limit t p a b x y =
    let same : x.old ≡ y.old = one_decisions limit t x.old y.old x.before y.before in
    append_cancel y.old a b
    (ap (λ (l : List Decision). l ++ a) (sym same)
    ∙ one_decisions limit (t ++ p) (x.old ++ a) (y.old ++ b) x.after y.after)

one_lines : (limit : ℕ) (past rs : List (List ℕ)) (a b : List Printed)
    → AreLines limit past rs a → AreLines limit past rs b → a ≡ b
unfolding AreLines
one_lines limit past [] a b x y = x ∙ sym y
one_lines limit past (r ∷ rs) a b x y =
    let new : x.0 ≡ y.0 = one_addition limit _ _ x.0 y.0 x.2 y.2 in
    let later : x.1 ≡ y.1 = one_lines limit (past ++ r ∷ []) rs x.1 y.1 x.4 y.4 in
    x.3 ∙ (rw (new, later) (sym y.3))

-- lists of numbers that cannot differ are equal, since that is a test
tested : (a b : List ℕ) → ((a ≡ b → ⊥) → ⊥) → a ≡ b
tested a b f = (Dec.not-not (List-discrete ℕ_discrete a b)).0 f

-- two end lines that differ would differ with an open frame and without one
one_end_line : (limit e : ℕ) (t a b : List ℕ) → IsEndLine limit e t a → IsEndLine limit e t b → a ≡ b
one_end_line limit e t a b x y =
    tested a b (λ differ.
    let none : (start : ℕ) → IsOpen limit t start → ⊥ =
    λ start o. differ (x.left_open start o ∙ sym (y.left_open start o)) in
    differ (x.left_clean none ∙ sym (y.left_clean none)))

one_ending : (limit : ℕ) (rs : List (List ℕ)) (number place : ℕ) (a b : List ℕ)
    → IsEnding limit rs number place a → IsEnding limit rs number place b → a ≡ b
one_ending limit rs number place a b x y =
    either_way (eqb number 2)
    (λ z.
    let two = eqb-true number 2 z in
    let first = one_end_line limit 0 (heard_of 0 rs) x.line0 y.line0 x.is_line0 y.is_line0 in
    let second = one_end_line limit 1 (heard_of 1 rs) x.line1 y.line1 x.is_line1 y.is_line1 in
    x.whole two ∙ (rw (first, second) (sym (y.whole two))))
    (λ z.
    let other = eqb-false number 2 z in
    x.refused other ∙ sym (y.refused other))

-- by the records, the number and the place
same_replay : (limit : ℕ) (rs : List (List ℕ)) (number place : ℕ) (a b : List Printed) (x y : List ℕ)
    → AreLines limit [] rs a → AreLines limit [] rs b
    → IsEnding limit rs number place x → IsEnding limit rs number place y
    → replay_heading ++ (printed_text a ++ x) ≡ replay_heading ++ (printed_text b ++ y)
same_replay limit rs number place a b x y p q f g =
    ap (λ (l : List Printed). replay_heading ++ (printed_text l ++ x)) (one_lines limit [] rs a b p q)
    ∙ ap (λ (l : List ℕ). replay_heading ++ (printed_text b ++ l)) (one_ending limit rs number place x y f g)

pub one_replay : OneReplay
one_replay limit capture a b small p q =
    let same = (one_reading capture).same
    (record { records = p.records; number = p.number; place = p.place; reads = p.reads })
    (record { records = q.records; number = q.number; place = q.place; reads = q.reads }) in
    p.text_is
    ∙ (same_replay limit p.records p.number p.place p.lines q.lines p.ending q.ending
    p.are_lines (rw same.records q.are_lines) p.is_ending
    (rw (same.records, same.number, same.place) q.is_ending)
    ∙ sym q.text_is)

pub any_turns : AnyTurns
any_turns limit small capture size a b x y v w f g =
    one_replay limit capture _ _ small (turns_replay limit small capture size a x v f)
    (turns_replay limit small capture size b y w g)
