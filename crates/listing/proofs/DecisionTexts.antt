-- The lines of a list of calls are those of the decisions, of which frame's claim `each_decision` speaks.
-- Assumes nothing.
use Prim.Native.Nat.{ℕ, ◌+◌, ◌≤◌, ◌<◌}
use mathlib.Core.Path.{◌≡◌, refl, sym, ap, ◌∙◌}
use mathlib.Core.Bool.{Bool, true, false, cond}
use mathlib.Core.List.{List, [], ◌∷◌, ◌++◌, Memᴰ}
use native.Mathlib.Omega.{arith}
use borrow.Author.Tests.{eqb-true}
use lib.ListN.{length, get_or, length-take, length-drop}
use lib.Seq.{get_or-take}
use lib.Dec.{eqb}
use Rattle.frame.specs.Wire.{length_of, payload_of}
use Rattle.frame.specs.Frames.{front_body}
use Rattle.base.specs.Rows.{Row, row}
use Rattle.frame.specs.Rules.{in_range_of}
use Rattle.base.specs.Outcomes.{Outcome}
use Rattle.frame.specs.Calls.{finish_row_in, fresh_of, feed_of, finish_of}
use Rattle.frame.specs.Logs.{Call, feed, finish, Entry, decided, decision_in, decisions_of, body_held}
use Rattle.frame.specs.LogsComputed.{entry_of, log_of}
use Rattle.frame.specs.Decisions.{Decision, Decides, is_frame_lem, is_short, is_long, is_stuff, is_stuff_late, is_cut}
use Rattle.frame.specs.Decisions.{is_sum}
use Rattle.frame.specs.State.{Phase, Idle, Half, Header, Open, Escape, Scan, State}
use Rattle.base.proofs.Tests.{by_test}
use Rattle.frame.proofs.Decisions.{each_decision}
use Rattle.listing.specs.Lines.{body_columns, answer_text}
use Rattle.listing.specs.CallTexts.{feed_text}
use Rattle.listing.specs.Listing.{decisions_text}
use Rattle.listing.specs.WholeListing.{EachListed}

-- ---- the fields of a body are in its first L + 2 bytes

-- a byte among them
front_at : (b : List ℕ) (i : ℕ) → i < length_of b + 2 → get_or (front_body b) i 0 ≡ get_or b i 0
front_at b i h = get_or-take (length_of b + 2) b i 0 h

front_length : (b : List ℕ) → length_of (front_body b) ≡ length_of b
front_length b = rw (front_at b 0 (omega arith), front_at b 1 (omega arith))

front_payload : (b : List ℕ) → 5 ≤ length_of b → length (payload_of (front_body b)) ≡ length (payload_of b)
front_payload b h = rw front_length (simp (length-take, length-drop) (omega arith))

columns_front : (b : List ℕ) → 5 ≤ length_of b → body_columns (front_body b) ≡ body_columns b
columns_front b h =
    rw (
      front_payload b h,
      front_at b 2 (omega arith),
      front_at b 3 (omega arith),
      front_at b 4 (omega arith),
      front_at b 5 (omega arith),
    )

-- ---- an answer that decides nothing has no line

-- a number that decides nothing is not one that decides
other : (n k : ℕ) → decided n ≡ false → decided k ≡ true → eqb n k ≡ false
other n k f t = go (eqb n k) refl
  where
    go : (e : Bool) → eqb n k ≡ e → e ≡ false
    go false p = refl
    go true p = let z : true ≡ false = sym t ∙ (ap decided (sym (eqb-true n k p)) ∙ f) in z

no_text : (prefix : List ℕ) (r : Row) (body : List ℕ) → decided r.number ≡ false → answer_text prefix r body ≡ []
no_text prefix r body f =
    rw (
      other r.number 1 f refl,
      other r.number 11 f refl,
      other r.number 12 f refl,
      other r.number 13 f refl,
      other r.number 14 f refl,
      other r.number 15 f refl,
      other r.number 19 f refl,
    )

-- finish decides nothing
ending_undecided : (f : Phase) (s : Scan) → decided (finish_row_in f s).number ≡ false
ending_undecided Idle s = refl
ending_undecided Half s = refl
ending_undecided Header s = refl
ending_undecided Open s = refl
ending_undecided Escape s = refl

finish_undecided : (limit : ℕ) (r : State) → decided (finish_of limit r).row.number ≡ false
finish_undecided limit r =
    by_test (λ (y : Outcome State). decided y.row.number ≡ false) (in_range_of limit r.scan)
    (λ e. ending_undecided r.scan.phase r.scan) (λ e. refl)

-- ---- an answer that decides has the text of its decision

-- where a test picks, the texts picked are equal
same_picked : (t : Bool) (x y z : List ℕ) → (t ≡ true → x ≡ y) → cond t x z ≡ cond t y z
same_picked true x y z f = f refl
same_picked false x y z f = refl

-- at FRAME the length is at least 5
abbrev Long : Decision → Type 0
Long l = l.number ≡ 1 → 5 ≤ length_of l.body

entry_text : (prefix : List ℕ) (e : Entry) → Long (decision_in e)
    → answer_text prefix e.row e.after.body
    ≡ answer_text prefix (row e.row.number (0 ∷ (decision_in e).start ∷ (decision_in e).end ∷ [])) (decision_in e).body
entry_text prefix e h =
    same_picked (eqb e.row.number 1) _ _ _
    (λ t.
    let frame = eqb-true e.row.number 1 t in
    let held : body_held e.row.number e.after.body ≡ front_body e.after.body =
    ap (λ (n : ℕ). body_held n e.after.body) frame in
    let long : 5 ≤ length_of e.after.body = rw (held, front_length e.after.body) at (h frame) in
    rw (held, columns_front e.after.body long))

-- ---- over a list of calls

abbrev AllLong : List Decision → Type 0
AllLong ls = (l : Decision) → Memᴰ l ls → Long l

module _ (prefix : List ℕ) where
  -- a call's line before those of the others, or none
  one_more : (e : Entry) (ls : List Decision) (text : List ℕ) → (AllLong ls → text ≡ decisions_text prefix ls)
      → (t : Bool) → decided e.row.number ≡ t → AllLong (cond t (decision_in e ∷ ls) ls)
      → answer_text prefix e.row e.after.body ++ text ≡ decisions_text prefix (cond t (decision_in e ∷ ls) ls)
  unfolding decisions_text
  one_more e ls text f true d h =
      rw (entry_text prefix e (h (decision_in e) (Memᴰ.head refl)), f (λ l m. h l (Memᴰ.tail m)))
  one_more e ls text f false d h = rw (no_text prefix e.row e.after.body d) (f h)

  none_more : (l : Decision) (ls : List Decision) (text : List ℕ) → (AllLong ls → text ≡ decisions_text prefix ls)
      → (t : Bool) → t ≡ false → AllLong (cond t (l ∷ ls) ls) → text ≡ decisions_text prefix (cond t (l ∷ ls) ls)
  none_more l ls text f true d h = let z : ◌≡◌ {A = ℕ} 0 1 = cc in absurd (omega arith)
  none_more l ls text f false d h = f h

  texts_listed : (limit : ℕ) (calls : List Call) (r : State) → AllLong (decisions_of (log_of limit r calls))
      → feed_text prefix (log_of limit r calls) ≡ decisions_text prefix (decisions_of (log_of limit r calls))
  unfolding log_of decisions_of feed_text decisions_text
  texts_listed limit [] r h = refl
  texts_listed limit (feed bytes ∷ cs) r h =
      let y : Outcome State = feed_of limit r bytes in
      one_more (entry_of r (feed bytes) y) _ _ (λ a. texts_listed limit cs y.state a) (decided y.row.number)
      refl h
  texts_listed limit (finish ∷ cs) r h =
      let y : Outcome State = finish_of limit r in
      none_more _ _ _ (λ a. texts_listed limit cs y.state a) (decided y.row.number) (finish_undecided limit r) h

-- a decision of number 1 is a frame, and its length is at least 5
frame_long : {limit : ℕ} {raw values body : List ℕ} {n : ℕ} → Decides limit raw n values body → n ≡ 1
    → 5 ≤ length_of body
frame_long (is_frame_lem b e v f w g) one = rw f g.shortest
frame_long (is_short b e v f w g h) one = absurd (omega arith)
frame_long (is_long b e v f w g h i j) one = absurd (omega arith)
frame_long (is_stuff b x e v f w g) one = absurd (omega arith)
frame_long (is_stuff_late b x e v f w g) one = absurd (omega arith)
frame_long (is_cut b e v f w g) one = absurd (omega arith)
frame_long (is_sum b e v f w g) one = absurd (omega arith)

pub each_listed : EachListed
each_listed prefix limit small calls =
    texts_listed prefix limit calls (fresh_of limit)
    (λ l m. frame_long ((each_decision limit small calls).sound l m).decides)
