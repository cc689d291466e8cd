-- stream_correct of each direction of a capture. Assumes nothing.
use Prim.Native.Nat.{ℕ, ◌≤◌}
use mathlib.Core.Path.{◌≡◌, refl, sym, ap, subst, ◌∙◌}
use mathlib.Core.Bool.{Bool, true, false, cond}
use mathlib.Core.List.{List, [], ◌∷◌, ◌++◌, append-nil, append_assoc}
use borrow.Author.Tests.{eqb-true}
use lib.ListN.{take}
use lib.Dec.{eqb}
use Rattle.frame.specs.Wire.{widest}
use Rattle.frame.specs.State.{State as Reader}
use Rattle.frame.specs.Calls.{fresh_of as fresh_reader}
use Rattle.frame.specs.Decisions.{Decision, ListsDecisions}
use Rattle.frame.specs.FramesComputed.{frames_of}
use Rattle.frame.specs.Logs.{Call, finish, Entry, offered, consumed_in, stream, decisions_of}
use Rattle.frame.specs.LogsComputed.{call_of, entry_of, log_of}
use Rattle.frame.proofs.Decisions.{each_decision}
use Rattle.frame.proofs.StreamCorrect.{stream_correct}
use Rattle.frame.proofs.Unique.{one_list, one_decisions, decided_frames}
use Rattle.capture.specs.Format.{direction_of, payload_of}
use Rattle.replay.specs.Lines.{Printed, lines_of, decisions_in, prefix_of}
use Rattle.replay.specs.State.{State, fresh_of}
use Rattle.replay.specs.Replays.{heard_of, Adds, AreLines}
use Rattle.replay.specs.Turns.{state_by, text_by, left_by}
use Rattle.replay.specs.Directions.{DirectionCorrect, TurnsCorrect, AllFramesPrinted, OtherDirection}
use Rattle.replay.proofs.LineLaws.{heard_more}
use Rattle.replay.proofs.Sides.{Side}
use Rattle.replay.proofs.Told.{Told, told_nothing, told_turns}
use Rattle.replay.proofs.TurnReplays.{is_ended}

-- ---- the decisions of a direction

-- among the lines of one record, and others
decisions_of_lem : (d e : ℕ) (new : List Decision) (later : List Printed)
    → decisions_in d (lines_of e new ++ later) ≡ cond (eqb e d) new [] ++ decisions_in d later
unfolding decisions_in lines_of
decisions_of_lem d e [] later = go (eqb e d)
  where
    go : (t : Bool) → decisions_in d later ≡ cond t [] [] ++ decisions_in d later
    go true = refl
    go false = refl
decisions_of_lem d e (x ∷ new) later = go (eqb e d) (decisions_in d later) _ (decisions_of_lem d e new later)
  where
    go : (t : Bool) (l m : List Decision) → m ≡ cond t new [] ++ l → cond t (x ∷ m) m ≡ cond t (x ∷ new) [] ++ l
    go true l m h = ap (λ (k : List Decision). x ∷ k) h
    go false l m h = h

module _ (limit d : ℕ) where
  -- a record more, of that direction or not
  own_record : (t p : List ℕ) (old new : List Decision) → Adds limit t p new → ListsDecisions limit t old
      → ListsDecisions limit (t ++ p) (old ++ new)
  own_record t p old new a h =
      subst (λ (l : List Decision). ListsDecisions limit (t ++ p) (l ++ new))
      (one_decisions limit t a.old old a.before h) a.after

  one_record : (past : List (List ℕ)) (r : List ℕ) (old new : List Decision)
      → Adds limit (heard_of (direction_of r) past) (payload_of r) new → ListsDecisions limit (heard_of d past) old
      → ListsDecisions limit (heard_of d (past ++ r ∷ [])) (old ++ cond (eqb (direction_of r) d) new [])
  one_record past r old new a h =
      subst (λ (l : List ℕ). ListsDecisions limit l (old ++ cond (eqb (direction_of r) d) new []))
      (sym (heard_more d past r)) (go (eqb (direction_of r) d) refl)
    where
      go : (t : Bool) → eqb (direction_of r) d ≡ t
          → ListsDecisions limit (heard_of d past ++ cond t (payload_of r) []) (old ++ cond t new [])
      go true e =
          own_record (heard_of d past) (payload_of r) old new
          (subst (λ (k : ℕ). Adds limit (heard_of k past) (payload_of r) new) (eqb-true (direction_of r) d e) a) h
      go false e = rw (append-nil (heard_of d past), append-nil old) h

  -- the decisions after those of the records before
  decisions_after : (old here later : List Decision) (all : List Decision) → all ≡ here ++ later
      → (old ++ here) ++ later ≡ old ++ all
  decisions_after old here later all e = append_assoc old here later ∙ ap (λ (l : List Decision). old ++ l) (sym e)

  lines_list : (past rs : List (List ℕ)) (lines : List Printed) (old : List Decision)
      → AreLines limit past rs lines → ListsDecisions limit (heard_of d past) old
      → ListsDecisions limit (heard_of d (past ++ rs)) (old ++ decisions_in d lines)
  unfolding AreLines decisions_in
  lines_list past [] lines old a h = rw (a, append-nil past, append-nil old) h
  lines_list past (r ∷ rs) lines old a h =
      two_paths (append_assoc past (r ∷ []) rs)
      (decisions_after old (cond (eqb (direction_of r) d) a.0 []) (decisions_in d a.1) (decisions_in d lines)
      (ap (decisions_in d) a.3 ∙ decisions_of_lem d (direction_of r) a.0 a.1))
      (lines_list (past ++ r ∷ []) rs a.1 (old ++ cond (eqb (direction_of r) d) a.0 []) a.4
      (one_record past r old a.0 a.2 h))
    where
      two_paths : {x y : List (List ℕ)} {m n : List Decision} → x ≡ y → m ≡ n
          → ListsDecisions limit (heard_of d x) m → ListsDecisions limit (heard_of d y) n
      two_paths {x} {y} {m} {n} e f l =
          subst (λ (k : List Decision). ListsDecisions limit (heard_of d y) k) f
          (subst (λ (k : List (List ℕ)). ListsDecisions limit (heard_of d k) m) e l)

  -- of no bytes there is none
  nothing_decided : limit ≤ widest → ListsDecisions limit [] []
  unfolding log_of stream decisions_of
  nothing_decided small = each_decision limit small []

  all_decisions : limit ≤ widest → (rs : List (List ℕ)) (lines : List Printed)
      → AreLines limit [] rs lines → ListsDecisions limit (heard_of d rs) (decisions_in d lines)
  unfolding heard_of
  all_decisions small rs lines a = lines_list [] rs lines [] a (nothing_decided small)

pub frames_printed : AllFramesPrinted
frames_printed limit d small rs lines a =
    let decisions = all_decisions limit d small rs lines a in
    let frames = decided_frames limit small (heard_of d rs) (decisions_in d lines) decisions in
    record {
      decisions = decisions;
      frames = frames;
      lists = rw frames (one_list limit small (heard_of d rs)).0;
    }

pub other_direction : OtherDirection
other_direction limit d small a b p q x y same =
    one_decisions limit (heard_of d b) (decisions_in d p) (decisions_in d q)
    (rw same at (all_decisions limit d small a p x)) (all_decisions limit d small b q y)

-- ---- directions_correct

-- the end asked consumes nothing
stream_finished : (limit : ℕ) (calls : List Call) (r : Reader)
    → stream (log_of limit r (calls ++ finish ∷ [])) ≡ stream (log_of limit r calls)
unfolding log_of stream
stream_finished limit [] r = refl
stream_finished limit (c ∷ cs) r =
    let e : Entry = entry_of r c (call_of limit r c) in
    ap (λ (l : List ℕ). take (consumed_in e) (offered c) ++ l) (stream_finished limit cs (call_of limit r c).state)

direction_correct : (limit d : ℕ) → limit ≤ widest → (rs : List (List ℕ)) (lines : List Printed) (r : Reader)
    → AreLines limit [] rs lines → Side limit (prefix_of d) (heard_of d rs) r → DirectionCorrect limit d rs lines r
direction_correct limit d small rs lines r a s =
    let log : List Entry = log_of limit (fresh_reader limit) (s.calls ++ finish ∷ []) in
    let bytes : stream log ≡ heard_of d rs = stream_finished limit s.calls (fresh_reader limit) ∙ s.stream_is in
    let printed = frames_printed limit d small rs lines a in
    let correct = stream_correct limit small (s.calls ++ finish ∷ []) in
    record {
      calls = s.calls;
      only_feed = s.only;
      reader_is = s.state_is;
      correct = correct;
      stream_is = bytes;
      printed = one_decisions limit (heard_of d rs) (decisions_in d lines) (decisions_of log) printed.decisions
          (rw bytes at (each_decision limit small (s.calls ++ finish ∷ [])));
      frames_printed = printed.frames
          ∙ (ap (λ (l : List ℕ). frames_of limit l) (sym bytes) ∙ sym correct.frames);
    }

pub directions_correct : TurnsCorrect
directions_correct limit small capture size turns a w f =
    let s : State = state_by limit (fresh_of limit) turns in
    let left : List ℕ = left_by limit (fresh_of limit) capture turns in
    let text : List ℕ = text_by limit (fresh_of limit) turns in
    let t : Told limit capture s left text =
    told_turns limit small capture size turns (fresh_of limit) capture [] (told_nothing limit capture) a in
    let e = is_ended limit small capture size s left text t w f in
    let lines = e.replay.are_lines in
    record {
      replay = e.replay;
      correct0 = direction_correct limit 0 small _ _ s.reader0 lines e.side0;
      correct1 = direction_correct limit 1 small _ _ s.reader1 lines e.side1;
    }
