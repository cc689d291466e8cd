-- The reader of one direction, as calls of a fresh reader led to it. Assumes nothing.
use Prim.Native.Nat.{ℕ, ◌≤◌}
use mathlib.Core.Bool.{Bool, true, false}
use mathlib.Core.Path.{◌≡◌, refl, sym, ap, subst, ◌∙◌}
use mathlib.Core.List.{List, [], ◌∷◌, ◌++◌, append-nil, append_assoc}
use native.Mathlib.Omega.{arith}
use lib.ListN.{take}
use Rattle.base.specs.Outcomes.{Outcome}
use Rattle.base.specs.Runs.{Run}
use Rattle.frame.specs.Wire.{widest}
use Rattle.frame.specs.State.{State as Reader}
use Rattle.frame.specs.Rules.{in_range_of}
use Rattle.frame.specs.Calls.{fresh_of as fresh_reader, finish_of}
use Rattle.frame.specs.Decisions.{Decision, ListsDecisions, IsOpen}
use Rattle.frame.specs.Logs.{Call, stream, decisions_of}
use Rattle.frame.specs.LogsComputed.{log_of, state_after}
use Rattle.frame.specs.StreamCorrect.{FinishCorrect}
use Rattle.frame.proofs.Decisions.{each_decision, finish_correct}
use Rattle.listing.specs.CallTexts.{OnlyFeed}
use Rattle.listing.specs.Feeding.{list_of}
use Rattle.listing.specs.Listing.{decisions_text}
use Rattle.listing.specs.Turns.{Turn, turns_of}
use Rattle.listing.specs.TurnListings.{TurnStops}
use Rattle.listing.proofs.RunAdds.{run_adds}
use Rattle.listing.proofs.TurnListings.{turns_stop}
use Rattle.replay.specs.Replays.{Adds}

-- the bytes t led to the reader r
pub record Side (limit : ℕ) (prefix t : List ℕ) (r : Reader) : Type 0 where
  pub calls : List Call
  pub only : OnlyFeed calls
  pub state_is : state_after limit (fresh_reader limit) calls ≡ r
  pub stream_is : stream (log_of limit (fresh_reader limit) calls) ≡ t
  -- the same as calls of the listing's loop
  pub turns : List Turn
  pub turned : ((turns_of limit prefix (fresh_reader limit) turns).state ≡ r)
      × ((turns_of limit prefix (fresh_reader limit) turns).consumed ≡ t)

pub fresh_side : (limit : ℕ) (prefix : List ℕ) → Side limit prefix [] (fresh_reader limit)
unfolding state_after log_of stream turns_of
fresh_side limit prefix =
    record { calls = []; only = tt; state_is = refl; stream_is = refl; turns = []; turned = (refl, refl) }

-- a turn more
turned_more : (limit : ℕ) (prefix : List ℕ) (r : Reader) (ts : List Turn) (t : Turn)
    → ((turns_of limit prefix r (ts ++ t ∷ [])).state
    ≡ (list_of limit prefix (turns_of limit prefix r ts).state t.bytes t.room).state)
    × ((turns_of limit prefix r (ts ++ t ∷ [])).consumed
    ≡ (turns_of limit prefix r ts).consumed
    ++ take (list_of limit prefix (turns_of limit prefix r ts).state t.bytes t.room).used t.bytes)
unfolding turns_of
turned_more limit prefix r [] t =
    (refl, append-nil (take (list_of limit prefix r t.bytes t.room).used t.bytes))
turned_more limit prefix r (u ∷ us) t =
    let run : Run Reader = list_of limit prefix r u.bytes u.room in
    let later = turned_more limit prefix run.state us t in (
      later.0,
      ap (λ (l : List ℕ). take run.used u.bytes ++ l) later.1
          ∙ sym (append_assoc (take run.used u.bytes) (turns_of limit prefix run.state us).consumed
          (take (list_of limit prefix (turns_of limit prefix run.state us).state t.bytes t.room).used
          t.bytes)),
    )

module _ (limit : ℕ) (small : limit ≤ widest) where
  -- the decisions over its bytes
  pub side_lists : {prefix t : List ℕ} {r : Reader} (s : Side limit prefix t r)
      → ListsDecisions limit t (decisions_of (log_of limit (fresh_reader limit) s.calls))
  side_lists s = rw s.stream_is at (each_decision limit small s.calls)

  -- no bytes add no decision
  pub adds_none : {prefix t : List ℕ} {r : Reader} → Side limit prefix t r → Adds limit t [] []
  adds_none {prefix} {t} {r} s =
      let ds : List Decision = decisions_of (log_of limit (fresh_reader limit) s.calls) in
      record { old = ds; before = side_lists s; after = rw (append-nil t, append-nil ds) (side_lists s) }

  -- a run of the listing's loop
  pub record Fed (prefix t bytes : List ℕ) (run : Run Reader) : Type 0 where
    pub new : List Decision
    pub side : Side limit prefix (t ++ take run.used bytes) run.state
    pub adds : Adds limit t (take run.used bytes) new
    pub text_is : run.text ≡ decisions_text prefix new

  pub feed_side : (prefix t bytes : List ℕ) (r : Reader) (room : ℕ)
      → Side limit prefix t r → Fed prefix t bytes (list_of limit prefix r bytes room)
  feed_side prefix t bytes r room s =
      subst (λ (q : Reader). Fed prefix t bytes (list_of limit prefix q bytes room)) s.state_is fed
    where
      turn : Turn
      turn = record { bytes = bytes; room = room }

      more_turned : ((turns_of limit prefix (fresh_reader limit) (s.turns ++ turn ∷ [])).state
          ≡ (list_of limit prefix (state_after limit (fresh_reader limit) s.calls) bytes room).state)
          × ((turns_of limit prefix (fresh_reader limit) (s.turns ++ turn ∷ [])).consumed
          ≡ t ++ take (list_of limit prefix (state_after limit (fresh_reader limit) s.calls) bytes room).used bytes)
      more_turned =
          let same : (turns_of limit prefix (fresh_reader limit) s.turns).state
          ≡ state_after limit (fresh_reader limit) s.calls = s.turned.0 ∙ sym s.state_is in
          rw (same, s.turned.1) at (turned_more limit prefix (fresh_reader limit) s.turns turn)

      fed : Fed prefix t bytes (list_of limit prefix (state_after limit (fresh_reader limit) s.calls) bytes room)
      fed =
          let a = run_adds prefix limit small s.calls s.only bytes room in
          let run : Run Reader = list_of limit prefix (state_after limit (fresh_reader limit) s.calls) bytes room in
          let all : stream (log_of limit (fresh_reader limit) (s.calls ++ a.more)) ≡ t ++ take run.used bytes =
          a.stream_is ∙ ap (λ (l : List ℕ). l ++ take run.used bytes) s.stream_is in
          record {
            new = a.new;
            side = record {
              calls = s.calls ++ a.more;
              only = a.only_feed;
              state_is = a.state_is;
              stream_is = all;
              turns = s.turns ++ turn ∷ [];
              turned = more_turned;
            };
            adds = record {
              old = decisions_of (log_of limit (fresh_reader limit) s.calls);
              before = side_lists s;
              after = rw (all, a.decisions_are) at (each_decision limit small (s.calls ++ a.more));
            };
            text_is = a.text_is;
          }

  -- why it stops
  pub side_stops : (prefix t bytes : List ℕ) (r : Reader) (room : ℕ)
      → Side limit prefix t r → TurnStops t bytes (list_of limit prefix r bytes room)
  side_stops prefix t bytes r room s =
      rw (s.turned.0, s.turned.1) at (turns_stop prefix limit small s.turns
      (record { bytes = bytes; room = room }))

  -- the reader is in range: its end is asked, and the answer is not STATE
  pub side_range : {prefix t : List ℕ} {r : Reader} → Side limit prefix t r → in_range_of limit r.scan ≡ true
  side_range {prefix} {t} {r} s = go (in_range_of limit r.scan) refl
    where
      asked : FinishCorrect limit t r
      asked = rw (s.stream_is, s.state_is) at (finish_correct limit small s.calls)

      refused : in_range_of limit r.scan ≡ false → (finish_of limit r).row.number ≡ 17
      refused e = rw e

      go : (b : Bool) → in_range_of limit r.scan ≡ b → b ≡ true
      go true e = refl
      go false e =
          let number : (y : Outcome Reader) → finish_of limit r ≡ y → y.row.number ≡ 17 =
          λ y f. sym (ap (λ (z : Outcome Reader). z.row.number) f) ∙ refused e in
          let none : (start : ℕ) → IsOpen limit t start → ⊥ =
          λ start o. omega (arith, number _ (asked.left_open start o)) in
          absurd (omega (arith, number _ (asked.left_clean none)))
