-- Claims: one call of the loop: what it returns and leaves, why it stops, and that it moves on. PROTOCOL 10.8 to 10.10.
use Rattle.std.specs.Prelude.{ℕ, ◌+◌, ◌≤◌, ◌<◌, ◌≡◌, ◌≢◌, true, List, [], ◌∷◌, ◌++◌, length, take, drop}
use Rattle.base.specs.Runs.{Run}
use Rattle.base.specs.Rows.{row}
use Rattle.base.specs.Keys.{among}
use Rattle.frame.specs.State.{State, state_of}
use Rattle.frame.specs.Wire.{widest}
use Rattle.frame.specs.Calls.{fresh_of, feed_of}
use Rattle.frame.specs.Decisions.{Decision}
use Rattle.frame.specs.LogsComputed.{log_of, state_after, offer}
use Rattle.frame.specs.Logs.{Call, stream, decisions_of}
use Rattle.listing.specs.Table.{stop_of}
use Rattle.listing.specs.CallTexts.{feed_text, OnlyFeed}
use Rattle.listing.specs.Listing.{decisions_text}
use Rattle.listing.specs.Feeding.{list_of, left_of}
use Rattle.frame.specs.declared.reader.Reader.{Reader}
use Rattle.listing.specs.declared.feeding.Listed.{Listed}
use Rattle.listing.specs.declared.feeding.Stop.TheVariants as stop

-- ---- stop_numbers_lem: the number of each stop: PROTOCOL 10.10
pub record StopNumbers : Type 0 where
  pub done : stop_of stop.Done ≡ 0
  pub room : stop_of stop.Room ≡ 22
  pub state : stop_of stop.State ≡ 17
  pub used : stop_of stop.Used ≡ 18

-- ---- left_fields: what the contract's equation says of each field that the code returns, and of what it leaves
pub record LeftFields (l : Listed × Reader) (after : List ℕ) : Type 0 where
  pub state : (left_of l after).state ≡ state_of l.1
  pub used : (left_of l after).used ≡ l.0.used
  pub written : (left_of l after).written ≡ l.0.written
  pub stop : (left_of l after).stop ≡ stop_of l.0.stop
  pub out : (left_of l after).out ≡ after

-- of everything that it may return
abbrev pub LeftFieldsAlways : Type 0
LeftFieldsAlways = (l : Listed × Reader) (after : List ℕ) → LeftFields l after

-- ---- loop_lists: the loop's feeds are those of a sender that offers the bytes until they are consumed: the text is
-- their lines, none lost, none twice, in order, and the bytes used are those that they consumed

-- a run is made by some number of feeds; and why it stopped
pub record RunOfFeeds (limit : ℕ) (prefix : List ℕ) (r : State) (bytes : List ℕ) (room : ℕ)
    (run : Run State) : Type 0 where
  pub calls : ℕ
  pub text_is : run.text ≡ feed_text prefix (log_of limit r (offer limit calls r bytes))
  pub state_is : run.state ≡ state_after limit r (offer limit calls r bytes)
  pub consumed_is : stream (log_of limit r (offer limit calls r bytes)) ≡ take run.used bytes
  pub within : run.used ≤ length bytes
  pub stops : among run.stop (0 ∷ 17 ∷ 18 ∷ 22 ∷ []) ≡ true
  pub done : run.stop ≡ 0 → run.used ≡ length bytes
  pub room_left : run.stop ≡ 22 → (run.used < length bytes) × (room < length run.text + length prefix + 132)
  pub at_state : run.stop ≡ 17 → (feed_of limit run.state (drop run.used bytes)).row ≡ row 17 (0 ∷ [])
  pub at_used : run.stop ≡ 18 → (feed_of limit run.state (drop run.used bytes)).row ≡ row 18 (0 ∷ [])

-- of any state, bytes and room
abbrev pub LoopLists : Type 0
LoopLists =
    (limit : ℕ) (prefix : List ℕ) (r : State) (bytes : List ℕ) (room : ℕ)
    → RunOfFeeds limit prefix r bytes room (list_of limit prefix r bytes room)

-- ---- state_first: a reader out of range stops it for STATE, even with no room and no bytes: PROTOCOL 10.10
abbrev pub StateFirst : Type 0
StateFirst =
    (limit : ℕ) (prefix : List ℕ) (r : State) (bytes : List ℕ) (room : ℕ) → (feed_of limit r bytes).row.number ≡ 17
    → list_of limit prefix r bytes room ≡ record { state = r; used = 0; text = []; stop = 17 }

-- ---- loop_progress: with a byte offered and room for a line, a byte is used, unless STATE or USED stops it
abbrev pub LoopProgress : Type 0
LoopProgress =
    (limit : ℕ) (prefix : List ℕ) (r : State) (bytes : List ℕ) (room : ℕ)
    → 1 ≤ length bytes → length prefix + 132 ≤ room
    → (list_of limit prefix r bytes room).stop ≢ 17 → (list_of limit prefix r bytes room).stop ≢ 18
    → 1 ≤ (list_of limit prefix r bytes room).used

-- ---- run_adds: after any feeds of a fresh reader, a run makes the lines of the decisions that the bytes used add

-- the feeds of the run, which follow others, and the decisions that they add to those before
pub record RunAdds (prefix : List ℕ) (limit : ℕ) (calls : List Call) (bytes : List ℕ) (run : Run State) : Type 0 where
  pub more : List Call
  pub only_feed : OnlyFeed (calls ++ more)
  pub new : List Decision
  pub state_is : state_after limit (fresh_of limit) (calls ++ more) ≡ run.state
  pub stream_is : stream (log_of limit (fresh_of limit) (calls ++ more))
      ≡ stream (log_of limit (fresh_of limit) calls) ++ take run.used bytes
  pub decisions_are : decisions_of (log_of limit (fresh_of limit) (calls ++ more))
      ≡ decisions_of (log_of limit (fresh_of limit) calls) ++ new
  pub text_is : run.text ≡ decisions_text prefix new

-- of any bytes and room
abbrev pub RunsAdd : Type 0
RunsAdd =
    (prefix : List ℕ) (limit : ℕ) → limit ≤ widest → (calls : List Call) → OnlyFeed calls → (bytes : List ℕ) (room : ℕ)
    → RunAdds prefix limit calls bytes (list_of limit prefix (state_after limit (fresh_of limit) calls) bytes room)

-- ---- lines_joined: the lines of decisions are those of the first ones, and then those of the others
abbrev pub LinesJoined : Type 0
LinesJoined =
    (prefix : List ℕ) (a b : List Decision)
    → decisions_text prefix (a ++ b) ≡ decisions_text prefix a ++ decisions_text prefix b
