-- Claims: stream_correct, what the buyer asks of a stream, of each direction of a capture. PROTOCOL 14.1, 14.9.
use Rattle.std.specs.Prelude.{ℕ, ◌≤◌, ◌≡◌, List, [], ◌∷◌, ◌++◌, length}
use Rattle.frame.specs.Wire.{widest}
use Rattle.frame.specs.State.{State as Reader}
use Rattle.frame.specs.Calls.{fresh_of as fresh_reader}
use Rattle.frame.specs.Decisions.{ListsDecisions}
use Rattle.frame.specs.Frames.{Lists}
use Rattle.frame.specs.FramesComputed.{frames_of}
use Rattle.frame.specs.Logs.{Call, finish, stream, delivered, decisions_of, frames_in}
use Rattle.frame.specs.LogsComputed.{log_of, state_after}
use Rattle.frame.specs.StreamCorrect.{StreamCorrect}
use Rattle.listing.specs.CallTexts.{OnlyFeed}
use Rattle.replay.specs.State.{fresh_of}
use Rattle.replay.specs.Lines.{Printed, decisions_in}
use Rattle.replay.specs.Replays.{heard_of, AreLines, IsReplay}
use Rattle.replay.specs.Turns.{Turn, state_by, left_by, AreWindows, Finishes, written_by}

-- ---- directions_correct: the reader of each direction has been fed the bytes of that direction's complete records
-- before the stop, joined, and no others; its calls, with finish, are stream_correct: frames, bodies, counts, ends; and
-- the lines printed of that direction are its decisions

-- some feeds that lead a fresh reader to the very `reader` that the replay has, and what they gave: a play makes its
-- feeds itself, cut by records and rooms, and how feeds cut a stream changes no decision
pub record DirectionCorrect (limit direction : ℕ) (records : List (List ℕ)) (lines : List Printed)
    (reader : Reader) : Type 0 where
  pub calls : List Call
  pub only_feed : OnlyFeed calls
  pub reader_is : state_after limit (fresh_reader limit) calls ≡ reader
  pub correct : StreamCorrect limit (log_of limit (fresh_reader limit) (calls ++ finish ∷ []))
  pub stream_is : stream (log_of limit (fresh_reader limit) (calls ++ finish ∷ [])) ≡ heard_of direction records
  pub printed : decisions_in direction lines ≡ decisions_of (log_of limit (fresh_reader limit) (calls ++ finish ∷ []))
  pub frames_printed : frames_in (decisions_in direction lines)
      ≡ delivered (log_of limit (fresh_reader limit) (calls ++ finish ∷ []))

-- the replay that turns write, and both readers after them
pub record DirectionsCorrect (limit : ℕ) (capture : List ℕ) (turns : List Turn) (w : List ℕ) : Type 0 where
  pub replay : IsReplay limit capture (written_by limit (fresh_of limit) turns w)
  pub correct0 : DirectionCorrect limit 0 replay.records replay.lines
      (state_by limit (fresh_of limit) turns).reader0
  pub correct1 : DirectionCorrect limit 1 replay.records replay.lines
      (state_by limit (fresh_of limit) turns).reader1

-- of all turns on a capture of up to 2^62 bytes, and then finish
abbrev pub TurnsCorrect : Type 0
TurnsCorrect =
    (limit : ℕ) → limit ≤ widest → (capture : List ℕ) → length capture ≤ 4611686018427387904 → (turns : List Turn)
    → AreWindows limit (fresh_of limit) capture turns
    → (w : List ℕ) → Finishes (state_by limit (fresh_of limit) turns) (left_by limit (fresh_of limit) capture turns) w
    → DirectionsCorrect limit capture turns w

-- ---- frames_printed: of every replay, the frames printed of a direction are the frames of its joined bytes, each
-- once, in order; so with all decisions
pub record FramesPrinted (limit direction : ℕ) (records : List (List ℕ)) (lines : List Printed) : Type 0 where
  pub decisions : ListsDecisions limit (heard_of direction records) (decisions_in direction lines)
  pub frames : frames_in (decisions_in direction lines) ≡ frames_of limit (heard_of direction records)
  pub lists : Lists limit (heard_of direction records) (frames_in (decisions_in direction lines))

-- of both directions
abbrev pub AllFramesPrinted : Type 0
AllFramesPrinted =
    (limit direction : ℕ) → limit ≤ widest → (records : List (List ℕ)) (lines : List Printed)
    → AreLines limit [] records lines → FramesPrinted limit direction records lines

-- ---- other_direction: whatever the other direction's records are, and however they lie between, the lines of a
-- direction depend on its own joined bytes alone
abbrev pub OtherDirection : Type 0
OtherDirection =
    (limit direction : ℕ) → limit ≤ widest → (a b : List (List ℕ)) (p q : List Printed)
    → AreLines limit [] a p → AreLines limit [] b q → heard_of direction a ≡ heard_of direction b
    → decisions_in direction p ≡ decisions_in direction q
