-- Claims: worked replays, by computation. PROTOCOL 14.1 to 14.5.
use Rattle.std.specs.Prelude.{ℕ, ◌≡◌, List, [], ◌∷◌, ◌++◌, take, drop, replicate}
use Rattle.base.specs.Rows.{row}
use Rattle.base.specs.Outcomes.{output, placed}
use Rattle.frame.specs.Wire.{frame_limit}
use Rattle.listing.specs.Lines.{ascii}
use Rattle.listing.specs.WorkedListings.{example_stream}
use Rattle.capture.specs.Format.{head, record_bytes}
use Rattle.replay.specs.Lines.{replay_heading}
use Rattle.replay.specs.State.{State, fresh_of}
use Rattle.replay.specs.Closing.{close_of}
use Rattle.replay.specs.Turns.{Turn, state_by, left_by, AreWindows, Finishes, written_by}

-- a replay at the beginning of a capture
abbrev pub fresh : State
fresh = fresh_of frame_limit

-- a turn
abbrev pub turn : List ℕ → ℕ → Turn
turn window room = record { window = window; room = room }

-- ---- worked_replay: both directions, with one window on all, and with small windows and rooms

-- a frame of direction 0 in two records, with a record of direction 1 and an empty one between; what follows the frame
-- is open. The record of direction 1 has a frame and a refused one
abbrev pub example_capture : List ℕ
example_capture =
    0x4C ∷ 0x46 ∷ 0x54 ∷ 0x00 ∷ 0x01
    ∷ 0x00 ∷ 0x00 ∷ 0x00 ∷ 0x00 ∷ 0x00 ∷ 0x00 ∷ 0x05 ∷ 0xFF ∷ 0xFF ∷ 0x00 ∷ 0x05 ∷ 0x07
    ∷ 0x01 ∷ 0x00 ∷ 0x00 ∷ 0x03 ∷ 0xE8 ∷ 0x00 ∷ 0x0D
    ∷ 0xFF ∷ 0xFF ∷ 0x00 ∷ 0x05 ∷ 0x07 ∷ 0x02 ∷ 0x00 ∷ 0x00 ∷ 0x0E ∷ 0xFF ∷ 0xFF ∷ 0x00 ∷ 0x04
    ∷ 0x00 ∷ 0x00 ∷ 0x00 ∷ 0x03 ∷ 0xE9 ∷ 0x00 ∷ 0x00
    ∷ 0x00 ∷ 0xFF ∷ 0xFF ∷ 0xFF ∷ 0xFF ∷ 0x00 ∷ 0x08 ∷ 0x01 ∷ 0x00 ∷ 0x00 ∷ 0x0D ∷ 0xFF ∷ 0xFF ∷ 0x00 ∷ 0x05 ∷ []

-- its replay
abbrev pub example_text : List ℕ
example_text =
    ascii "dir kind start end cmd sn flags payload\n1 frame 0 9 7 2 0 0\n1 short 9 13 - - - -\n0 frame 0 9 7 1 0 0\n"
    ++ ascii "0 open 9\n1 clean 13\n"

-- one window holds all of it, with room for all lines
abbrev pub one_turn : List Turn
one_turn = turn example_capture 500 ∷ []

-- a part of the example, from a place on
abbrev pub part : ℕ → ℕ → List ℕ
part at count = take count (drop at example_capture)

-- windows that cut the head and records, and rooms for one line, for none, or for nothing
abbrev pub small_turns : List Turn
small_turns =
    turn (part 0 3) 134  -- not the whole head
    ∷ turn (part 0 12) 134  -- the head, and a record of which bytes lack
    ∷ turn (part 5 31) 134  -- that record; of the next one a byte lacks
    ∷ turn (part 17 20) 134  -- the next one's first line
    ∷ turn (part 17 20) 134  -- its second line
    ∷ turn (part 37 7) 0  -- the empty record needs no room
    ∷ turn (part 44 15) 133  -- no room for a line
    ∷ turn (part 44 15) 134  -- the last line
    ∷ turn (part 44 15) 134  -- what is left of the last record
    ∷ []

-- wrong: the window begins with bytes that are used
abbrev pub same_turns : List Turn
same_turns = turn (part 0 12) 134 ∷ turn (part 0 17) 134 ∷ []

-- wrong: the first byte that is not used is left out
abbrev pub kept_turns : List Turn
kept_turns = turn (part 0 12) 134 ∷ turn (part 6 11) 134 ∷ []

-- from a fresh replay; a finish that leaves a part of the capture out is none
pub record WorkedReplay : Type 0 where
  pub whole : written_by frame_limit fresh one_turn [] ≡ example_text
  pub whole_windows : AreWindows frame_limit fresh example_capture one_turn
  pub whole_left : left_by frame_limit fresh example_capture one_turn ≡ []
  pub whole_finishes : Finishes (state_by frame_limit fresh one_turn) [] []
  pub small : written_by frame_limit fresh small_turns [] ≡ example_text
  pub small_windows : AreWindows frame_limit fresh example_capture small_turns
  pub small_left : left_by frame_limit fresh example_capture small_turns ≡ []
  pub small_finishes : Finishes (state_by frame_limit fresh small_turns) [] []
  pub not_again : AreWindows frame_limit fresh example_capture same_turns → ⊥
  pub not_kept : AreWindows frame_limit fresh example_capture kept_turns → ⊥
  pub not_early : Finishes (state_by frame_limit fresh (turn (part 0 12) 134 ∷ []))
      (left_by frame_limit fresh example_capture (turn (part 0 12) 134 ∷ [])) [] → ⊥

-- ---- worked_refusals: the whole text for each refusal

-- one turn is offered all, and finish what it leaves
abbrev pub replay_of : List ℕ → List ℕ
replay_of capture =
    written_by frame_limit fresh (turn capture 500 ∷ []) (left_by frame_limit fresh capture (turn capture 500 ∷ []))

-- a frame: command 7, number 1
abbrev pub example_frame : List ℕ
example_frame = 0xFF ∷ 0xFF ∷ 0x00 ∷ 0x05 ∷ 0x07 ∷ 0x01 ∷ 0x00 ∷ 0x00 ∷ 0x0D ∷ []

-- with a place for each; the lines of the records before it stay, and a record of which a byte lacks has none
pub record WorkedRefusals : Type 0 where
  pub nothing : replay_of [] ≡ replay_heading ++ ascii "refused 51 0\n"
  pub mark_cut : replay_of (0x4C ∷ 0x46 ∷ []) ≡ replay_heading ++ ascii "refused 51 0\n"
  pub mark_wrong : replay_of (0x4C ∷ 0x46 ∷ 0x58 ∷ 0x00 ∷ 0x01 ∷ []) ≡ replay_heading ++ ascii "refused 51 0\n"
  pub version_none : replay_of (0x4C ∷ 0x46 ∷ 0x54 ∷ []) ≡ replay_heading ++ ascii "refused 52 3\n"
  pub version_cut : replay_of (0x4C ∷ 0x46 ∷ 0x54 ∷ 0x00 ∷ []) ≡ replay_heading ++ ascii "refused 52 3\n"
  pub version_wrong : replay_of (0x4C ∷ 0x46 ∷ 0x54 ∷ 0x00 ∷ 0x02 ∷ []) ≡ replay_heading ++ ascii "refused 52 3\n"
  pub direction_wrong : replay_of (head ++ 0x02 ∷ []) ≡ replay_heading ++ ascii "refused 53 5\n"
  pub record_cut : replay_of (head ++ 0x00 ∷ []) ≡ replay_heading ++ ascii "refused 54 5\n"
  pub after_record : replay_of
      (head ++ (0x00 ∷ 0x00 ∷ 0x00 ∷ 0x00 ∷ 0x00 ∷ 0x00 ∷ 0x09 ∷ []) ++ example_frame ++ 0x02 ∷ [])
      ≡ replay_heading ++ ascii "0 frame 0 9 7 1 0 0\nrefused 53 21\n"
  pub frame_in_cut : replay_of (head ++ (0x01 ∷ 0x00 ∷ 0x00 ∷ 0x00 ∷ 0x00 ∷ 0x00 ∷ 0x0A ∷ []) ++ example_frame)
      ≡ replay_heading ++ ascii "refused 54 5\n"

-- ---- worked_empty: a capture without records
abbrev pub WorkedEmpty : Type 0
WorkedEmpty = replay_of head ≡ replay_heading ++ ascii "0 clean 0\n1 clean 0\n"

-- ---- worked_room: the length that ROOM says, one byte short, and the answer where the text fits

-- a replay after the head of a capture
abbrev pub after_head : State
after_head = state_by frame_limit fresh (turn head 0 ∷ [])

-- of the heading, of both end lines, and of the line of a refusal
pub record WorkedRoom : Type 0 where
  pub heading_short : placed replay_heading (replicate 39 7) ≡ output (row 22 (40 ∷ [])) (replicate 39 7)
  pub ends_short : close_of frame_limit after_head [] (replicate 19 7) ≡ output (row 22 (20 ∷ [])) (replicate 19 7)
  pub ends_fit : close_of frame_limit after_head [] (replicate 20 7)
      ≡ output (row 2 (20 ∷ [])) (ascii "0 clean 0\n1 clean 0\n")
  pub refusal_short : close_of frame_limit fresh [] (replicate 12 7) ≡ output (row 22 (13 ∷ [])) (replicate 12 7)
  pub refusal_fits : close_of frame_limit fresh [] (replicate 13 7)
      ≡ output (row 51 (13 ∷ 0 ∷ [])) (ascii "refused 51 0\n")

-- ---- worked_lines: a line of each kind in both directions; both kinds of end line, and places above 0
pub record WorkedLines : Type 0 where
  -- the listing's example in direction 0, and noise and an open frame in direction 1
  pub ends : replay_of
      (head ++ (record_bytes 0 0 example_stream
      ++ record_bytes 1 0 (0 ∷ 0 ∷ 0 ∷ 0 ∷ 0 ∷ 0 ∷ 0 ∷ 0xFF ∷ 0xFF ∷ 0x00 ∷ [])))
      ≡ replay_heading ++ ascii "0 frame 1 10 7 1 0 0\n0 cut 10 17 - - - -\n0 frame 15 25 7 243 0 0\n"
      ++ ascii "0 clean 25\n1 open 7\n"
  pub kinds : replay_of
      (head ++ (record_bytes 1 0 (0xFF ∷ 0xFF ∷ 0x00 ∷ 0x04 ∷ 0xFF ∷ 0xFF ∷ 0x04 ∷ 0x01 ∷ [])
      ++ record_bytes 1 0 (0xFF ∷ 0xFF ∷ 0x00 ∷ 0x05 ∷ 0x07 ∷ 0xFF ∷ 0x00 ∷ [])
      ++ record_bytes 1 0 (0xFF ∷ 0xFF ∷ 0x00 ∷ 0x05 ∷ 0x07 ∷ 0x01 ∷ 0x00 ∷ 0x00 ∷ 0x0E ∷ [])
      ++ record_bytes 1 0 (0xFF ∷ 0xFF ∷ 0x00 ∷ 0x05 ∷ 0x07 ∷ 0x01 ∷ 0x00 ∷ 0x00 ∷ 0xFF ∷ 0x00 ∷ [])
      ++ record_bytes 1 0 (0xFF ∷ 0xFF ∷ 0x00 ∷ 0xFF ∷ 0xFF ∷ [])
      ++ record_bytes 0 0 (0xFF ∷ 0xFF ∷ [])))
      ≡ replay_heading
      ++ ascii "1 short 0 4 - - - -\n1 long 4 8 - - - -\n1 stuff 8 15 - - - -\n1 sum 15 24 - - - -\n"
      ++ ascii "1 stufflate 24 34 - - - -\n1 cut 34 39 - - - -\n0 open 0\n1 open 37\n"
