-- Claims: worked listings, by computation. PROTOCOL 10.1 to 10.10, 11.2.
use Rattle.std.specs.Prelude.{ℕ, ◌≡◌, List, [], ◌∷◌, ◌++◌, drop, replicate}
use Rattle.base.specs.Rows.{row}
use Rattle.base.specs.Outcomes.{output, placed}
use Rattle.base.specs.Runs.{Run}
use Rattle.frame.specs.Wire.{frame_limit}
use Rattle.frame.specs.State.{State}
use Rattle.frame.specs.Calls.{fresh_of}
use Rattle.frame.specs.Logs.{feed, finish}
use Rattle.frame.specs.LogsComputed.{offer}
use Rattle.listing.specs.Lines.{ascii, heading_text, answer_text, last_of, refusal_text}
use Rattle.listing.specs.CallTexts.{listing_of}
use Rattle.listing.specs.Feeding.{list_of}
use Rattle.listing.specs.Turns.{Turn, turns_of, written_by, OfferedFront}

-- the stream of PROTOCOL 11.2
abbrev pub example_stream : List ℕ
example_stream =
    0xFF
    ∷ 0xFF ∷ 0xFF ∷ 0x00 ∷ 0x05 ∷ 0x07 ∷ 0x01 ∷ 0x00 ∷ 0x00 ∷ 0x0D
    ∷ 0xFF ∷ 0xFF ∷ 0x00 ∷ 0x05 ∷ 0x07
    ∷ 0xFF ∷ 0xFF ∷ 0x00 ∷ 0x05 ∷ 0x07 ∷ 0xF3 ∷ 0x00 ∷ 0x00 ∷ 0xFF ∷ 0x55 ∷ []

-- ---- example_listing: PROTOCOL 11.2; the stream is offered until it is consumed, and then comes finish
abbrev pub ExampleListing : Type 0
ExampleListing =
    listing_of [] frame_limit (offer frame_limit 3 (fresh_of frame_limit) example_stream ++ finish ∷ [])
    ≡ ascii
    "kind start end cmd sn flags payload\nframe 1 10 7 1 0 0\ncut 10 17 - - - -\nframe 15 25 7 243 0 0\nclean 25\n"

-- ---- each_kind: a listing for each kind of line that the example lacks
pub record EachKind : Type 0 where
  pub short : listing_of [] frame_limit (feed (0xFF ∷ 0xFF ∷ 0x00 ∷ 0x04 ∷ []) ∷ finish ∷ [])
      ≡ heading_text [] ++ ascii "short 0 4 - - - -\nclean 4\n"
  pub long : listing_of [] frame_limit (feed (0xFF ∷ 0xFF ∷ 0xFF ∷ 0x55 ∷ 0x00 ∷ []) ∷ finish ∷ [])
      ≡ heading_text [] ++ ascii "long 1 5 - - - -\nclean 5\n"
  pub stuff : listing_of [] frame_limit (feed (0xFF ∷ 0xFF ∷ 0x00 ∷ 0x05 ∷ 0x07 ∷ 0xFF ∷ 0x00 ∷ []) ∷ finish ∷ [])
      ≡ heading_text [] ++ ascii "stuff 0 7 - - - -\nclean 7\n"
  pub stuff_late : listing_of [] frame_limit
      (feed (0xFF ∷ 0xFF ∷ 0x00 ∷ 0x05 ∷ 0x07 ∷ 0x01 ∷ 0x00 ∷ 0x00 ∷ 0xFF ∷ 0x00 ∷ []) ∷ finish ∷ [])
      ≡ heading_text [] ++ ascii "stufflate 0 10 - - - -\nclean 10\n"
  pub sum : listing_of [] frame_limit
      (feed (0xFF ∷ 0xFF ∷ 0x00 ∷ 0x05 ∷ 0x07 ∷ 0x01 ∷ 0x00 ∷ 0x00 ∷ 0x0E ∷ []) ∷ finish ∷ [])
      ≡ heading_text [] ++ ascii "sum 0 9 - - - -\nclean 9\n"
  pub left_open : listing_of [] frame_limit (feed (0xFF ∷ 0xFF ∷ 0xFF ∷ 0x00 ∷ 0x05 ∷ []) ∷ finish ∷ [])
      ≡ heading_text [] ++ ascii "open 1\n"

-- ---- worked_columns: a line whose numbers all differ and none of which is 0: command 22, number 33, flags 12 34,
-- payload AA BB, after a byte of noise
pub record WorkedColumns : Type 0 where
  pub columns : listing_of [] frame_limit
      (feed (0x00 ∷ 0xFF ∷ 0xFF ∷ 0x00 ∷ 0x07 ∷ 0x22 ∷ 0x33 ∷ 0x12 ∷ 0x34 ∷ 0xAA ∷ 0xBB ∷ 0x07 ∷ []) ∷ finish ∷ [])
      ≡ ascii "kind start end cmd sn flags payload\nframe 1 12 34 51 4660 2\nclean 12\n"

-- ---- worked_prefix: a text before the word of each line, of the heading and of the last line: PROTOCOL 10.8
pub record WorkedPrefix : Type 0 where
  pub example : listing_of (ascii "in ") frame_limit
      (offer frame_limit 3 (fresh_of frame_limit) example_stream ++ finish ∷ [])
      ≡ ascii "in kind start end cmd sn flags payload\nin frame 1 10 7 1 0 0\nin cut 10 17 - - - -\n"
      ++ ascii "in frame 15 25 7 243 0 0\nin clean 25\n"
  pub quiet : listing_of (ascii "in ") frame_limit (feed (0x00 ∷ []) ∷ finish ∷ [])
      ≡ ascii "in kind start end cmd sn flags payload\nin clean 1\n"

-- ---- worked_room: the length that ROOM says, by computation: PROTOCOL 10.8
-- each text one byte short; then the heading where it fits, and an answer without a line
pub record WorkedRoom : Type 0 where
  pub heading_short : placed (heading_text []) (replicate 35 7) ≡ output (row 22 (36 ∷ [])) (replicate 35 7)
  pub prefix_short : placed (heading_text (ascii "in ")) (replicate 38 7) ≡ output (row 22 (39 ∷ [])) (replicate 38 7)
  pub line_short : placed (answer_text (ascii "in ") (row 15 (9 ∷ 0 ∷ 9 ∷ [])) []) (replicate 18 7)
      ≡ output (row 22 (19 ∷ [])) (replicate 18 7)
  pub last_short : placed (last_of [] (row 2 (25 ∷ []))) (replicate 8 7) ≡ output (row 22 (9 ∷ [])) (replicate 8 7)
  pub refusal_short : placed (refusal_text 51 0) (replicate 12 7) ≡ output (row 22 (13 ∷ [])) (replicate 12 7)
  pub heading_fits : placed (heading_text []) (replicate 37 7) ≡ output (row 0 (36 ∷ [])) (heading_text [] ++ 7 ∷ [])
  pub no_line : placed (answer_text [] (row 0 (9 ∷ [])) []) [] ≡ output (row 0 (0 ∷ [])) []

-- ---- worked_loop: the example's stream with buffers of several sizes
pub record Worked (run : Run State) (used number : ℕ) (text : List ℕ) : Type 0 where
  pub used_is : run.used ≡ used
  pub stop_is : run.stop ≡ number
  pub text_is : run.text ≡ text

-- the loop over the example's stream
abbrev pub example_run : List ℕ → ℕ → Run State
example_run prefix room = list_of frame_limit prefix (fresh_of frame_limit) example_stream room

-- all of it; no room for a line; room for a first line, but not for a second; the same with a text before each word
pub record WorkedLoop : Type 0 where
  pub whole : Worked (example_run [] 500) 25 0
      (ascii "frame 1 10 7 1 0 0\ncut 10 17 - - - -\nframe 15 25 7 243 0 0\n")
  pub none : Worked (example_run [] 131) 0 22 []
  pub first : Worked (example_run [] 132) 10 22 (ascii "frame 1 10 7 1 0 0\n")
  pub column_none : Worked (example_run (ascii "in ") 134) 0 22 []
  pub column_first : Worked (example_run (ascii "in ") 135) 10 22 (ascii "in frame 1 10 7 1 0 0\n")

-- ---- worked_turns: two calls of the loop over the example's stream, the first with room for one line; what they used
-- and wrote, and that they were offered the front of what was left
abbrev pub example_turns : List Turn
example_turns =
    record { bytes = example_stream; room = 132 } ∷ record { bytes = drop 10 example_stream; room = 500 } ∷ []

-- wrong: the second call is offered the same bytes again
abbrev pub same_turns : List Turn
same_turns = record { bytes = example_stream; room = 132 } ∷ record { bytes = example_stream; room = 500 } ∷ []

-- wrong: one byte is left out
abbrev pub kept_turns : List Turn
kept_turns = record { bytes = example_stream; room = 132 } ∷ record { bytes = drop 11 example_stream; room = 500 } ∷ []

-- of a fresh reader
pub record WorkedTurns : Type 0 where
  pub consumed_is : (turns_of frame_limit [] (fresh_of frame_limit) example_turns).consumed ≡ example_stream
  pub text_is : (turns_of frame_limit [] (fresh_of frame_limit) example_turns).text
      ≡ ascii "frame 1 10 7 1 0 0\ncut 10 17 - - - -\nframe 15 25 7 243 0 0\n"
  pub written_is : written_by frame_limit [] (turns_of frame_limit [] (fresh_of frame_limit) example_turns)
      ≡ heading_text [] ++ ascii "frame 1 10 7 1 0 0\ncut 10 17 - - - -\nframe 15 25 7 243 0 0\nclean 25\n"
  pub offered : OfferedFront frame_limit [] (fresh_of frame_limit) example_stream example_turns
  pub not_again : OfferedFront frame_limit [] (fresh_of frame_limit) example_stream same_turns → ⊥
  pub not_kept : OfferedFront frame_limit [] (fresh_of frame_limit) example_stream kept_turns → ⊥
