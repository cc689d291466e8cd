-- Claims: the reader worked out: literal bytes for a fresh reader, and its answer. PROTOCOL 3.4 to 3.18, 4.3, 4.9,
-- 4.19, 4.20.
-- MORE is 0, FRAME 1, SHORT 11, LONG 12, STUFF 13, CUT 14, SUM 15; their values are count, start and end, at STUFF then
-- the byte that breaks the stuffing, at SUM the sum found and the sum computed.
use Rattle.std.specs.Prelude.{◌≡◌, ℕ, List, [], ◌∷◌, take}
use Rattle.base.specs.Rows.{Row, row}
use Rattle.frame.specs.Calls.{fresh_of, feed_of, finish_of}
use Rattle.frame.specs.State.{Open, State}

-- a reader after one feed
abbrev pub reader_after : List ℕ → State
reader_after bytes = (feed_of 1024 (fresh_of 1024) bytes).state

-- the answer of that feed
abbrev pub read : List ℕ → Row
read bytes = (feed_of 1024 (fresh_of 1024) bytes).row

-- the answer of the next feed
abbrev pub read_next : List ℕ → List ℕ → Row
read_next first bytes = (feed_of 1024 (reader_after first) bytes).row

-- the answer of a finish after that feed: CLEAN is 2, OPEN 16; their values are the bytes consumed and the start
abbrev pub finish_after : List ℕ → Row
finish_after bytes = (finish_of 1024 (reader_after bytes)).row

-- ---- worked_reader: by computation
pub record WorkedReader : Type 0 where
  -- a frame; a frame after noise and one more FF, with bytes after it that are not consumed; a sum FF and its 55
  pub frame : read (0xFF ∷ 0xFF ∷ 0x00 ∷ 0x05 ∷ 0x07 ∷ 0x01 ∷ 0x00 ∷ 0x00 ∷ 0x0D ∷ []) ≡ row 1 (9 ∷ 0 ∷ 9 ∷ [])
  pub after_noise : read
      (0x55 ∷ 0xFF ∷ 0xFF ∷ 0xFF ∷ 0x00 ∷ 0x05 ∷ 0x07 ∷ 0x01 ∷ 0x00 ∷ 0x00 ∷ 0x0D ∷ 0xFF ∷ 0x55 ∷ [])
      ≡ row 1 (11 ∷ 2 ∷ 11 ∷ [])
  pub stuffed_sum : read (0xFF ∷ 0xFF ∷ 0x00 ∷ 0x05 ∷ 0x07 ∷ 0xF3 ∷ 0x00 ∷ 0x00 ∷ 0xFF ∷ 0x55 ∷ [])
      ≡ row 1 (10 ∷ 0 ∷ 10 ∷ [])
  pub sum_waits : read (0xFF ∷ 0xFF ∷ 0x00 ∷ 0x05 ∷ 0x07 ∷ 0xF3 ∷ 0x00 ∷ 0x00 ∷ 0xFF ∷ []) ≡ row 0 (9 ∷ [])
  -- the least and the greatest length, and those beyond them
  pub short : read (0xFF ∷ 0xFF ∷ 0x00 ∷ 0x04 ∷ []) ≡ row 11 (4 ∷ 0 ∷ 4 ∷ [])
  pub shortest : read (0xFF ∷ 0xFF ∷ 0x00 ∷ 0x05 ∷ []) ≡ row 0 (4 ∷ [])
  pub longest : read (0xFF ∷ 0xFF ∷ 0x04 ∷ 0x00 ∷ []) ≡ row 0 (4 ∷ [])
  pub long : read (0xFF ∷ 0xFF ∷ 0x04 ∷ 0x01 ∷ []) ≡ row 12 (4 ∷ 0 ∷ 4 ∷ [])
  pub moved_start : read (0xFF ∷ 0xFF ∷ 0xFF ∷ 0x55 ∷ 0x00 ∷ []) ≡ row 12 (5 ∷ 1 ∷ 5 ∷ [])
  -- after an FF that waits: another byte; a header, after which the new frame is open
  pub broken : read (0xFF ∷ 0xFF ∷ 0x00 ∷ 0x05 ∷ 0x07 ∷ 0xFF ∷ 0x00 ∷ []) ≡ row 13 (7 ∷ 0 ∷ 7 ∷ 0 ∷ [])
  pub cut : read (0xFF ∷ 0xFF ∷ 0x00 ∷ 0x05 ∷ 0x07 ∷ 0xFF ∷ 0xFF ∷ 0x00 ∷ []) ≡ row 14 (7 ∷ 0 ∷ 7 ∷ [])
  pub after_cut : read_next (0xFF ∷ 0xFF ∷ 0x00 ∷ 0x05 ∷ 0x07 ∷ 0xFF ∷ 0xFF ∷ [])
      (0x00 ∷ 0x05 ∷ 0x07 ∷ 0x01 ∷ 0x00 ∷ 0x00 ∷ 0x0D ∷ [])
      ≡ row 1 (7 ∷ 5 ∷ 14 ∷ [])
  -- the sum is wrong, and the reader holds the body
  pub sum : read (0xFF ∷ 0xFF ∷ 0x00 ∷ 0x05 ∷ 0x07 ∷ 0x01 ∷ 0x02 ∷ 0x03 ∷ 0x0D ∷ [])
      ≡ row 15 (9 ∷ 0 ∷ 9 ∷ 0x0D ∷ 0x12 ∷ [])
  pub sum_holds_body : take 8 (reader_after (0xFF ∷ 0xFF ∷ 0x00 ∷ 0x05 ∷ 0x07 ∷ 0x01 ∷ 0x02 ∷ 0x03 ∷ 0x0D ∷ [])).body
      ≡ 0x00 ∷ 0x05 ∷ 0x07 ∷ 0x01 ∷ 0x02 ∷ 0x03 ∷ 0x0D ∷ 0x00 ∷ []
  -- finish: nothing open, one FF, a header, in a body, at an FF that waits, after a refused frame
  pub finish_none : finish_after (0x07 ∷ []) ≡ row 2 (1 ∷ [])
  pub finish_half : finish_after (0x07 ∷ 0xFF ∷ []) ≡ row 2 (2 ∷ [])
  pub finish_header : finish_after (0x07 ∷ 0xFF ∷ 0xFF ∷ []) ≡ row 16 (3 ∷ 1 ∷ [])
  pub finish_body : finish_after (0x07 ∷ 0xFF ∷ 0xFF ∷ 0x00 ∷ []) ≡ row 16 (4 ∷ 1 ∷ [])
  pub finish_waits : finish_after (0x07 ∷ 0xFF ∷ 0xFF ∷ 0x00 ∷ 0xFF ∷ []) ≡ row 16 (5 ∷ 1 ∷ [])
  pub finish_short : finish_after (0xFF ∷ 0xFF ∷ 0x00 ∷ 0x04 ∷ []) ≡ row 2 (4 ∷ [])

-- ---- made_up_end: where the body of a made-up reader ends, by computation. PROTOCOL 3.18

-- a reader in range, in an open frame that starts at 2, with these body bytes so far, this length, and the sum 7
abbrev pub made_up : ℕ → ℕ → List ℕ → State
made_up filled length body =
    record {
      scan = record { phase = Open; consumed = 9; start = 2; filled = filled; length = length; sum = 7 };
      body = body;
    }

-- the byte after 1,024 and the one after 1,025 body bytes, under a length of 60,000; the one after 9, under length 3
pub record MadeUpEnd (body : List ℕ) : Type 0 where
  pub below_limit : (feed_of 1024 (made_up 1024 60000 body) (7 ∷ [])).row ≡ row 0 (1 ∷ [])
  pub at_limit : (feed_of 1024 (made_up 1025 60000 body) (7 ∷ [])).row ≡ row 1 (1 ∷ 2 ∷ 10 ∷ [])
  pub beyond_length : (feed_of 1024 (made_up 9 3 body) (8 ∷ [])).row ≡ row 15 (1 ∷ 2 ∷ 10 ∷ 8 ∷ 7 ∷ [])

-- whatever bytes it keeps
abbrev pub MadeUpEnds : Type 0
MadeUpEnds = (body : List ℕ) → MadeUpEnd body
