-- Claims: worked frames, by computation. PROTOCOL 16.1 to 16.6.
use Rattle.std.specs.Prelude.{None}
use Rattle.std.specs.Prelude.{ℕ, ◌-◌, ◌≡◌, List, [], ◌∷◌, ◌++◌, length, replicate}
use Rattle.base.specs.Rows.{Row, row}
use Rattle.frame.specs.Wire.{frame_limit}
use Rattle.link.specs.Sending.{first_number, max_repeats}
use Rattle.link.specs.Calls.{link_of, fresh_of}
use Rattle.link.specs.declared.state.Link.{Link}
use Rattle.link.specs.Sending.{waits_for}
use Rattle.transfer.specs.declared.state.Transfer.{Transfer}
use Rattle.transfer.specs.Transfers.{absent, opened}
use Rattle.device.specs.Handling.{After}
use Rattle.device.specs.HandlingExact.{Given, leaves}

-- ---- worked_frames: a whole table from a fresh box, and single frames while a report waits

-- bytes at the front of an output of 24 bytes that were 7
abbrev pub written : List ℕ → List ℕ
written w = w ++ replicate (24 - length w) 7

-- a frame without payload that was written
abbrev pub empty_frame : ℕ → ℕ → ℕ → List ℕ
empty_frame command number sum = written (0xFF ∷ 0xFF ∷ 0 ∷ 5 ∷ command ∷ number ∷ 0 ∷ 0 ∷ sum ∷ [])

-- a 12 with a code
abbrev pub rejection : ℕ → ℕ → ℕ → List ℕ
rejection number code sum = written (0xFF ∷ 0xFF ∷ 0 ∷ 6 ∷ 0x12 ∷ number ∷ 0 ∷ 0 ∷ code ∷ sum ∷ [])

-- shorthand for what is left: answer, wait that ended, transfer, link, buffer, output
abbrev pub shows : Row → Row → Transfer → Link → List ℕ → List ℕ → After
shows answer ended t l buffer out =
    record { row = answer; ended = ended; transfer = t; link = l; buffer = buffer; out = out }

-- the box: our piece size is 2, and the buffer that is lent has 6 bytes
abbrev pub box : Transfer → Link → ℕ → List ℕ → Given
box t l clock buffer =
    record { transfer = t; link = l; clock = clock; piece = 2; buffer = buffer; out = replicate 24 7 }

-- frames in turn, each at a reading of the clock, and each with what the one before it left
pub record Received : Type 0 where
  pub clock : ℕ
  pub body : List ℕ

-- shorthand for one
abbrev pub at : ℕ → List ℕ → Received
at clock body = record { clock = clock; body = body }

-- what each leaves
unfoldable pub play : Transfer → Link → List ℕ → List Received → List After
play t l buffer [] = []
play t l buffer (f ∷ fs) =
    leaves frame_limit first_number max_repeats (box t l f.clock buffer) (row 1 []) f.body
    ∷ play (leaves frame_limit first_number max_repeats (box t l f.clock buffer) (row 1 []) f.body).transfer
    (leaves frame_limit first_number max_repeats (box t l f.clock buffer) (row 1 []) f.body).link
    (leaves frame_limit first_number max_repeats (box t l f.clock buffer) (row 1 []) f.body).buffer
    fs

-- a 19: five bytes, with a check code of two
abbrev pub announcement : List ℕ
announcement = 0 ∷ 13 ∷ 0x19 ∷ 10 ∷ 0 ∷ 0 ∷ 0 ∷ 0 ∷ 0 ∷ 5 ∷ 0 ∷ 2 ∷ 0x41 ∷ 0x42 ∷ 0xBA ∷ []

-- a heartbeat; a 19; a 19 while the 1B waits; a 1C; a 1D; a 1D with bit 0 of its flags; a 1D; a short last 1D; a 1F
abbrev pub table : List Received
table =
    at 100 (0 ∷ 5 ∷ 0x07 ∷ 9 ∷ 0 ∷ 0 ∷ 0x15 ∷ [])
    ∷ at 200 announcement
    ∷ at 300 announcement
    ∷ at 350 (0 ∷ 5 ∷ 0x1C ∷ 0 ∷ 0 ∷ 0 ∷ 0x21 ∷ [])
    ∷ at 400 (0 ∷ 11 ∷ 0x1D ∷ 11 ∷ 0 ∷ 0 ∷ 0 ∷ 1 ∷ 0 ∷ 3 ∷ 0x61 ∷ 0x62 ∷ 0xFA ∷ [])
    ∷ at 450 (0 ∷ 11 ∷ 0x1D ∷ 12 ∷ 0 ∷ 1 ∷ 0 ∷ 2 ∷ 0 ∷ 3 ∷ 0x63 ∷ 0x64 ∷ 0x01 ∷ [])
    ∷ at 500 (0 ∷ 11 ∷ 0x1D ∷ 13 ∷ 0 ∷ 0 ∷ 0 ∷ 2 ∷ 0 ∷ 3 ∷ 0x63 ∷ 0x64 ∷ 0x01 ∷ [])
    ∷ at 550 (0 ∷ 10 ∷ 0x1D ∷ 14 ∷ 0 ∷ 0 ∷ 0 ∷ 3 ∷ 0 ∷ 3 ∷ 0x65 ∷ 0xA0 ∷ [])
    ∷ at 600 (0 ∷ 5 ∷ 0x1F ∷ 15 ∷ 0 ∷ 0 ∷ 0x33 ∷ [])
    ∷ []

-- the buffer before
abbrev pub no_piece : List ℕ
no_piece = 7 ∷ 7 ∷ 7 ∷ 7 ∷ 7 ∷ 7 ∷ []

-- with one piece
abbrev pub one_piece : List ℕ
one_piece = 0x61 ∷ 0x62 ∷ 7 ∷ 7 ∷ 7 ∷ 7 ∷ []

-- with two
abbrev pub two_pieces : List ℕ
two_pieces = 0x61 ∷ 0x62 ∷ 0x63 ∷ 0x64 ∷ 7 ∷ 7 ∷ []

-- with all three
abbrev pub three_pieces : List ℕ
three_pieces = 0x61 ∷ 0x62 ∷ 0x63 ∷ 0x64 ∷ 0x65 ∷ 7 ∷ []

-- what they leave: 08; 1A and 1B; BUSY, and nothing written; the wait of the 1B ends; 1E; HEXLINES and a 12; 1E; 1E; 20
abbrev pub table_left : List After
table_left =
    shows (row 0 (9 ∷ [])) (row 0 []) absent (link_of 0 None) no_piece (empty_frame 0x08 9 0x16)
    ∷ shows (row 0 (24 ∷ 26 ∷ 9 ∷ [])) (row 0 []) (opened 5 2 0) (link_of 1 (waits_for 0x1B 0 200 0)) no_piece
    (0xFF ∷ 0xFF ∷ 0 ∷ 5 ∷ 0x1A ∷ 10 ∷ 0 ∷ 0 ∷ 0x29
    ∷ 0xFF ∷ 0xFF ∷ 0 ∷ 11 ∷ 0x1B ∷ 0 ∷ 0 ∷ 0 ∷ 0 ∷ 2 ∷ 0x41 ∷ 0x42 ∷ 0 ∷ 2 ∷ 0xAD ∷ [])
    ∷ shows (row 41 []) (row 0 []) (opened 5 2 0) (link_of 1 (waits_for 0x1B 0 200 0)) no_piece (written [])
    ∷ shows (row 0 []) (row 0 (0x1B ∷ 0 ∷ [])) (opened 5 2 0) (link_of 1 None) no_piece (written [])
    ∷ shows (row 0 (9 ∷ 30 ∷ [])) (row 0 []) (opened 5 2 1) (link_of 1 None) one_piece (empty_frame 0x1E 11 0x2E)
    ∷ shows (row 64 (10 ∷ [])) (row 0 []) (opened 5 2 1) (link_of 1 None) one_piece (rejection 12 3 0x27)
    ∷ shows (row 0 (9 ∷ 30 ∷ [])) (row 0 []) (opened 5 2 2) (link_of 1 None) two_pieces (empty_frame 0x1E 13 0x30)
    ∷ shows (row 0 (9 ∷ 30 ∷ [])) (row 0 []) (opened 5 2 3) (link_of 1 None) three_pieces (empty_frame 0x1E 14 0x31)
    ∷ shows (row 0 (9 ∷ 32 ∷ [])) (row 0 []) absent (link_of 1 None) three_pieces (empty_frame 0x20 15 0x34)
    ∷ []

-- a report waits, under 7
abbrev pub reporting : Link
reporting = link_of 8 (waits_for 0x05 7 100 1)

-- what a call with this link leaves, into an output of this many bytes
abbrev pub leaves_into : ℕ → Link → Row → List ℕ → After
leaves_into room l answer body =
    leaves frame_limit first_number max_repeats
    (record { transfer = absent; link = l; clock = 150; piece = 2; buffer = no_piece; out = replicate room 7 })
    answer body

-- a 06 with a number, without its sum, which nothing here reads
abbrev pub reply06 : ℕ → List ℕ
reply06 number = 0 ∷ 5 ∷ 0x06 ∷ number ∷ 0 ∷ 0 ∷ []

-- a 06 with a payload of one byte
abbrev pub faulty06 : List ℕ
faulty06 = 0 ∷ 6 ∷ 0x06 ∷ 7 ∷ 0 ∷ 0 ∷ 0 ∷ 0x13 ∷ []

-- a 19 of five bytes with a check code of two
abbrev pub announced : List ℕ
announced = 0 ∷ 13 ∷ 0x19 ∷ 10 ∷ 0 ∷ 0 ∷ 0 ∷ 0 ∷ 0 ∷ 5 ∷ 0 ∷ 2 ∷ 0x41 ∷ 0x42 ∷ []

-- whatever the values of the reader's answer are
pub record WorkedFrames (v : List ℕ) : Type 0 where
  pub whole_table : play absent (fresh_of first_number) no_piece table ≡ table_left
  -- the reply ends the wait
  pub replied :
      leaves_into 24 reporting (row 1 v) (reply06 7)
      ≡ shows (row 0 []) (row 0 (0x05 ∷ 7 ∷ [])) absent (link_of 8 None) no_piece (written [])
  -- a faulty one too, and gets its 12 with code 3
  pub faulty :
      leaves_into 24 reporting (row 1 v) faulty06
      ≡ shows (row 0 (10 ∷ 18 ∷ 3 ∷ 32 ∷ [])) (row 0 (0x05 ∷ 7 ∷ [])) absent (link_of 8 None) no_piece
      (rejection 7 3 0x22)
  -- also where the output has no room for the 12
  pub no_room :
      leaves_into 9 reporting (row 1 v) faulty06
      ≡ shows (row 22 (10 ∷ [])) (row 0 (0x05 ∷ 7 ∷ [])) absent (link_of 8 None) no_piece (replicate 9 7)
  -- the same frame again, with more room: no wait ends, and it gets its 12
  pub again :
      leaves_into 24 (link_of 8 None) (row 1 v) faulty06
      ≡ shows (row 0 (10 ∷ 18 ∷ 3 ∷ 32 ∷ [])) (row 0 []) absent (link_of 8 None) no_piece (rejection 7 3 0x22)
  -- one byte short of 1A and 1B, ROOM has the size of both, and nothing begins; that room is enough
  pub pair_short :
      leaves_into 23 (link_of 0 None) (row 1 v) announced
      ≡ shows (row 22 (24 ∷ [])) (row 0 []) absent (link_of 0 None) no_piece (replicate 23 7)
  pub pair_fits :
      (leaves_into 24 (link_of 0 None) (row 1 v) announced).row ≡ row 0 (24 ∷ 26 ∷ 9 ∷ [])
  -- a 06 under another number is stray: the report waits on
  pub stray :
      leaves_into 24 reporting (row 1 v) (reply06 6)
      ≡ shows (row 0 []) (row 0 []) absent reporting no_piece (written [])
  -- SUM: a 12 with code 1, and the report waits on
  pub wrong_sum_lem :
      leaves_into 24 reporting (row 15 v) (reply06 7)
      ≡ shows (row 0 (10 ∷ 18 ∷ 1 ∷ 15 ∷ [])) (row 0 []) absent reporting no_piece (rejection 7 1 0x20)
  -- SHORT, and every other answer: nothing
  pub short :
      leaves_into 24 reporting (row 11 v) (reply06 7)
      ≡ shows (row 0 []) (row 0 []) absent reporting no_piece (written [])
  -- three repeats are out of range: STATE, for SUM too
  pub state :
      leaves_into 24 (link_of 8 (waits_for 0x05 7 100 3)) (row 15 v) (reply06 7)
      ≡ shows (row 17 (0 ∷ [])) (row 0 []) absent (link_of 8 (waits_for 0x05 7 100 3)) no_piece (written [])

-- for all of them
abbrev pub FramesWorked : Type 0
FramesWorked = (v : List ℕ) → WorkedFrames v
