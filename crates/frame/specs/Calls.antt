-- Model: what feed, finish and write answer and leave, held to `Logs` and `Wire` by stream_correct and writer_exact.
-- The contracts equate the code with these. PROTOCOL 3.1, 3.3, 4.1 to 4.20, 6.1 to 6.5.
use Rattle.std.specs.Prelude.{◌≡◌, ℕ, ◌+◌, ◌%◌, ◌^◌, cond, List, [], ◌∷◌, ◌++◌, Result, length, replicate, nat_le}
use Rattle.std.specs.Prelude.{nat_lt}
use Rattle.base.specs.Outcomes.{Outcome, outcome, Output, output, placed}
use Rattle.base.specs.Rows.{Row, row}
use Rattle.base.specs.Sums.{total}
use Rattle.frame.specs.Rules.{in_range_of, closed_of, advance_of, decides_of, put_of}
use Rattle.frame.specs.State.{Phase, Idle, Half, Header, Open, Escape, Scan, State, state_of}
use Rattle.frame.specs.Table.{event_row, row_of, finish_row_of}
use Rattle.frame.specs.Wire.{stuff, wire, frame_of}
use Rattle.frame.specs.declared.reader.Fed.{Fed}
use Rattle.frame.specs.declared.reader.FeedError.{FeedError}
use Rattle.frame.specs.declared.reader.Finish.{Finish}
use Rattle.frame.specs.declared.reader.Reader.{Reader}
use Rattle.base.specs.declared.writes.StateError.{StateError}

-- what the code's feed answers and leaves: its row and its state
abbrev pub fed_of : Result Fed FeedError × Reader → Outcome State
fed_of f = outcome (row_of f.0) (state_of f.1)

-- what the code's finish answers and leaves
abbrev pub finished_of : Result Finish StateError × Reader → Outcome State
finished_of f = outcome (finish_row_of f.0) (state_of f.1)

-- n bytes 0
unfoldable pub zeros : ℕ → List ℕ
zeros n = replicate n 0

-- a fresh reader: PROTOCOL 3.1
abbrev pub fresh_of : ℕ → State
fresh_of limit = record { scan = closed_of 0; body = zeros (limit + 2) }

-- the state after one byte
abbrev pub next_of : ℕ → State → ℕ → State
next_of limit r x =
    record {
      scan = (advance_of limit r.scan x).scan;
      body = put_of (advance_of limit r.scan x).put r.body r.scan.filled (advance_of limit r.scan x).byte;
    }

-- the answer of a byte, where it is the count-th of its call
abbrev pub byte_row : ℕ → State → ℕ → ℕ → Row
byte_row limit r x count =
    event_row (advance_of limit r.scan x).event count r.scan.start (next_of limit r x).scan.consumed

-- the bytes of a feed, of which n are consumed: it stops directly after the first byte that decides. PROTOCOL 3.3
unfoldable pub run_of : ℕ → List ℕ → ℕ → State → Outcome State
run_of limit [] n r = outcome (row 0 (n ∷ [])) r
run_of limit (x ∷ xs) n r =
    cond (decides_of (advance_of limit r.scan x).event)
    (outcome (byte_row limit r x (n + 1)) (next_of limit r x))
    (run_of limit xs (n + 1) (next_of limit r x))

-- a feed, in the order of PROTOCOL 4.15
abbrev pub feed_of : ℕ → State → List ℕ → Outcome State
feed_of limit r bytes =
    cond (in_range_of limit r.scan)
    (cond (nat_le (r.scan.consumed + length bytes) (2 ^ 62)) (run_of limit bytes 0 r) (outcome (row 18 (0 ∷ [])) r))
    (outcome (row 17 (0 ∷ [])) r)

-- the answer to a finish, by phase: PROTOCOL 4.3, 4.9
abbrev pub finish_row_in : Phase → Scan → Row
finish_row_in Idle s = row 2 (s.consumed ∷ [])
finish_row_in Half s = row 2 (s.consumed ∷ [])
finish_row_in Header s = row 16 (s.consumed ∷ s.start ∷ [])
finish_row_in Open s = row 16 (s.consumed ∷ s.start ∷ [])
finish_row_in Escape s = row 16 (s.consumed ∷ s.start ∷ [])

-- a finish, in the order of PROTOCOL 4.15
abbrev pub finish_of : ℕ → State → Outcome State
finish_of limit r =
    cond (in_range_of limit r.scan) (outcome (finish_row_in r.scan.phase r.scan) r) (outcome (row 17 (0 ∷ [])) r)

-- a write: PROTOCOL 6.1 to 6.5
abbrev pub write_of : ℕ → ℕ → ℕ → ℕ → List ℕ → List ℕ → Output
write_of limit command number flags payload out =
    cond (nat_lt limit (length payload + 5)) (output (row 21 (0 ∷ [])) out)
    (placed (frame_of command number flags payload) out)

-- the frame on the wire of a body by its head, its payload and its sum
abbrev pub framed : List ℕ → List ℕ → ℕ → List ℕ
framed head payload sum = wire (head ++ (payload ++ sum ∷ []))

-- body bytes added to a size on the wire and to a sum
abbrev pub Added : ℕ → ℕ → List ℕ → ℕ → ℕ → Type 0
Added count sum bytes more summed =
    (more ≡ count + length (stuff bytes)) × (summed ≡ (sum + total bytes) % 2 ^ 8)

-- what the writer computes before it writes the first byte: the frame's size on the wire, and its sum
pub record Measured (head payload : List ℕ) (count sum : ℕ) : Type 0 where
  pub sum_is : sum ≡ (total head + total payload) % 2 ^ 8
  pub count_is : count ≡ length (framed head payload sum)
