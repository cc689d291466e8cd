-- Claims: a reply that met ROOM is written into an output of the size that it said. PROTOCOL 6.12, 16.5.
use Rattle.std.specs.Prelude.{ℕ, ◌≤◌, ◌≡◌, ◌≢◌, List, [], length, get_or}
use Rattle.base.specs.Rows.{Row, row}
use Rattle.base.specs.Outcomes.{needed_in}
use Rattle.base.specs.Asking.{AsksOnce}
use Rattle.device.specs.Handling.{After}
use Rattle.device.specs.HandlingExact.{Given, holding, leaves}

-- the same call at another clock, with another output
abbrev pub later : Given → ℕ → List ℕ → Given
later g clock out =
    record {
      transfer = g.transfer;
      link = g.link;
      clock = clock;
      piece = g.piece;
      buffer = g.buffer;
      out = out;
    }

-- ---- handle_asked: what met ROOM once is written into every output of the size that it said

-- the same call with another output
abbrev pub lending : Given → List ℕ → Given
lending g out = later g g.clock out

-- of every link and transfer, in range or not
abbrev pub HandleAsked : Type 0
HandleAsked =
    (limit first max : ℕ) (g : Given) (answer : Row) (body : List ℕ)
    → AsksOnce (λ out. (leaves limit first max (lending g out) answer body).row)

-- ---- handle_again: the same with the transfer and the link that the call which met ROOM returned, at any clock. The
-- link has received the frame already, so no wait ends again

-- what was left, but no wait ended
abbrev pub unended : After → After
unended z =
    record {
      row = z.row;
      ended = row 0 [];
      transfer = z.transfer;
      link = z.link;
      buffer = z.buffer;
      out = z.out;
    }

-- `y` is left by the call that met ROOM, `w` by the call again; `z` is what that call would leave, were it the first
pub record Again (y z w : After) (out : List ℕ) : Type 0 where
  -- the wait that the frame ends, ended when ROOM was met
  pub told : y.ended ≡ z.ended
  -- all else comes of the call again
  pub left : w ≡ unended z
  -- an output of as many bytes as ROOM said is no ROOM, and that many are written
  pub written : needed_in y.row ≤ length out
      → (w.row.number ≢ 22) × (get_or w.row.values 0 0 ≡ needed_in y.row)

-- of every link and transfer, in range or not, and of every clock
abbrev pub HandleAgain : Type 0
HandleAgain =
    (limit first max : ℕ) (g : Given) (answer : Row) (body : List ℕ)
    → let y = leaves limit first max g answer body in
    y.row.number ≡ 22 → (clock : ℕ) (out : List ℕ)
    → Again y (leaves limit first max (later g clock out) answer body)
    (leaves limit first max (holding (later g clock out) y.transfer y.link) answer body) out
