-- Claims: STATE is answered exactly where a field of the link or of the transfer is out of its range, whatever the
-- answer of the reader is, and then nothing changes. PROTOCOL 16.1.
use Rattle.std.specs.Prelude.{Option, None, Some}
use Rattle.std.specs.Prelude.{ℕ, ◌+◌, ◌*◌, ◌≤◌, ◌<◌, ◌≡◌, ◌≢◌, true, false, List, [], ◌∷◌}
use Rattle.base.specs.Rows.{Row, row}
use Rattle.base.specs.Keys.{among}
use Rattle.frame.specs.Wire.{frame_limit}
use Rattle.link.specs.Sending.{first_number, max_repeats}
use Rattle.link.specs.Calls.{in_range, link_of}
use Rattle.link.specs.Ranges.{waiters}
use Rattle.link.specs.declared.state.Link.{Link}
use Rattle.link.specs.Sending.{Wait}
use Rattle.link.specs.Sending.{waits_for}
use Rattle.transfer.specs.Checks.{in_range_of}
use Rattle.transfer.specs.declared.state.Transfer.{Transfer}
use Rattle.transfer.specs.declared.state.Open.{Open}
use Rattle.transfer.specs.Transfers.{open_of, opened}
use Rattle.device.specs.Handling.{After}
use Rattle.device.specs.HandlingExact.{Given, holding, leaves, Ranged}

-- ---- state_first: by the ranges of link and transfer, and by each field in literal numbers

-- STATE, nothing is written, nothing ended, and all is as it was
abbrev pub Untouched : Given → After → Type 0
Untouched g y =
    y ≡ record {
      row = row 17 (0 ∷ []);
      ended = row 0 [];
      transfer = g.transfer;
      link = g.link;
      buffer = g.buffer;
      out = g.out;
    }

-- by the ranges, with any figures
pub record StateExact (limit first max : ℕ) (g : Given) (answer : Row) (body : List ℕ) : Type 0 where
  pub link_out_lem : in_range first max g.link ≡ false → Untouched g (leaves limit first max g answer body)
  pub transfer_out : in_range_of g.transfer ≡ false → Untouched g (leaves limit first max g answer body)
  pub only : Ranged first max g → (leaves limit first max g answer body).row.number ≢ 17

-- with this transfer and link the code's own call answers STATE
abbrev pub OutOfRange : Given → Row → List ℕ → Transfer → Link → Type 0
OutOfRange g answer body t l =
    Untouched (holding g t l) (leaves frame_limit first_number max_repeats (holding g t l) answer body)

-- by each field alone, whatever the others are. A transfer has at most 65,535 pieces, and stores no more than it has
pub record FieldsExact (g : Given) (answer : Row) (body : List ℕ) : Type 0 where
  pub repeats : (t : Transfer) (next command number sent repeats : ℕ)
      → 3 ≤ repeats → OutOfRange g answer body t (link_of next (waits_for command number sent repeats))
  pub command : (t : Transfer) (next command number sent repeats : ℕ)
      → among command waiters ≡ false
      → OutOfRange g answer body t (link_of next (waits_for command number sent repeats))
  pub size : (l : Link) (piece stored : ℕ) → OutOfRange g answer body (opened 0 piece stored) l
  pub piece : (l : Link) (size stored : ℕ) → OutOfRange g answer body (opened size 0 stored) l
  pub pieces : (l : Link) (size piece stored : ℕ)
      → 65535 * piece < size → OutOfRange g answer body (opened size piece stored) l
  pub stored : (l : Link) (size piece stored : ℕ)
      → size + piece ≤ stored * piece → OutOfRange g answer body (opened size piece stored) l

-- the fields of what waits are in range; both sequence numbers are free
abbrev pub WaitIn : Wait → Type 0
WaitIn None = Unit {0}
WaitIn (Some w) = (w.repeats ≤ 2) × (among w.command waiters ≡ true)

-- the fields of what is open are
abbrev pub OpenIn : Option Open → Type 0
OpenIn None = Unit {0}
OpenIn (Some o) =
    (1 ≤ o.size) × (1 ≤ o.piece) × (o.size ≤ 65535 * o.piece) × (o.stored * o.piece < o.size + o.piece)

-- the same of a transfer
abbrev pub TransferIn : Transfer → Type 0
TransferIn t = OpenIn (open_of t)

-- every call; the last says that no other link and transfer are answered STATE
pub record StateFirst : Type 0 where
  pub exact : (limit first max : ℕ) (g : Given) (answer : Row) (body : List ℕ)
      → StateExact limit first max g answer body
  pub fields : (g : Given) (answer : Row) (body : List ℕ) → FieldsExact g answer body
  pub is_in_range : (g : Given) (answer : Row) (body : List ℕ) → WaitIn g.link.waiting → TransferIn g.transfer
      → (leaves frame_limit first_number max_repeats g answer body).row.number ≢ 17
