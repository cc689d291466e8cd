-- Claims: what the box does with each answer of the reader, case by case, in literal numbers. PROTOCOL 16.2 to 16.5.
use Rattle.std.specs.Prelude.{ℕ, ◌≤◌, ◌≡◌, ◌≢◌, true, false, List, [], ◌∷◌, length}
use Rattle.base.specs.Rows.{Row, row}
use Rattle.base.specs.Outcomes.{Output, output}
use Rattle.base.specs.Keys.{among}
use Rattle.frame.specs.Wire.{frame_limit, command_of, number_of, flags_of, payload_of}
use Rattle.message.specs.Replies.{reply_frame_of}
use Rattle.message.specs.RepliesExact.{RejectedWith}
use Rattle.link.specs.Sending.{first_number, max_repeats}
use Rattle.link.specs.Calls.{in_range, receive_of}
use Rattle.link.specs.declared.state.Link.{Link}
use Rattle.transfer.specs.Checks.{in_range_of}
use Rattle.transfer.specs.Calls.{Left, Both, Held, begin_of, store_of, stop_of}
use Rattle.transfer.specs.declared.state.Transfer.{Transfer}
use Rattle.device.specs.Handling.{After, handle_of}

-- ---- a call, as the claims speak of it

-- what the caller holds and lends
pub record Given : Type 0 where
  pub transfer : Transfer
  pub link : Link
  pub clock : ℕ
  pub piece : ℕ
  pub buffer : List ℕ
  pub out : List ℕ

-- the same with another transfer and another link
abbrev pub holding : Given → Transfer → Link → Given
holding g t l =
    record { transfer = t; link = l; clock = g.clock; piece = g.piece; buffer = g.buffer; out = g.out }

-- what the call leaves of an answer of the reader and the body that the reader then holds
abbrev pub leaves : ℕ → ℕ → ℕ → Given → Row → List ℕ → After
leaves limit first max g answer body =
    handle_of limit first max answer body g.transfer g.link g.clock g.piece g.buffer g.out

-- what the code's own call leaves, with this link
abbrev pub leaves_with : Given → Link → Row → List ℕ → After
leaves_with g l answer body = leaves frame_limit first_number max_repeats (holding g g.transfer l) answer body

-- the link and the transfer are in range
abbrev pub Ranged : ℕ → ℕ → Given → Type 0
Ranged first max g = (in_range first max g.link ≡ true) × (in_range_of g.transfer ≡ true)

-- ---- handle_exact: of every link and transfer in range

-- the link after a frame
abbrev pub link_after : ℕ → ℕ → Given → List ℕ → Link
link_after first max g body = (receive_of first max g.link (command_of body) (number_of body)).state

-- nothing is written, and nothing changes
abbrev pub Silent : Given → After → Type 0
Silent g y =
    y ≡ record {
      row = row 0 [];
      ended = row 0 [];
      transfer = g.transfer;
      link = g.link;
      buffer = g.buffer;
      out = g.out;
    }

-- SUM: a 12 with code 1, under the number of the body
pub record SumExact (limit : ℕ) (g : Given) (body : List ℕ) (y : After) : Type 0 where
  pub reply : RejectedWith limit (number_of body) 1 15 g.out (output y.row y.out)
  pub ended_is : y.ended ≡ row 0 []
  pub transfer_is : y.transfer ≡ g.transfer
  pub link_is : y.link ≡ g.link
  pub buffer_is : y.buffer ≡ g.buffer

-- the answer and the output are those of `w`, and what the caller holds and lends is this
pub record Comes (w : Output) (t : Transfer) (l : Link) (buffer : List ℕ) (y : After) : Type 0 where
  pub answer_is : y.row ≡ w.row
  pub out_is : y.out ≡ w.out
  pub transfer_is : y.transfer ≡ t
  pub link_is : y.link ≡ l
  pub buffer_is : y.buffer ≡ buffer

-- a 19, of which the transfer leaves `b`
abbrev pub BeginComes : Given → Left Both → After → Type 0
BeginComes g b y = Comes (output b.row b.out) b.state.transfer b.state.link g.buffer y

-- a 1D, of which the transfer leaves `s`; the link is `l`
abbrev pub StoreComes : Link → Left Held → After → Type 0
StoreComes l s y = Comes (output s.row s.out) s.state.transfer l s.state.buffer y

-- a 1F, of which the transfer leaves `s`
abbrev pub StopComes : Given → Link → Left Transfer → After → Type 0
StopComes g l s y = Comes (output s.row s.out) s.state l g.buffer y

-- the answers of the reader: FRAME 1, by its command, SUM 15, and all others
pub record HandledExact (limit first max : ℕ) (g : Given) : Type 0 where
  pub silent :
      (answer : Row) (body : List ℕ) → answer.number ≢ 1 → answer.number ≢ 15
      → Silent g (leaves limit first max g answer body)
  pub wrong_sum_lem : (v body : List ℕ) → 6 ≤ limit → SumExact limit g body (leaves limit first max g (row 15 v) body)
  pub other :
      (v body : List ℕ) → among (command_of body) (0x19 ∷ 0x1D ∷ 0x1F ∷ []) ≡ false
      → Comes (reply_frame_of limit (command_of body) (number_of body) (payload_of body) g.out) g.transfer
      (link_after first max g body) g.buffer (leaves limit first max g (row 1 v) body)
  pub begin :
      (v body : List ℕ) → command_of body ≡ 0x19
      → BeginComes g
      (begin_of limit first max g.transfer (link_after first max g body) g.clock (number_of body) (payload_of body)
      g.piece (length g.buffer) g.out)
      (leaves limit first max g (row 1 v) body)
  pub store :
      (v body : List ℕ) → command_of body ≡ 0x1D
      → StoreComes (link_after first max g body)
      (store_of limit g.transfer (number_of body) (flags_of body) (payload_of body) g.buffer g.out)
      (leaves limit first max g (row 1 v) body)
  pub stop :
      (v body : List ℕ) → command_of body ≡ 0x1F
      → StopComes g (link_after first max g body)
      (stop_of limit g.transfer (number_of body) (payload_of body) g.out)
      (leaves limit first max g (row 1 v) body)

-- under every limit and with any figures of the link
abbrev pub HandleExact : Type 0
HandleExact = (limit first max : ℕ) (g : Given) → Ranged first max g → HandledExact limit first max g

-- ---- leaves_stated: a call of these claims is what the contract of `handle` states, of all parts
pub record EachStated (limit first max : ℕ) (answer : Row) (body : List ℕ) : Type 0 where
  pub of_parts : (t : Transfer) (l : Link) (clock piece : ℕ) (buffer out : List ℕ)
      → leaves limit first max
      (record { transfer = t; link = l; clock = clock; piece = piece; buffer = buffer; out = out }) answer body
      ≡ handle_of limit first max answer body t l clock piece buffer out
  pub held : (g : Given) (t : Transfer) (l : Link) → leaves limit first max (holding g t l) answer body
      ≡ handle_of limit first max answer body t l g.clock g.piece g.buffer g.out
  pub with_link : (g : Given) (l : Link) → leaves_with g l answer body
      ≡ handle_of frame_limit first_number max_repeats answer body g.transfer l g.clock g.piece g.buffer
      g.out

-- under every limit and with any figures of the link
abbrev pub LeavesStated : Type 0
LeavesStated = (limit first max : ℕ) (answer : Row) (body : List ℕ) → EachStated limit first max answer body
