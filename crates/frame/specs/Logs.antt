-- Statement: what a list of calls of one reader gave: its stream, delivered frames and decisions. PROTOCOL 5.1 to 5.10.
-- It uses `State` of the model, held by states_injective and named_states.
use Rattle.std.specs.Prelude.{◌≡◌, ℕ, Bool, cond, ◌&&◌, ◌||◌, List, [], ◌∷◌, ◌++◌, take, ◌==◌, nat_le, slice_index}
use Rattle.base.specs.Rows.{Row}
use Rattle.frame.specs.Decisions.{Decision}
use Rattle.frame.specs.Frames.{Found, found, front_body}
use Rattle.frame.specs.State.{State}
use Rattle.frame.specs.Table.{count_of, further_of}

-- the two calls: PROTOCOL 5.1
pub data Call : Type 0 where
  feed : List ℕ → Call  -- offers data
  finish : Call  -- says that the input ends

-- a call, its answer, and the whole state of the reader before and after it
pub record Entry : Type 0 where
  pub call : Call
  pub row : Row
  pub before : State
  pub after : State

-- shorthand for an entry, for lists of calls that are written out
abbrev pub entry : Call → Row → State → State → Entry
entry c a before after = record { call = c; row = a; before = before; after = after }

-- each call gets the reader that the previous one returned: PROTOCOL 5.1
unfoldable pub Chains : State → List Entry → Type 0
Chains r [] = Unit {0}
Chains r (e ∷ es) = (e.before ≡ r) × Chains e.after es

-- the data that a call is offered
abbrev pub offered : Call → List ℕ
offered (feed bytes) = bytes
offered finish = []

-- the bytes that a call consumed, a term of ours, by its answer: PROTOCOL 5.2, 5.3
abbrev pub consumed_by : Call → Row → ℕ
consumed_by (feed bytes) r = count_of r
consumed_by finish r = 0

-- the same of an entry
abbrev pub consumed_in : Entry → ℕ
consumed_in e = consumed_by e.call e.row

-- the stream, a term of ours: PROTOCOL 5.4
unfoldable pub stream : List Entry → List ℕ
stream [] = []
stream (e ∷ es) = take (consumed_in e) (offered e.call) ++ stream es

-- one entry's delivered frame, if it has one, followed by others. Its body is the one held at the call's return
abbrev pub add_delivered : Entry → List Found → List Found
add_delivered e l =
    cond (e.row.number == 1)
    (found (slice_index e.row.values 1) (slice_index e.row.values 2) (front_body e.after.body) ∷ l)
    l

-- the delivered frames, a term of ours: PROTOCOL 5.7
unfoldable pub delivered : List Entry → List Found
delivered [] = []
delivered (e ∷ es) = add_delivered e (delivered es)

-- the numbers of FRAME and of the refused frames
abbrev pub decided : ℕ → Bool
decided number = number == 1 || ((nat_le 11 number && nat_le number 15) || number == 19)

-- the body held at FRAME and at SUM: PROTOCOL 4.13
abbrev pub body_held : ℕ → List ℕ → List ℕ
body_held number held = cond (number == 1 || number == 15) (front_body held) []

-- an answer as a decision about the stream
abbrev pub decision_in : Entry → Decision
decision_in e =
    record {
      number = e.row.number;
      start = slice_index e.row.values 1;
      end = slice_index e.row.values 2;
      values = further_of e.row;
      body = body_held e.row.number e.after.body;
    }

-- one entry's decision, if it has one, followed by others
abbrev pub add_decision : Entry → List Decision → List Decision
add_decision e ls = cond (decided e.row.number) (decision_in e ∷ ls) ls

-- the decisions, in the order of the calls: PROTOCOL 5.10
unfoldable pub decisions_of : List Entry → List Decision
decisions_of [] = []
decisions_of (e ∷ es) = add_decision e (decisions_of es)

-- the frames among decisions
unfoldable pub frames_in : List Decision → List Found
frames_in [] = []
frames_in (d ∷ ds) = cond (d.number == 1) (found d.start d.end d.body ∷ frames_in ds) (frames_in ds)
