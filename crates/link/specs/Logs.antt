-- Statement: what a list of calls answered, and what calls and answers alone say of the waits. PROTOCOL 9.1 to 9.9.
use Rattle.std.specs.Prelude.{ℕ, zero, suc, Bool, true, false, cond, ◌&&◌, List, [], ◌∷◌, ◌==◌, slice_index}
use Rattle.std.specs.Prelude.{slice_index_or}
use Rattle.base.specs.Rows.{Row}
use Rattle.link.specs.Sending.{number_at}
use Rattle.link.specs.Clock.{is_due}
use Rattle.link.specs.declared.state.Link.{Link}

-- ---- the log of a list of calls

-- the three calls of a link
pub data Call : Type 0 where
  offering : ℕ → ℕ → Call  -- a command, at a clock
  ticking : ℕ → Call  -- at a clock
  receiving : ℕ → ℕ → Call  -- the command and number of a received frame

-- a call, its row, and the link before and after it
pub record Entry : Type 0 where
  pub call : Call
  pub row : Row
  pub before : Link
  pub after : Link

-- the answers, as rows
unfoldable pub rows_in : List Entry → List Row
rows_in [] = []
rows_in (e ∷ es) = e.row ∷ rows_in es

-- ---- what a call and its answer say, without the link's fields

-- a command is accepted: PROTOCOL 9.13
abbrev pub accepted_in : Call → Row → Bool
accepted_in (offering command clock) r = r.number == 0
accepted_in (ticking clock) r = false
accepted_in (receiving command number) r = false

-- a tick says to send again: PROTOCOL 9.6
abbrev pub repeated_in : Call → Row → Bool
repeated_in (offering command clock) r = false
repeated_in (ticking clock) r = r.number == 0 && slice_index r.values 0 == 1
repeated_in (receiving command number) r = false

-- the end of a wait: a tick gives up (PROTOCOL 9.7), or a frame fits (PROTOCOL 9.9)
abbrev pub ended_in : Call → Row → Bool
ended_in (offering command clock) r = false
ended_in (ticking clock) r = r.number == 0 && slice_index r.values 0 == 2
ended_in (receiving command number) r = r.number == 0

-- the command that an offer has; used of offers alone
abbrev pub command_in : Call → ℕ
command_in (offering command clock) = command
command_in (ticking clock) = 0
command_in (receiving command number) = 0

-- the clock that an offer or a tick has; used of these alone
abbrev pub clock_in : Call → ℕ
clock_in (offering command clock) = clock
clock_in (ticking clock) = clock
clock_in (receiving command number) = 0

-- a tick that is due, after a sending at a clock
abbrev pub due_in : Call → ℕ → Bool
due_in (offering command clock) sent = false
due_in (ticking clock) sent = is_due clock sent
due_in (receiving command number) sent = false

-- an entry accepts a command
abbrev pub accepted : Entry → Bool
accepted e = accepted_in e.call e.row

-- an entry sends again
abbrev pub repeated : Entry → Bool
repeated e = repeated_in e.call e.row

-- an entry ends a wait
abbrev pub ended : Entry → Bool
ended e = ended_in e.call e.row

-- the number that an accepted offer returns, and 256, which no command has, for an answer without one
abbrev pub number_in : Entry → ℕ
number_in e = slice_index_or e.row.values 0 256

-- ---- counted over a log

-- the sequence numbers of the accepted commands, in order
unfoldable pub numbers_used : List Entry → List ℕ
numbers_used [] = []
numbers_used (e ∷ es) = cond (accepted e) (number_in e ∷ numbers_used es) (numbers_used es)

-- the k-th number and those after it, n in all
unfoldable pub numbers_from : ℕ → ℕ → ℕ → List ℕ
numbers_from first k zero = []
numbers_from first k (suc n) = number_at first k ∷ numbers_from first (suc k) n

-- whether a command waits after a log, from whether one waits before it; waits is a term of ours: PROTOCOL 9.1
unfoldable pub waits_after : Bool → List Entry → Bool
waits_after waits [] = waits
waits_after waits (e ∷ es) = waits_after (cond (accepted e) true (cond (ended e) false waits)) es

-- whether no entry ends a wait
unfoldable pub none_ends : List Entry → Bool
none_ends [] = true
none_ends (e ∷ es) = cond (ended e) false (none_ends es)

-- how many repeats there are
unfoldable pub repeats_in : List Entry → ℕ
repeats_in [] = 0
repeats_in (e ∷ es) = cond (repeated e) (suc (repeats_in es)) (repeats_in es)

-- of one wait, the clock of the last sending after an entry: PROTOCOL 9.5
abbrev pub sent_after : ℕ → Entry → ℕ
sent_after sent e = cond (repeated e) (clock_in e.call) sent

-- the same after entries of one wait
unfoldable pub last_sent : ℕ → List Entry → ℕ
last_sent sent [] = sent
last_sent sent (e ∷ es) = last_sent (sent_after sent e) es

-- how many ticks of one wait are due, each after the sending that precedes it
unfoldable pub due_ticks : ℕ → List Entry → ℕ
due_ticks sent [] = 0
due_ticks sent (e ∷ es) =
    cond (due_in e.call sent) (suc (due_ticks (sent_after sent e) es)) (due_ticks (sent_after sent e) es)
