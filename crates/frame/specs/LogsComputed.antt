-- Model: the list of calls that `Calls` gives, held to `Logs` by log_exact, log_chains and worked_logs. PROTOCOL 5.1.
use Rattle.std.specs.Prelude.{ℕ, zero, suc, List, [], ◌∷◌, ◌++◌, length, drop}
use Rattle.base.specs.Outcomes.{Outcome}
use Rattle.frame.specs.Calls.{feed_of, finish_of}
use Rattle.frame.specs.Logs.{Call, feed, finish, Entry}
use Rattle.frame.specs.State.{State}
use Rattle.frame.specs.Table.{count_of}

-- the definitions that the contracts of the two calls state
abbrev pub call_of : ℕ → State → Call → Outcome State
call_of limit r (feed bytes) = feed_of limit r bytes
call_of limit r finish = finish_of limit r

-- the entry of a call of a reader in some state
abbrev pub entry_of : State → Call → Outcome State → Entry
entry_of r c y = record { call = c; row = y.row; before = r; after = y.state }

-- all calls, refused ones included, each of the reader that the previous one returned
unfoldable pub log_of : ℕ → State → List Call → List Entry
log_of limit r [] = []
log_of limit r (c ∷ cs) = entry_of r c (call_of limit r c) ∷ log_of limit (call_of limit r c).state cs

-- the reader that the last of them returned
unfoldable pub state_after : ℕ → State → List Call → State
state_after limit r [] = r
state_after limit r (c ∷ cs) = state_after limit (call_of limit r c).state cs

-- a sender that offers bytes and then what is left of them, in n calls, of which the later ones may be empty
unfoldable pub offer : ℕ → ℕ → State → List ℕ → List Call
offer limit zero r bytes = []
offer limit (suc n) r bytes =
    feed bytes ∷ offer limit n (feed_of limit r bytes).state (drop (count_of (feed_of limit r bytes).row) bytes)

-- the same for bytes in pieces, one piece after another
unfoldable pub send : ℕ → State → List (List ℕ) → List Call
send limit r [] = []
send limit r (p ∷ ps) = offer limit (length p) r p ++ send limit (state_after limit r (offer limit (length p) r p)) ps
