-- Claims: the computed list of calls, entry by entry. PROTOCOL 5.1 to 5.5.
use Rattle.std.specs.Prelude.{◌≡◌, ℕ, List, [], ◌∷◌, map}
use mathlib.Core.List.{Memᴰ}
use Rattle.base.specs.Outcomes.{outcome}
use Rattle.base.specs.Rows.{row}
use Rattle.frame.specs.Calls.{feed_of, finish_of}
use Rattle.frame.specs.Logs.{Call, feed, finish, Entry, entry, Chains, stream}
use Rattle.frame.specs.LogsComputed.{log_of, state_after}
use Rattle.frame.specs.Offers.{OffersFront, joined}
use Rattle.frame.specs.State.{State}

-- the call of an entry
abbrev pub call_in : Entry → Call
call_in e = e.call

-- the entry has the answer that the call's definition gives
abbrev pub Answered : ℕ → Entry → Type 0
Answered limit e =
    ((bytes : List ℕ) → e.call ≡ feed bytes → outcome e.row e.after ≡ feed_of limit e.before bytes)
    × (e.call ≡ finish → outcome e.row e.after ≡ finish_of limit e.before)

-- the reader that the last entry leaves, or r if there is no entry
unfoldable pub last_of : State → List Entry → State
last_of r [] = r
last_of r (e ∷ es) = last_of e.after es

-- ---- log_exact: the log has all calls, in order, each answered by its definition; the state after them is what the
-- last one left
pub record LogExact (limit : ℕ) (r : State) (calls : List Call) : Type 0 where
  pub all_calls : map call_in (log_of limit r calls) ≡ calls
  pub answered : (e : Entry) → Memᴰ e (log_of limit r calls) → Answered limit e
  pub left : state_after limit r calls ≡ last_of r (log_of limit r calls)

-- of every reader and all calls
abbrev pub LogsExact : Type 0
LogsExact = (limit : ℕ) (r : State) (calls : List Call) → LogExact limit r calls

-- ---- log_chains: each call gets the reader that the previous one left, and the first call gets r
abbrev pub LogChains : Type 0
LogChains = (limit : ℕ) (r : State) (calls : List Call) → Chains r (log_of limit r calls)

-- ---- worked_logs: pieces joined; the stream of calls of which the first consumed one byte of two; an offer that comes
-- again first, and one that does not
pub record WorkedLogs (r : State) : Type 0 where
  pub pieces : joined ((1 ∷ 2 ∷ []) ∷ [] ∷ (3 ∷ []) ∷ []) ≡ 1 ∷ 2 ∷ 3 ∷ []
  pub consumed : stream
      (entry (feed (1 ∷ 2 ∷ [])) (row 11 (1 ∷ 0 ∷ 1 ∷ [])) r r ∷ entry finish (row 2 (1 ∷ [])) r r
      ∷ entry (feed (2 ∷ 3 ∷ [])) (row 0 (2 ∷ [])) r r ∷ [])
      ≡ 1 ∷ 2 ∷ 3 ∷ []
  pub again : OffersFront (1 ∷ 2 ∷ 3 ∷ 4 ∷ [])
      (entry (feed (1 ∷ 2 ∷ [])) (row 11 (1 ∷ 0 ∷ 1 ∷ [])) r r ∷ entry finish (row 2 (1 ∷ [])) r r
      ∷ entry (feed (2 ∷ 3 ∷ [])) (row 0 (2 ∷ [])) r r ∷ [])
  pub not_again : OffersFront (1 ∷ 2 ∷ 3 ∷ [])
      (entry (feed (1 ∷ 2 ∷ [])) (row 11 (1 ∷ 0 ∷ 1 ∷ [])) r r ∷ entry (feed (3 ∷ [])) (row 0 (1 ∷ [])) r r ∷ [])
      → ⊥

-- of any state
abbrev pub LogsWorked : Type 0
LogsWorked = (r : State) → WorkedLogs r
