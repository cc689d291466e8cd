-- Claims: what holds of one call of any reader, and that no call of a reader that began fresh is answered STATE.
-- PROTOCOL 4.10, 4.16, 4.17, 5.2, 5.3, 5.11.
use Rattle.std.specs.Prelude.{◌≡◌, ℕ, ◌+◌, ◌^◌, ◌≤◌, true, false, ◌≢◌, List, [], ◌∷◌, ◌++◌, length, drop}
use mathlib.Core.List.{Memᴰ}
use Rattle.base.specs.Outcomes.{Outcome, outcome}
use Rattle.base.specs.Rows.{row}
use Rattle.frame.specs.Calls.{fresh_of, feed_of, finish_of}
use Rattle.frame.specs.Logs.{Call, Entry}
use Rattle.frame.specs.LogsComputed.{log_of}
use Rattle.frame.specs.Rules.{in_range_of}
use Rattle.frame.specs.State.{State}
use Rattle.frame.specs.Table.{count_of}
use Rattle.frame.specs.Wire.{widest}

-- ---- within: a feed never counts more than it was offered: PROTOCOL 5.2
abbrev pub Within : Type 0
Within = (limit : ℕ) (r : State) (bytes : List ℕ) → count_of (feed_of limit r bytes).row ≤ length bytes

-- ---- progress: a feed that is offered a byte consumes one at least, except with STATE or USED: PROTOCOL 5.11
abbrev pub Progress : Type 0
Progress =
    (limit : ℕ) (r : State) (bytes : List ℕ)
    → in_range_of limit r.scan ≡ true → r.scan.consumed + length bytes ≤ 2 ^ 62 → 1 ≤ length bytes
    → 1 ≤ count_of (feed_of limit r bytes).row

-- ---- empty_call: a feed with no data: PROTOCOL 4.16
abbrev pub EmptyCall : Type 0
EmptyCall = (limit : ℕ) (r : State) → in_range_of limit r.scan ≡ true → feed_of limit r [] ≡ outcome (row 0 (0 ∷ [])) r

-- ---- state_kept: STATE leaves the reader unchanged and counts 0, in both calls: PROTOCOL 4.10
abbrev pub StateKept : Type 0
StateKept =
    (limit : ℕ) (r : State) (bytes : List ℕ) → in_range_of limit r.scan ≡ false
    → (feed_of limit r bytes ≡ outcome (row 17 (0 ∷ [])) r) × (finish_of limit r ≡ outcome (row 17 (0 ∷ [])) r)

-- ---- finish_keeps: a finish leaves every reader unchanged: PROTOCOL 5.3
abbrev pub FinishKeeps : Type 0
FinishKeeps = (limit : ℕ) (r : State) → (finish_of limit r).state ≡ r

-- ---- never_state: no call of a reader that began fresh is answered STATE: PROTOCOL 4.17
abbrev pub NeverState : Type 0
NeverState =
    (limit : ℕ) → limit ≤ widest → (calls : List Call) (e : Entry)
    → Memᴰ e (log_of limit (fresh_of limit) calls) → e.row.number ≢ 17

-- ---- in_pieces: one feed of some data, and two feeds of its two pieces

-- an answer, where n bytes more are counted
abbrev pub later : ℕ → Outcome State → Outcome State
later n y = outcome (row y.row.number ((n + count_of y.row) ∷ drop 1 y.row.values)) y.state

-- if the first piece decides nothing, the second goes on from there; otherwise the second is not reached
pub record InPieces (limit : ℕ) (r : State) (a b : List ℕ) : Type 0 where
  pub continues : (feed_of limit r a).row.number ≡ 0
      → feed_of limit r (a ++ b) ≡ later (length a) (feed_of limit (feed_of limit r a).state b)
  pub stops : (feed_of limit r a).row.number ≢ 0 → feed_of limit r (a ++ b) ≡ feed_of limit r a

-- of every reader in range that may consume both
abbrev pub AllInPieces : Type 0
AllInPieces =
    (limit : ℕ) → limit ≤ widest → (r : State) (a b : List ℕ)
    → r.scan.filled ≤ limit + 1 → r.scan.consumed + length (a ++ b) ≤ 4611686018427387904
    → InPieces limit r a b
