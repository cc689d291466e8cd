-- Claims: a sender that offers again what is left has all its bytes consumed. PROTOCOL 5.5, 5.11.
use Rattle.std.specs.Prelude.{◌≡◌, ℕ, ◌+◌, ◌^◌, ◌≤◌, List, length}
use Rattle.frame.specs.Calls.{fresh_of}
use Rattle.frame.specs.Logs.{Call, Entry, stream}
use Rattle.frame.specs.LogsComputed.{log_of, state_after, send}
use Rattle.frame.specs.Offers.{OffersFront, Front, joined}
use Rattle.frame.specs.State.{State}
use Rattle.frame.specs.Wire.{widest}

-- ---- sent_again: where the data left always comes first in the next offer, the stream is the front of the bytes sent
abbrev pub SentAgain : Type 0
SentAgain =
    (limit : ℕ) → limit ≤ widest → (calls : List Call) (sent : List ℕ)
    → OffersFront sent (log_of limit (fresh_of limit) calls)
    → Front sent (log_of limit (fresh_of limit) calls)

-- ---- sent_whole: after any calls, a sender that offers each piece until it is consumed has all of them consumed,
-- up to 2^62 bytes in all

-- the calls of such a sender
abbrev pub sent_after : ℕ → State → List (List ℕ) → List Entry
sent_after limit r pieces = log_of limit r (send limit r pieces)

-- of all earlier calls, and all pieces
abbrev pub SentWhole : Type 0
SentWhole =
    (limit : ℕ) → limit ≤ widest → (earlier : List Call) (pieces : List (List ℕ))
    → length (stream (log_of limit (fresh_of limit) earlier)) + length (joined pieces) ≤ 2 ^ 62
    → stream (sent_after limit (state_after limit (fresh_of limit) earlier) pieces) ≡ joined pieces
