-- Claims: several calls of the loop write the listing of the bytes that they used. PROTOCOL 10.7, 10.10.
use Rattle.std.specs.Prelude.{ℕ, ◌+◌, ◌^◌, ◌≤◌, ◌<◌, ◌≡◌, ◌≢◌, List, ◌++◌, length}
use Rattle.base.specs.Runs.{Run}
use Rattle.frame.specs.Wire.{widest}
use Rattle.frame.specs.State.{State}
use Rattle.frame.specs.Calls.{fresh_of}
use Rattle.listing.specs.Feeding.{list_of}
use Rattle.listing.specs.Listing.{IsListing}
use Rattle.listing.specs.Turns.{Turn, turns_of, written_by, OfferedFront}

-- ---- turns_listing: of a fresh reader, what turns write is the listing of the bytes that they used
abbrev pub TurnsListing : Type 0
TurnsListing =
    (prefix : List ℕ) (limit : ℕ) → limit ≤ widest → (turns : List Turn)
    → IsListing prefix limit (turns_of limit prefix (fresh_of limit) turns).consumed
    (written_by limit prefix (turns_of limit prefix (fresh_of limit) turns))

-- ---- turns_stop: of a fresh reader no turn stops for STATE, and one stops for USED only past 2^62 bytes
pub record TurnStops (consumed bytes : List ℕ) (run : Run State) : Type 0 where
  pub never_state : run.stop ≢ 17
  pub used_late : run.stop ≡ 18 → 2 ^ 62 < length consumed + length bytes

-- a turn after others
abbrev pub TurnsStop : Type 0
TurnsStop =
    (prefix : List ℕ) (limit : ℕ) → limit ≤ widest → (turns : List Turn) (t : Turn)
    → TurnStops (turns_of limit prefix (fresh_of limit) turns).consumed t.bytes
    (list_of limit prefix (turns_of limit prefix (fresh_of limit) turns).state t.bytes t.room)

-- ---- turns_front: where each turn is offered the front of what is left to send, what they used is the front of it
abbrev pub TurnsFront : Type 0
TurnsFront =
    (limit : ℕ) (prefix : List ℕ) (r : State) (sent : List ℕ) (turns : List Turn)
    → OfferedFront limit prefix r sent turns
    → (rest : List ℕ) × (sent ≡ (turns_of limit prefix r turns).consumed ++ rest)

-- ---- sent_turns: where they use all of it in this way, what they write is its listing
abbrev pub SentTurns : Type 0
SentTurns =
    (prefix : List ℕ) (limit : ℕ) → limit ≤ widest → (sent : List ℕ) (turns : List Turn)
    → OfferedFront limit prefix (fresh_of limit) sent turns
    → length (turns_of limit prefix (fresh_of limit) turns).consumed ≡ length sent
    → IsListing prefix limit sent (written_by limit prefix (turns_of limit prefix (fresh_of limit) turns))

-- ---- any_turns: the same bytes used have the same listing, however reads and rooms cut them: PROTOCOL 10.7
abbrev pub AnyTurns : Type 0
AnyTurns =
    (prefix : List ℕ) (limit : ℕ) → limit ≤ widest → (a b : List Turn)
    → (turns_of limit prefix (fresh_of limit) a).consumed ≡ (turns_of limit prefix (fresh_of limit) b).consumed
    → written_by limit prefix (turns_of limit prefix (fresh_of limit) a)
    ≡ written_by limit prefix (turns_of limit prefix (fresh_of limit) b)
