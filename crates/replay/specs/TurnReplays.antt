-- Claims: the capture's bytes alone decide the text, however windows and rooms cut it. PROTOCOL 14.1 to 14.6, 14.9.
use Rattle.std.specs.Prelude.{ℕ, ◌≤◌, ◌≡◌, ◌≢◌, ◌⊎◌, true, List, [], ◌∷◌, ◌++◌, length, take}
use Rattle.base.specs.Keys.{among}
use Rattle.frame.specs.Wire.{widest}
use Rattle.frame.specs.Decisions.{Decision}
use Rattle.frame.specs.Offers.{joined}
use Rattle.capture.specs.Format.{head, direction_of, payload_of, size_of, IsRecord}
use Rattle.capture.specs.Captures.{AllRecords}
use Rattle.capture.specs.Reading.{end_of}
use Rattle.replay.specs.State.{State, fresh_of}
use Rattle.replay.specs.Playing.{play_of}
use Rattle.replay.specs.Closing.{closing_text, close_of}
use Rattle.replay.specs.Lines.{Printed, printed_text, lines_of}
use Rattle.replay.specs.Replays.{heard_of, Adds, AreLines, IsReplay}
use Rattle.replay.specs.Turns.{Turn, state_by, text_by, left_by, AreWindows, Finishes, written_by}

-- ---- turns_replay: from a fresh replay, any turns on a capture of up to 2^62 bytes, and then finish, write its replay
abbrev pub TurnsReplay : Type 0
TurnsReplay =
    (limit : ℕ) → limit ≤ widest → (capture : List ℕ) → length capture ≤ 4611686018427387904 → (turns : List Turn)
    → AreWindows limit (fresh_of limit) capture turns
    → (w : List ℕ) → Finishes (state_by limit (fresh_of limit) turns) (left_by limit (fresh_of limit) capture turns) w
    → IsReplay limit capture (written_by limit (fresh_of limit) turns w)

-- ---- turns_so_far: what turns wrote before a finish, as of a capture that is still being written, or whose read fails

-- the lines of the records that they listed to their end, and of the next one those of the bytes that are fed
pub record SoFar (limit : ℕ) (capture : List ℕ) (s : State) (left text : List ℕ) : Type 0 where
  pub records : List (List ℕ)
  pub lines : List Printed
  pub part : List Decision
  -- nothing is taken of the capture, or its head and these records are
  pub taken : ((records ≡ []) × (left ≡ capture))
      ⊎ ((capture ≡ head ++ (joined records ++ left)) × AllRecords records)
  pub are_lines : AreLines limit [] records lines
  pub part_of : (part ≡ [])
      ⊎ (IsRecord (take (size_of left) left)
      × Adds limit (heard_of (direction_of left) records) (take s.fed (payload_of left)) part)
  pub text_is : text ≡ printed_text (lines ++ lines_of (direction_of left) part)

-- of any turns
abbrev pub TurnsSoFar : Type 0
TurnsSoFar =
    (limit : ℕ) → limit ≤ widest → (capture : List ℕ) → length capture ≤ 4611686018427387904 → (turns : List Turn)
    → AreWindows limit (fresh_of limit) capture turns
    → SoFar limit capture (state_by limit (fresh_of limit) turns) (left_by limit (fresh_of limit) capture turns)
    (text_by limit (fresh_of limit) turns)

-- ---- one_replay: a capture has one replay
abbrev pub OneReplay : Type 0
OneReplay =
    (limit : ℕ) (capture a b : List ℕ) → limit ≤ widest → IsReplay limit capture a → IsReplay limit capture b → a ≡ b

-- ---- any_turns: the same capture has the same text, however it is cut
abbrev pub AnyTurns : Type 0
AnyTurns =
    (limit : ℕ) → limit ≤ widest → (capture : List ℕ) → length capture ≤ 4611686018427387904 → (a b : List Turn)
    → AreWindows limit (fresh_of limit) capture a → AreWindows limit (fresh_of limit) capture b
    → (v w : List ℕ) → Finishes (state_by limit (fresh_of limit) a) (left_by limit (fresh_of limit) capture a) v
    → Finishes (state_by limit (fresh_of limit) b) (left_by limit (fresh_of limit) capture b) w
    → written_by limit (fresh_of limit) a v ≡ written_by limit (fresh_of limit) b w

-- ---- turns_stop: from a fresh replay no turn stops for STATE, and none for USED in a capture of up to 2^62 bytes
pub record TurnStops (number : ℕ) : Type 0 where
  pub never_state : number ≢ 17
  pub never_used : number ≢ 18

-- a turn after others
abbrev pub TurnsStop : Type 0
TurnsStop =
    (limit : ℕ) → limit ≤ widest → (capture : List ℕ) → length capture ≤ 4611686018427387904 → (turns : List Turn)
    → AreWindows limit (fresh_of limit) capture turns
    → (w rest : List ℕ) → left_by limit (fresh_of limit) capture turns ≡ w ++ rest → (room : ℕ)
    → TurnStops (play_of limit (state_by limit (fresh_of limit) turns) w room).stop

-- ---- turns_finish: nor is finish refused for them; and with room for its text it is not refused at all: it has
-- something to play, or a text
abbrev pub TurnsFinish : Type 0
TurnsFinish =
    (limit : ℕ) → limit ≤ widest → (capture : List ℕ) → length capture ≤ 4611686018427387904 → (turns : List Turn)
    → AreWindows limit (fresh_of limit) capture turns
    → (w rest : List ℕ) → left_by limit (fresh_of limit) capture turns ≡ w ++ rest → (out : List ℕ)
    → length (closing_text limit (state_by limit (fresh_of limit) turns)
    (end_of (state_by limit (fresh_of limit) turns).place w)) ≤ length out
    → among (close_of limit (state_by limit (fresh_of limit) turns) w out).row.number (0 ∷ 2 ∷ 51 ∷ 52 ∷ 53 ∷ 54 ∷ [])
    ≡ true
