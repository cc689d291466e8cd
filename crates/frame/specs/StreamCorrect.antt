-- Claims: stream_correct, what the buyer asks of a stream, about a whole list of calls. PROTOCOL 5.1 to 5.11.
-- The record `StreamCorrect` is the statement to be judged; it stands here, next to its claim.
-- Other claims: which decisions the calls give, and that the lists are unique.
use Rattle.std.specs.Prelude.{◌≡◌, ℕ, ◌≤◌, ◌≢◌, ◌⊎◌, List, [], ◌∷◌, ◌++◌, length}
use mathlib.Core.List.{Memᴰ}
use Rattle.base.specs.Outcomes.{outcome}
use Rattle.base.specs.Rows.{row}
use Rattle.frame.specs.Accounts.{Accounts}
use Rattle.frame.specs.Calls.{fresh_of, finish_of}
use Rattle.frame.specs.Decisions.{Decision, ListsDecisions, IsOpen}
use Rattle.frame.specs.Frames.{Found, Lists}
use Rattle.frame.specs.FramesComputed.{frames_of}
use Rattle.frame.specs.Logs.{Call, Entry, Chains, stream, delivered, decisions_of, frames_in}
use Rattle.frame.specs.LogsComputed.{log_of, state_after}
use Rattle.frame.specs.Offers.{OffersFront, Front}
use Rattle.frame.specs.State.{State}
use Rattle.frame.specs.Wire.{widest}

-- ---- stream_correct: the delivered frames are the frames of the stream, and each call keeps its promises.
-- `wrong_logs` shows lists of calls that it refuses
pub record StreamCorrect (limit : ℕ) (log : List Entry) : Type 0 where
  -- `frames` follows from `lists` by one_list; judge `lists`
  pub frames : delivered log ≡ frames_of limit (stream log)
  pub lists : Lists limit (stream log) (delivered log)
  pub accounts : Accounts 0 log
  pub chains : Chains (fresh_of limit) log
  pub again : (sent : List ℕ) → OffersFront sent log → Front sent log

-- of every list of calls of a fresh reader
abbrev pub StreamsCorrect : Type 0
StreamsCorrect =
    (limit : ℕ) → limit ≤ widest → (calls : List Call) → StreamCorrect limit (log_of limit (fresh_of limit) calls)

-- ---- each_decision: FRAME and the refused frames are exactly the decisions of the stream, however the calls cut it.
-- PROTOCOL 5.10
abbrev pub EachDecision : Type 0
EachDecision =
    (limit : ℕ) → limit ≤ widest → (calls : List Call)
    → ListsDecisions limit (stream (log_of limit (fresh_of limit) calls))
    (decisions_of (log_of limit (fresh_of limit) calls))

-- ---- no_header_lost: each header that no FF follows has its decision, or its frame is still open
abbrev pub NoHeaderLost : Type 0
NoHeaderLost =
    (limit : ℕ) → limit ≤ widest → (calls : List Call) (before after : List ℕ) (x : ℕ)
    → stream (log_of limit (fresh_of limit) calls) ≡ before ++ 255 ∷ 255 ∷ x ∷ after → x ≢ 255
    → ((l : Decision) × (l.start ≡ length before) × Memᴰ l (decisions_of (log_of limit (fresh_of limit) calls)))
    ⊎ IsOpen limit (stream (log_of limit (fresh_of limit) calls)) (length before)

-- ---- finish_correct: a finish after any calls is OPEN with the start of the frame that is open in the stream,
-- or CLEAN where none is. PROTOCOL 4.3, 4.9, 5.9, 5.10
pub record FinishCorrect (limit : ℕ) (consumed : List ℕ) (r : State) : Type 0 where
  pub left_open : (start : ℕ)
      → IsOpen limit consumed start → finish_of limit r ≡ outcome (row 16 (length consumed ∷ start ∷ [])) r
  pub left_clean : ((start : ℕ) → IsOpen limit consumed start → ⊥)
      → finish_of limit r ≡ outcome (row 2 (length consumed ∷ [])) r

-- after every list of calls of a fresh reader
abbrev pub FinishesCorrect : Type 0
FinishesCorrect =
    (limit : ℕ) → limit ≤ widest → (calls : List Call)
    → FinishCorrect limit (stream (log_of limit (fresh_of limit) calls)) (state_after limit (fresh_of limit) calls)

-- ---- one_list: a stream has exactly one list of frames, and `frames_of` computes it
abbrev pub OneList : Type 0
OneList =
    (limit : ℕ) → limit ≤ widest → (t : List ℕ)
    → Lists limit t (frames_of limit t) × ((l : List Found) → Lists limit t l → l ≡ frames_of limit t)

-- ---- one_decisions: a stream has at most one list of decisions, so `ListsDecisions` fixes it
abbrev pub OneDecisions : Type 0
OneDecisions =
    (limit : ℕ) (t : List ℕ) (a b : List Decision) → ListsDecisions limit t a → ListsDecisions limit t b → a ≡ b

-- ---- decided_frames: the frames of a stream are the frames among its decisions
abbrev pub DecidedFrames : Type 0
DecidedFrames =
    (limit : ℕ) → limit ≤ widest → (t : List ℕ) (ds : List Decision) → ListsDecisions limit t ds
    → frames_in ds ≡ frames_of limit t
