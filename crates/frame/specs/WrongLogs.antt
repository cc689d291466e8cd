-- Claims: wrong lists of calls, each refused by one field of stream_correct. PROTOCOL 5.1 to 5.11, 12.6.
-- They do not depend on a reader: the states are any.
use Rattle.std.specs.Prelude.{◌≡◌, ℕ, ◌^◌, ◌<◌, false, ◌≢◌, List, [], ◌∷◌, length}
use Rattle.base.specs.Keys.{among}
use Rattle.base.specs.Rows.{Row, row}
use Rattle.frame.specs.Calls.{fresh_of}
use Rattle.frame.specs.Logs.{Call, feed, finish, entry}
use Rattle.frame.specs.State.{State}
use Rattle.frame.specs.StreamCorrect.{StreamCorrect}
use Rattle.frame.specs.Wire.{frame_limit}

-- a log of this one call is not stream_correct
abbrev pub Refused : ℕ → Call → Row → State → State → Type 0
Refused limit c a before after = StreamCorrect limit (entry c a before after ∷ []) → ⊥

-- example 1 of PROTOCOL 11.1
abbrev pub heartbeat : List ℕ
heartbeat = 0xFF ∷ 0xFF ∷ 0x00 ∷ 0x05 ∷ 0x07 ∷ 0x01 ∷ 0x00 ∷ 0x00 ∷ 0x0D ∷ []

-- ---- wrong_logs: one call of a reader r, which leaves the reader q
pub record WrongLogs (limit : ℕ) (r q : State) : Type 0 where
  -- a feed is answered CLEAN, OPEN, STATE, or a number that no feed has
  pub feed_clean : Refused limit (feed (7 ∷ [])) (row 2 (1 ∷ [])) r q
  pub feed_open : Refused limit (feed (7 ∷ [])) (row 16 (1 ∷ 0 ∷ [])) r q
  pub feed_state : Refused limit (feed (7 ∷ [])) (row 17 (1 ∷ [])) r q
  pub feed_other : (bytes v : List ℕ) (k : ℕ)
      → among k (0 ∷ 1 ∷ 11 ∷ 12 ∷ 13 ∷ 14 ∷ 15 ∷ 18 ∷ 19 ∷ []) ≡ false → Refused limit (feed bytes) (row k v) r q
  -- a finish is answered MORE, FRAME, STATE, or a number that no finish has
  pub finish_more : Refused limit finish (row 0 (0 ∷ [])) r q
  pub finish_frame : Refused limit finish (row 1 (0 ∷ 0 ∷ 0 ∷ [])) r q
  pub finish_state : Refused limit finish (row 17 (0 ∷ [])) r q
  pub finish_99 : Refused limit finish (row 99 (0 ∷ [])) r q
  pub finish_other : (v : List ℕ) (k : ℕ) → among k (2 ∷ 16 ∷ []) ≡ false → Refused limit finish (row k v) r q
  -- more is consumed than was offered, whatever the answer
  pub too_many : (k : ℕ) (v : List ℕ) → Refused limit (feed (7 ∷ [])) (row k (2 ∷ v)) r q
  -- MORE consumes one byte of two, or none of one
  pub more_one : Refused limit (feed (7 ∷ 7 ∷ [])) (row 0 (1 ∷ [])) r q
  pub more_none : Refused limit (feed (7 ∷ [])) (row 0 (0 ∷ [])) r q
  -- an answer other than USED consumes no byte
  pub none_consumed : (k : ℕ) (v : List ℕ) → k ≢ 18 → Refused limit (feed (7 ∷ [])) (row k (0 ∷ v)) r q
  -- a feed with no data is not answered MORE, or changes the reader
  pub empty_decides : (k : ℕ) (v : List ℕ) → k ≢ 0 → Refused limit (feed []) (row k v) r q
  pub empty_changes : q ≢ r → Refused limit (feed []) (row 0 (0 ∷ [])) r q
  -- a decision has an end that the counts do not add up to
  pub frame_end : Refused limit (feed (7 ∷ [])) (row 1 (1 ∷ 0 ∷ 9 ∷ [])) r q
  pub short_end : Refused limit (feed (7 ∷ [])) (row 11 (1 ∷ 0 ∷ 9 ∷ [])) r q
  pub long_end : Refused limit (feed (7 ∷ [])) (row 12 (1 ∷ 0 ∷ 9 ∷ [])) r q
  pub stuff_end : Refused limit (feed (7 ∷ [])) (row 13 (1 ∷ 0 ∷ 9 ∷ 7 ∷ [])) r q
  pub cut_end : Refused limit (feed (7 ∷ [])) (row 14 (1 ∷ 0 ∷ 9 ∷ [])) r q
  pub sum_end : Refused limit (feed (7 ∷ [])) (row 15 (1 ∷ 0 ∷ 9 ∷ 7 ∷ 8 ∷ [])) r q
  pub late_end : Refused limit (feed (7 ∷ [])) (row 19 (1 ∷ 0 ∷ 9 ∷ 7 ∷ [])) r q
  -- USED comes too soon, or does not come; it consumes a byte; it changes the reader
  pub used_soon : Refused limit (feed (7 ∷ [])) (row 18 (0 ∷ [])) r q
  pub used_not : (bytes v : List ℕ) (k : ℕ) → 2 ^ 62 < length bytes → k ≢ 18 → Refused limit (feed bytes) (row k v) r q
  pub used_consumes : (bytes : List ℕ) → Refused limit (feed bytes) (row 18 (1 ∷ [])) r q
  pub used_changes : (bytes : List ℕ) → q ≢ r → Refused limit (feed bytes) (row 18 (0 ∷ [])) r q
  -- a finish returns another total, or changes the reader
  pub finish_length : Refused limit finish (row 2 (5 ∷ [])) r q
  pub finish_changes : q ≢ r → Refused limit finish (row 2 (0 ∷ [])) r q
  -- the first call gets a reader that is not fresh, or the second one not the reader that the first left
  pub not_fresh : r ≢ fresh_of limit → Refused limit finish (row 2 (0 ∷ [])) r r
  pub not_chained : q ≢ r
      → StreamCorrect limit (entry finish (row 2 (0 ∷ [])) r r ∷ entry finish (row 2 (0 ∷ [])) q q ∷ []) → ⊥
  -- the second call counts from 0 again
  pub counts_anew :
      StreamCorrect limit (entry (feed (7 ∷ [])) (row 0 (1 ∷ [])) r q ∷ entry finish (row 2 (0 ∷ [])) q q ∷ []) → ⊥
  -- FRAME where the stream has no frame, and a frame that is not delivered
  pub no_frame : Refused frame_limit (feed (7 ∷ [])) (row 1 (1 ∷ 0 ∷ 1 ∷ [])) r q
  pub not_delivered : Refused frame_limit (feed heartbeat) (row 15 (9 ∷ 0 ∷ 9 ∷ 14 ∷ 13 ∷ [])) r q
  -- a frame with a wrong start, or with a wrong body
  pub other_start : Refused frame_limit (feed heartbeat) (row 1 (9 ∷ 1 ∷ 9 ∷ [])) r q
  pub other_body : q.body ≡ [] → Refused frame_limit (feed heartbeat) (row 1 (9 ∷ 0 ∷ 9 ∷ [])) r q

-- of any limit and any readers
abbrev pub WrongLogsRefused : Type 0
WrongLogsRefused = (limit : ℕ) (r q : State) → WrongLogs limit r q
