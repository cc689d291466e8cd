-- Claims: what each refused frame answers, in literal numbers. PROTOCOL 3.10 to 3.16, 4.2, 4.4 to 4.8, 4.19, 4.20,
-- 5.10, 11.4.
use Rattle.std.specs.Prelude.{◌≡◌, ℕ, ◌+◌, ◌*◌, ◌%◌, ◌<◌, ◌≤◌, ◌≢◌, ◌⊎◌, List, [], ◌∷◌, ◌++◌, length, take, slice_index}
use Rattle.std.specs.Prelude.{slice_set}
use mathlib.Core.List.{Memᴰ}
use Rattle.base.specs.Outcomes.{outcome}
use Rattle.base.specs.Rows.{row}
use Rattle.base.specs.Sums.{total}
use Rattle.frame.specs.Calls.{fresh_of, feed_of}
use Rattle.frame.specs.Decisions.{Unfinished, Decision}
use Rattle.frame.specs.Logs.{Call, stream, decisions_of}
use Rattle.frame.specs.LogsComputed.{log_of}
use Rattle.frame.specs.State.{Idle, Header, Open, Escape, State}
use Rattle.frame.specs.Wire.{wire, length_of, Good, widest}
use Rattle.frame.specs.WorkedReader.{read}

-- the bytes that calls of a fresh reader consumed
abbrev pub stream_of : ℕ → List Call → List ℕ
stream_of limit calls = stream (log_of limit (fresh_of limit) calls)

-- these calls answer so: number, start and end, further values, body held
abbrev pub Answers : ℕ → List Call → ℕ → ℕ → ℕ → List ℕ → List ℕ → Type 0
Answers limit calls number start end values body =
    Memᴰ (record { number = number; start = start; end = end; values = values; body = body })
    (decisions_of (log_of limit (fresh_of limit) calls))

-- ---- each_length: wherever the stream has a header and the length bytes b0 and b1, the calls answer SHORT where they
-- name less than 5, and LONG where they name more than the limit, without further values
pub record LengthAnswered (limit : ℕ) (calls : List Call) (before : List ℕ) (b0 b1 : ℕ) : Type 0 where
  pub short : b0 * 256 + b1 < 5
      → Answers limit calls 11 (length before) (length before + length (wire (b0 ∷ b1 ∷ []))) [] []
  pub long : b0 ≢ 255 → 5 ≤ b0 * 256 + b1 → limit < b0 * 256 + b1
      → Answers limit calls 12 (length before) (length before + length (wire (b0 ∷ b1 ∷ []))) [] []

-- of every list of calls of a fresh reader
abbrev pub EachLength : Type 0
EachLength =
    (limit : ℕ) → limit ≤ widest → (calls : List Call) (before after : List ℕ) (b0 b1 : ℕ)
    → stream_of limit calls ≡ before ++ (wire (b0 ∷ b1 ∷ []) ++ after) → LengthAnswered limit calls before b0 b1

-- ---- each_break: wherever the stream has the byte x after an FF that follows the body bytes b of a frame, the calls
-- answer STUFF after one to five of them and STUFFLATE after six or more, with x. Where only the sum is missing, this
-- is STUFFLATE
pub record BreakAnswered (limit : ℕ) (calls : List Call) (before b : List ℕ) (x : ℕ) : Type 0 where
  pub early : length b ≤ 5
      → Answers limit calls 13 (length before) (length before + length (wire b) + 2) (x ∷ []) []
  pub late : 6 ≤ length b
      → Answers limit calls 19 (length before) (length before + length (wire b) + 2) (x ∷ []) []
  pub at_sum : 2 ≤ length b → length b ≡ length_of b + 1
      → Answers limit calls 19 (length before) (length before + length (wire b) + 2) (x ∷ []) []

-- of every byte that is neither 55 nor FF
abbrev pub EachBreak : Type 0
EachBreak =
    (limit : ℕ) → limit ≤ widest → (calls : List Call) (before b after : List ℕ) (x : ℕ)
    → stream_of limit calls ≡ before ++ (wire b ++ 255 ∷ x ∷ after)
    → Unfinished limit b → x ≢ 85 → x ≢ 255 → BreakAnswered limit calls before b x

-- ---- each_cut: where that byte is FF, they answer CUT, after however many body bytes
abbrev pub EachCut : Type 0
EachCut =
    (limit : ℕ) → limit ≤ widest → (calls : List Call) (before b after : List ℕ)
    → stream_of limit calls ≡ before ++ (wire b ++ 255 ∷ 255 ∷ after) → Unfinished limit b
    → Answers limit calls 14 (length before) (length before + length (wire b) + 2) [] []

-- ---- each_sum: wherever the stream has a body of true length whose last byte s is not the sum of the others, the
-- calls answer SUM with s, then that sum
abbrev pub EachSum : Type 0
EachSum =
    (limit : ℕ) → limit ≤ widest → (calls : List Call) (before after p : List ℕ) (b0 b1 b2 b3 b4 b5 s : ℕ)
    → stream_of limit calls ≡ before ++ (wire (b0 ∷ b1 ∷ b2 ∷ b3 ∷ b4 ∷ b5 ∷ (p ++ s ∷ [])) ++ after)
    → b0 * 256 + b1 ≡ length p + 5 → length p + 5 ≤ limit
    → s ≢ (b0 + b1 + b2 + b3 + b4 + b5 + total p) % 256
    → Answers limit calls 15 (length before)
    (length before + length (wire (b0 ∷ b1 ∷ b2 ∷ b3 ∷ b4 ∷ b5 ∷ (p ++ s ∷ []))))
    (s ∷ (b0 + b1 + b2 + b3 + b4 + b5 + total p) % 256 ∷ [])
    (b0 ∷ b1 ∷ b2 ∷ b3 ∷ b4 ∷ b5 ∷ (p ++ s ∷ []))

-- ---- stands_for: a decision is answered for nothing else

-- the bytes `raw` of the stream t stand from the answer's start to its end
pub record Stretch (t : List ℕ) (l : Decision) (raw : List ℕ) : Type 0 where
  pub before : List ℕ
  pub after : List ℕ
  pub bytes : t ≡ before ++ (raw ++ after)
  pub starts : l.start ≡ length before
  pub ends : l.end ≡ length before + length raw

-- the answer stands for these bytes, returns these further values, and the reader then holds this body
pub record Says (t : List ℕ) (l : Decision) (raw values body : List ℕ) : Type 0 where
  pub stretch : Stretch t l raw
  pub values_are : l.values ≡ values
  pub body_is : l.body ≡ body

-- by the number of the answer
pub data StandsFor (limit : ℕ) (t : List ℕ) (l : Decision) : Type 0 where
  -- FRAME
  for_frame : (b : List ℕ) → l.number ≡ 1 → Good limit b → Says t l (wire b) [] b → StandsFor limit t l
  -- SHORT and LONG: two length bytes
  for_short : (b0 b1 : ℕ)
      → l.number ≡ 11 → b0 * 256 + b1 < 5 → Says t l (wire (b0 ∷ b1 ∷ [])) [] [] → StandsFor limit t l
  for_long : (b0 b1 : ℕ)
      → l.number ≡ 12 → b0 ≢ 255 → 5 ≤ b0 * 256 + b1 → limit < b0 * 256 + b1
      → Says t l (wire (b0 ∷ b1 ∷ [])) [] [] → StandsFor limit t l
  -- STUFF and STUFFLATE: an FF and x after the body bytes b, which is neither 55 nor FF
  for_stuff : (b : List ℕ) (x : ℕ)
      → l.number ≡ 13 → length b ≤ 5 → Unfinished limit b → x ≢ 85 → x ≢ 255
      → Says t l (wire b ++ 255 ∷ x ∷ []) (x ∷ []) [] → StandsFor limit t l
  for_stuff_late : (b : List ℕ) (x : ℕ)
      → l.number ≡ 19 → 6 ≤ length b → Unfinished limit b → x ≢ 85 → x ≢ 255
      → Says t l (wire b ++ 255 ∷ x ∷ []) (x ∷ []) [] → StandsFor limit t l
  -- CUT: a header after the body bytes b
  for_cut : (b : List ℕ)
      → l.number ≡ 14 → Unfinished limit b → Says t l (wire b ++ 255 ∷ 255 ∷ []) [] [] → StandsFor limit t l
  -- SUM: a body of true length, whose last byte and the sum of the others differ
  for_sum : (b : List ℕ) (found computed : ℕ)
      → l.number ≡ 15 → length b ≡ length_of b + 2 → 5 ≤ length_of b → length_of b ≤ limit
      → found ≡ slice_index b (length_of b + 1) → computed ≡ total (take (length_of b + 1) b) % 256 → found ≢ computed
      → Says t l (wire b) (found ∷ computed ∷ []) b → StandsFor limit t l

-- each answer to every list of calls of a fresh reader
abbrev pub AllStandFor : Type 0
AllStandFor =
    (limit : ℕ) → limit ≤ widest → (calls : List Call) (l : Decision)
    → Memᴰ l (decisions_of (log_of limit (fresh_of limit) calls)) → StandsFor limit (stream_of limit calls) l

-- ---- break_exactly: a feed whose first byte x breaks the stuffing, of any reader in range, made up or not: its answer
-- and the reader afterwards

-- no frame is open, one byte more is consumed, and these bytes are kept
abbrev pub idle_after : State → List ℕ → State
idle_after r body =
    record {
      scan = record { phase = Idle; consumed = r.scan.consumed + 1; start = 0; filled = 0; length = 0; sum = 0 };
      body = body;
    }

-- the answer of a feed that consumed one byte, with these further values, and what it leaves
pub record BreakExactly (limit : ℕ) (r : State) (x : ℕ) (bytes : List ℕ) : Type 0 where
  pub early : r.scan.filled ≤ 5 → feed_of limit r (x ∷ bytes)
      ≡ outcome (row 13 (1 ∷ r.scan.start ∷ (r.scan.consumed + 1) ∷ x ∷ [])) (idle_after r r.body)
  pub late : 6 ≤ r.scan.filled → feed_of limit r (x ∷ bytes)
      ≡ outcome (row 19 (1 ∷ r.scan.start ∷ (r.scan.consumed + 1) ∷ x ∷ [])) (idle_after r r.body)

-- of every byte that is neither 55 nor FF
abbrev pub BreaksExactly : Type 0
BreaksExactly =
    (limit : ℕ) (r : State) (x : ℕ) (bytes : List ℕ)
    → r.scan.phase ≡ Escape → r.scan.filled ≤ limit + 1
    → r.scan.consumed + length (x ∷ bytes) ≤ 4611686018427387904
    → x ≢ 85 → x ≢ 255 → BreakExactly limit r x bytes

-- ---- sum_exactly: the same of a byte that completes a body, where the sum so far is another one
pub record SumExactly (limit : ℕ) (r : State) (x : ℕ) (bytes : List ℕ) : Type 0 where
  pub plain : (r.scan.phase ≡ Header) ⊎ (r.scan.phase ≡ Open) → x ≢ 255 → x ≢ r.scan.sum
      → feed_of limit r (x ∷ bytes)
      ≡ outcome (row 15 (1 ∷ r.scan.start ∷ (r.scan.consumed + 1) ∷ x ∷ r.scan.sum ∷ []))
      (idle_after r (slice_set r.body r.scan.filled x))
  pub stuffed : r.scan.phase ≡ Escape → x ≡ 85 → 255 ≢ r.scan.sum
      → feed_of limit r (x ∷ bytes)
      ≡ outcome (row 15 (1 ∷ r.scan.start ∷ (r.scan.consumed + 1) ∷ 255 ∷ r.scan.sum ∷ []))
      (idle_after r (slice_set r.body r.scan.filled 255))

-- of every reader in range whose next body byte is the last
abbrev pub SumsExactly : Type 0
SumsExactly =
    (limit : ℕ) (r : State) (x : ℕ) (bytes : List ℕ)
    → 2 ≤ r.scan.filled → (r.scan.length < r.scan.filled) ⊎ (limit < r.scan.filled)
    → r.scan.filled ≤ limit + 1 → r.scan.consumed + length (x ∷ bytes) ≤ 4611686018427387904
    → SumExactly limit r x bytes

-- ---- worked_breaks: broken frames for a fresh reader, by computation. PROTOCOL 11.4
pub record WorkedBreaks : Type 0 where
  pub five : read (0xFF ∷ 0xFF ∷ 0x00 ∷ 0x05 ∷ 0x07 ∷ 0x01 ∷ 0x00 ∷ 0xFF ∷ 0x00 ∷ []) ≡ row 13 (9 ∷ 0 ∷ 9 ∷ 0 ∷ [])
  pub at_sum : read (0xFF ∷ 0xFF ∷ 0x00 ∷ 0x05 ∷ 0x07 ∷ 0x01 ∷ 0x00 ∷ 0x00 ∷ 0xFF ∷ 0x00 ∷ [])
      ≡ row 19 (10 ∷ 0 ∷ 10 ∷ 0 ∷ [])
  -- five body bytes, in six bytes on the wire
  pub stuffed_five : read (0xFF ∷ 0xFF ∷ 0x00 ∷ 0x05 ∷ 0x07 ∷ 0xFF ∷ 0x55 ∷ 0x00 ∷ 0xFF ∷ 0x01 ∷ [])
      ≡ row 13 (10 ∷ 0 ∷ 10 ∷ 1 ∷ [])
  pub example_9 : read (0xFF ∷ 0xFF ∷ 0x00 ∷ 0x05 ∷ 0x07 ∷ 0xFF ∷ 0x00 ∷ []) ≡ row 13 (7 ∷ 0 ∷ 7 ∷ 0 ∷ [])
  pub example_10 : read (0xFF ∷ 0xFF ∷ 0x00 ∷ 0x05 ∷ 0x07 ∷ 0x01 ∷ 0x00 ∷ 0x00 ∷ 0x0E ∷ [])
      ≡ row 15 (9 ∷ 0 ∷ 9 ∷ 14 ∷ 13 ∷ [])
  -- a break after each count of body bytes
  pub after_1 : read (0xFF ∷ 0xFF ∷ 0x00 ∷ 0xFF ∷ 0x09 ∷ []) ≡ row 13 (5 ∷ 0 ∷ 5 ∷ 9 ∷ [])
  pub after_2 : read (0xFF ∷ 0xFF ∷ 0x00 ∷ 0x08 ∷ 0xFF ∷ 0x09 ∷ []) ≡ row 13 (6 ∷ 0 ∷ 6 ∷ 9 ∷ [])
  pub after_3 : read (0xFF ∷ 0xFF ∷ 0x00 ∷ 0x08 ∷ 0x01 ∷ 0xFF ∷ 0x09 ∷ []) ≡ row 13 (7 ∷ 0 ∷ 7 ∷ 9 ∷ [])
  pub after_4 : read (0xFF ∷ 0xFF ∷ 0x00 ∷ 0x08 ∷ 0x01 ∷ 0x02 ∷ 0xFF ∷ 0x09 ∷ []) ≡ row 13 (8 ∷ 0 ∷ 8 ∷ 9 ∷ [])
  pub after_5 : read (0xFF ∷ 0xFF ∷ 0x00 ∷ 0x08 ∷ 0x01 ∷ 0x02 ∷ 0x03 ∷ 0xFF ∷ 0x09 ∷ []) ≡ row 13 (9 ∷ 0 ∷ 9 ∷ 9 ∷ [])
  pub after_6 : read (0xFF ∷ 0xFF ∷ 0x00 ∷ 0x08 ∷ 0x01 ∷ 0x02 ∷ 0x03 ∷ 0x04 ∷ 0xFF ∷ 0x09 ∷ [])
      ≡ row 19 (10 ∷ 0 ∷ 10 ∷ 9 ∷ [])
  pub after_7 : read (0xFF ∷ 0xFF ∷ 0x00 ∷ 0x08 ∷ 0x01 ∷ 0x02 ∷ 0x03 ∷ 0x04 ∷ 0x05 ∷ 0xFF ∷ 0x09 ∷ [])
      ≡ row 19 (11 ∷ 0 ∷ 11 ∷ 9 ∷ [])
  pub after_8 : read (0xFF ∷ 0xFF ∷ 0x00 ∷ 0x08 ∷ 0x01 ∷ 0x02 ∷ 0x03 ∷ 0x04 ∷ 0x05 ∷ 0x06 ∷ 0xFF ∷ 0x09 ∷ [])
      ≡ row 19 (12 ∷ 0 ∷ 12 ∷ 9 ∷ [])
  -- after noise and one more FF
  pub after_noise : read
      (0x07 ∷ 0xFF ∷ 0xFF ∷ 0xFF ∷ 0x00 ∷ 0x05 ∷ 0x07 ∷ 0x01 ∷ 0x00 ∷ 0x00 ∷ 0xFF ∷ 0x03 ∷ [])
      ≡ row 19 (12 ∷ 2 ∷ 12 ∷ 3 ∷ [])
  -- a header after six body bytes
  pub cut : read (0xFF ∷ 0xFF ∷ 0x00 ∷ 0x05 ∷ 0x07 ∷ 0x01 ∷ 0x00 ∷ 0x00 ∷ 0xFF ∷ 0xFF ∷ [])
      ≡ row 14 (10 ∷ 0 ∷ 10 ∷ [])
  -- six body bytes in nine on the wire; the byte after the FF, and not the one before it
  pub stuffed_six : read
      (0xFF ∷ 0xFF ∷ 0x00 ∷ 0x08 ∷ 0xFF ∷ 0x55 ∷ 0xFF ∷ 0x55 ∷ 0xFF ∷ 0x55 ∷ 0x03 ∷ 0xFF ∷ 0x09 ∷ [])
      ≡ row 19 (13 ∷ 0 ∷ 13 ∷ 9 ∷ [])
