-- Claims: limits, ranges and the fresh reader in literal numbers. PROTOCOL 2.4, 2.10, 3.1, 4.10, 4.11, 4.17 to 4.19.
use Rattle.std.specs.Prelude.{◌≡◌, ℕ, ◌+◌, ◌<◌, ◌≤◌, ◌⊎◌, List, [], ◌∷◌, length, replicate}
use Rattle.base.specs.Outcomes.{outcome}
use Rattle.base.specs.Rows.{row}
use Rattle.frame.specs.Calls.{fresh_of, feed_of, finish_of}
use Rattle.frame.specs.State.{Idle, State}
use Rattle.frame.specs.Wire.{head_size, head_of, widest, frame_limit}

-- a field is out of range: more than 2^62 bytes consumed, or more than 1,025 body bytes so far
abbrev pub OutOfRange : State → Type 0
OutOfRange r = (4611686018427387904 < r.scan.consumed) ⊎ (1025 < r.scan.filled)

-- ---- reader_ranges: STATE, with count 0 and the reader unchanged, exactly when a field is out of range; in both calls
pub record ReaderRanges (r : State) (bytes : List ℕ) : Type 0 where
  pub fed : OutOfRange r → feed_of frame_limit r bytes ≡ outcome (row 17 (0 ∷ [])) r
  pub fed_only : (feed_of frame_limit r bytes).row.number ≡ 17 → OutOfRange r
  pub finished : OutOfRange r → finish_of frame_limit r ≡ outcome (row 17 (0 ∷ [])) r
  pub finished_only : (finish_of frame_limit r).row.number ≡ 17 → OutOfRange r

-- of every reader
abbrev pub ReaderRangesAll : Type 0
ReaderRangesAll = (r : State) (bytes : List ℕ) → ReaderRanges r bytes

-- ---- range_kept: a feed leaves a reader in range in range
abbrev pub RangeKept : Type 0
RangeKept =
    (r : State) (bytes : List ℕ) → (OutOfRange r → ⊥) → OutOfRange (feed_of frame_limit r bytes).state → ⊥

-- ---- used_exactly: USED, with count 0 and the reader unchanged, exactly when a reader in range is offered more than
-- 2^62 bytes in all
pub record UsedExactly (r : State) (bytes : List ℕ) : Type 0 where
  pub fed : r.scan.consumed ≤ 4611686018427387904 → r.scan.filled ≤ 1025
      → 4611686018427387904 < r.scan.consumed + length bytes → feed_of frame_limit r bytes ≡ outcome (row 18 (0 ∷ [])) r
  pub fed_only : (feed_of frame_limit r bytes).row.number ≡ 18 → 4611686018427387904 < r.scan.consumed + length bytes

-- of every reader
abbrev pub UsedAlways : Type 0
UsedAlways = (r : State) (bytes : List ℕ) → UsedExactly r bytes

-- ---- fresh_reader_lem: every number is 0, and so are its 1,026 bytes
abbrev pub FreshReader : Type 0
FreshReader =
    fresh_of frame_limit
    ≡ record {
      scan = record { phase = Idle; consumed = 0; start = 0; filled = 0; length = 0; sum = 0 };
      body = replicate 1026 0;
    }

-- ---- limits: the limit of the code, the greatest one of the claims about streams, and the size of a body's head
pub record Limits : Type 0 where
  pub code : frame_limit ≡ 1024
  pub greatest : widest ≡ 65279
  pub allowed : frame_limit ≤ widest
  pub head : head_size ≡ 6
  pub head_is : (size command number flags : ℕ) → length (head_of size command number flags) ≡ head_size
