-- Claims: bytes placed in the caller's buffer, whole or not at all. PROTOCOL 6.1, 6.4, 6.7, 6.12.
use Rattle.std.specs.Prelude.{ℕ, ◌≤◌, ◌<◌, ◌≡◌, ◌≢◌, List, [], ◌∷◌, length, get_or, take}
use Rattle.base.specs.Rows.{Row, row}
use Rattle.base.specs.Outcomes.{Output, output, written_in, needed_in, placed, rowed}
use Rattle.base.specs.Asking.{AsksOnce}

-- ---- counts_read: an answer's first value is the count written under 0, the count needed under 22, and neither else
pub record CountsRead (k n : ℕ) (v : List ℕ) : Type 0 where
  pub written : written_in (row 0 (n ∷ v)) ≡ n
  pub needed : needed_in (row 22 (n ∷ v)) ≡ n
  pub not_written : k ≢ 0 → written_in (row k (n ∷ v)) ≡ 0
  pub not_needed : k ≢ 22 → needed_in (row k (n ∷ v)) ≡ 0
  pub no_values : (written_in (row k []) ≡ 0) × (needed_in (row k []) ≡ 0)

-- of every answer
abbrev pub CountsReadAlways : Type 0
CountsReadAlways = (k n : ℕ) (v : List ℕ) → CountsRead k n v

-- ---- placed_whole_or_not: bytes that do not fit are ROOM with their count and leave the buffer unchanged; those that
-- fit go to its front, and each later byte stays
pub record Placed (w out : List ℕ) : Type 0 where
  pub room_row : length out < length w → (placed w out).row ≡ row 22 (length w ∷ [])
  pub room_out : length out < length w → (placed w out).out ≡ out
  pub fits_row : length w ≤ length out → (placed w out).row ≡ row 0 (length w ∷ [])
  pub front : length w ≤ length out → take (length w) (placed w out).out ≡ w
  pub stays : (i : ℕ) → length w ≤ i → get_or (placed w out).out i 0 ≡ get_or out i 0
  pub same_length : length (placed w out).out ≡ length out
  -- the count written, and the count needed
  pub room_counts : length out < length w
      → (written_in (placed w out).row ≡ 0) × (needed_in (placed w out).row ≡ length w)
  pub fits_counts : length w ≤ length out
      → (written_in (placed w out).row ≡ length w) × (needed_in (placed w out).row ≡ 0)

-- of all bytes and buffers
abbrev pub PlacedAlways : Type 0
PlacedAlways = (w out : List ℕ) → Placed w out

-- ---- placed_asked: bytes that did not fit once are written into every buffer of the size that ROOM said
abbrev pub PlacedAsked : Type 0
PlacedAsked = (w : List ℕ) → AsksOnce (λ out. (placed w out).row)

-- ---- rowed_exact: a count that was written is shown in another row, and nothing else changes
pub record RowedExact (f : ℕ → Row) (values out : List ℕ) : Type 0 where
  pub wrote : (n : ℕ) → rowed f (output (row 0 (n ∷ values)) out) ≡ output (f n) out
  pub refused : (w : Output) → w.row.number ≢ 0 → rowed f w ≡ w

-- of all rows
abbrev pub RowedAlways : Type 0
RowedAlways = (f : ℕ → Row) (values out : List ℕ) → RowedExact f values out
