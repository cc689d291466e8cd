-- Claims: where a body byte goes, and what stays. PROTOCOL 3.2, 3.6, 3.7, 3.9, 3.11.
use Rattle.std.specs.Prelude.{◌≡◌, ℕ, ◌+◌, ◌<◌, ◌≤◌, ◌≢◌, ◌⊎◌, List, [], ◌∷◌, length, slice_index}
use Rattle.frame.specs.Calls.{feed_of}
use Rattle.frame.specs.State.{Idle, Half, Header, Open, Escape, State}

-- the body array after a feed of one byte
abbrev pub body_after : ℕ → State → ℕ → List ℕ
body_after limit r x = (feed_of limit r (x ∷ [])).state.body

-- ---- byte_stored: one byte changes at most one place of the array, the next free one
pub record ByteStored (limit : ℕ) (r : State) (x : ℕ) : Type 0 where
  pub others_kept : (i : ℕ) → i ≢ r.scan.filled → slice_index (body_after limit r x) i ≡ slice_index r.body i
  pub same_length : length (body_after limit r x) ≡ length r.body
  -- not a body byte: no frame is open, or it is FF, or it breaks the stuffing
  pub outside : (r.scan.phase ≡ Idle) ⊎ (r.scan.phase ≡ Half) → body_after limit r x ≡ r.body
  pub ff : body_after limit r 255 ≡ r.body
  pub broken : r.scan.phase ≡ Escape → x ≢ 85 → body_after limit r x ≡ r.body

-- of every reader and byte
abbrev pub BytesStored : Type 0
BytesStored = (limit : ℕ) (r : State) (x : ℕ) → ByteStored limit r x

-- in range, and one byte more may be consumed
abbrev pub ConsumesOne : ℕ → State → Type 0
ConsumesOne limit r = (r.scan.consumed < 4611686018427387904) × (r.scan.filled ≤ limit + 1)

-- ---- stored_at: a body byte is put at its place: the byte as it is, or FF where a 55 follows an FF that waits
pub record StoredAt (limit : ℕ) (r : State) (x : ℕ) : Type 0 where
  pub plain : (r.scan.phase ≡ Header) ⊎ (r.scan.phase ≡ Open) → x ≢ 255
      → slice_index (body_after limit r x) r.scan.filled ≡ x
  pub stuffed : r.scan.phase ≡ Escape → slice_index (body_after limit r 85) r.scan.filled ≡ 255

-- of every reader that may consume a byte and has a place for it
abbrev pub StoresAt : Type 0
StoresAt =
    (limit : ℕ) (r : State) (x : ℕ) → ConsumesOne limit r → r.scan.filled < length r.body → StoredAt limit r x
