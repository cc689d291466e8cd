-- Statement: which bytes of a stream each decision and an open frame stand for. PROTOCOL 4.2, 4.4 to 4.9, 4.19, 4.20,
-- 5.10.
-- No reader enters into it.
use Rattle.std.specs.Prelude.{◌≡◌, ℕ, ◌+◌, ◌<◌, ◌≤◌, ◌≢◌, List, [], ◌∷◌, ◌++◌, length, slice_index, slice_index_or}
use mathlib.Core.List.{Memᴰ}
use Rattle.frame.specs.Wire.{wire, length_of, head_size, found_sum, computed_sum, Good}

-- the body bytes so far of an open frame, a term of ours: they decide nothing. The first one is not FF: PROTOCOL 3.5
pub record Unfinished (limit : ℕ) (b : List ℕ) : Type 0 where
  pub some_byte : 1 ≤ length b
  pub first : slice_index_or b 0 0 ≢ 255
  pub under : length b < length_of b + 2
  pub bounds : 2 ≤ length b → (5 ≤ length_of b) × (length_of b ≤ limit)

-- the byte x breaks the stuffing, after an FF that follows the body bytes b: PROTOCOL 3.11
pub record Breaks (limit : ℕ) (raw b : List ℕ) (x : ℕ) : Type 0 where
  pub bytes : raw ≡ wire b ++ 255 ∷ x ∷ []
  pub unfinished : Unfinished limit b
  pub not_stuffed : x ≢ 85
  pub not_header : x ≢ 255

-- the body b is complete, and its sum is wrong: PROTOCOL 3.14
pub record WrongSum (limit : ℕ) (b : List ℕ) : Type 0 where
  pub true_length : length b ≡ length_of b + 2
  pub shortest : 5 ≤ length_of b
  pub longest : length_of b ≤ limit
  pub sum_fails : found_sum b ≢ computed_sum b

-- a decision, a term of ours: the bytes on the wire from the header's first byte to the deciding one, the number of
-- the answer, its values after count, start and end, and the body that the reader then holds (PROTOCOL 4.13), or none
pub data Decides (limit : ℕ) (raw : List ℕ) (number : ℕ) (values body : List ℕ) : Type 0 where
  -- FRAME: PROTOCOL 4.2
  is_frame_lem : (b : List ℕ)
      → number ≡ 1 → values ≡ [] → body ≡ b → raw ≡ wire b → Good limit b → Decides limit raw number values body
  -- SHORT: PROTOCOL 4.4
  is_short : (b : List ℕ)
      → number ≡ 11 → values ≡ [] → body ≡ [] → raw ≡ wire b → length b ≡ 2 → length_of b < 5
      → Decides limit raw number values body
  -- LONG: PROTOCOL 4.5. Under a limit below 4 a length could be both, and it is SHORT
  is_long : (b : List ℕ)
      → number ≡ 12 → values ≡ [] → body ≡ [] → raw ≡ wire b → length b ≡ 2 → slice_index b 0 ≢ 255 → 5 ≤ length_of b
      → limit < length_of b → Decides limit raw number values body
  -- STUFF, within the body's head: PROTOCOL 4.6, 4.19
  is_stuff : (b : List ℕ) (x : ℕ)
      → number ≡ 13 → values ≡ x ∷ [] → body ≡ [] → Breaks limit raw b x → length b < head_size
      → Decides limit raw number values body
  -- STUFFLATE, after it: PROTOCOL 4.6, 4.19
  is_stuff_late : (b : List ℕ) (x : ℕ)
      → number ≡ 19 → values ≡ x ∷ [] → body ≡ [] → Breaks limit raw b x → head_size ≤ length b
      → Decides limit raw number values body
  -- CUT: PROTOCOL 4.7
  is_cut : (b : List ℕ)
      → number ≡ 14 → values ≡ [] → body ≡ [] → raw ≡ wire b ++ 255 ∷ 255 ∷ [] → Unfinished limit b
      → Decides limit raw number values body
  -- SUM: PROTOCOL 4.8, 4.20
  is_sum : (b : List ℕ)
      → number ≡ 15 → values ≡ found_sum b ∷ computed_sum b ∷ [] → body ≡ b → raw ≡ wire b → WrongSum limit b
      → Decides limit raw number values body

-- a decision about a stretch of a stream; `values` are those after count, start and end
pub record Decision : Type 0 where
  pub number : ℕ
  pub start : ℕ
  pub end : ℕ
  pub values : List ℕ
  pub body : List ℕ

-- the stretch is decided so; start and end are those of PROTOCOL 4.12
pub record IsDecision (limit : ℕ) (stream : List ℕ) (l : Decision) : Type 0 where
  pub before : List ℕ
  pub raw : List ℕ
  pub after : List ℕ
  pub bytes : stream ≡ before ++ (raw ++ after)
  pub starts : l.start ≡ length before
  pub ends : l.end ≡ length before + length raw
  pub decides : Decides limit raw l.number l.values l.body

-- in order of strictly rising start, from m on
abbrev pub DecisionsFrom : ℕ → List Decision → Type 0
DecisionsFrom m [] = Unit {0}
DecisionsFrom m (l ∷ ls) = (m ≤ l.start) × DecisionsFrom (l.start + 1) ls

-- the list has all decisions of the stream, each once, and nothing else, in order of rising start
pub record ListsDecisions (limit : ℕ) (stream : List ℕ) (ls : List Decision) : Type 0 where
  pub sound : (l : Decision) → Memᴰ l ls → IsDecision limit stream l
  pub complete : (l : Decision) → IsDecision limit stream l → Memᴰ l ls
  pub rising : DecisionsFrom 0 ls

-- ---- an open frame at the end of a stream

-- an open frame, a term of ours: the bytes on the wire from its header on decide nothing. PROTOCOL 4.9
pub data Opens (limit : ℕ) (raw : List ℕ) : Type 0 where
  at_header : raw ≡ 255 ∷ 255 ∷ [] → Opens limit raw
  in_body : (b : List ℕ) → raw ≡ wire b → Unfinished limit b → Opens limit raw
  at_ff : (b : List ℕ) → raw ≡ wire b ++ 255 ∷ [] → Unfinished limit b → Opens limit raw

-- the stream ends in an open frame, which starts at `start`
pub record IsOpen (limit : ℕ) (stream : List ℕ) (start : ℕ) : Type 0 where
  pub before : List ℕ
  pub raw : List ℕ
  pub bytes : stream ≡ before ++ raw
  pub starts : start ≡ length before
  pub opens : Opens limit raw
