-- Statement: the frames of a stream. PROTOCOL 5.6.
-- No reader and no parser enters into it.
use Rattle.std.specs.Prelude.{◌≡◌, ℕ, ◌+◌, ◌<◌, ◌≤◌, List, [], ◌∷◌, ◌++◌, length, take}
use mathlib.Core.List.{Memᴰ}
use Rattle.frame.specs.Wire.{wire, length_of, Good}

-- a stretch of a stream, from the place `start` up to and without the place `end`, and a body: PROTOCOL 1.5
pub record Found : Type 0 where
  pub start : ℕ
  pub end : ℕ
  pub body : List ℕ

-- shorthand for a stretch
abbrev pub found : ℕ → ℕ → List ℕ → Found
found start end body = record { start = start; end = end; body = body }

-- the stretch is a frame of the stream, a term of ours: PROTOCOL 5.6
pub record IsFrame (limit : ℕ) (stream : List ℕ) (f : Found) : Type 0 where
  pub before : List ℕ
  pub after : List ℕ
  pub bytes : stream ≡ before ++ (wire f.body ++ after)
  pub starts : f.start ≡ length before
  pub ends : f.end ≡ length before + length (wire f.body)
  pub good : Good limit f.body

-- each frame of the list starts at m or later
abbrev pub AllFrom : ℕ → List Found → Type 0
AllFrom m [] = Unit {0}
AllFrom m (f ∷ l) = (m ≤ f.start) × AllFrom m l

-- in order of rising start, and without overlap
abbrev pub Apart : List Found → Type 0
Apart [] = Unit {0}
Apart (f ∷ l) = (f.start < f.end) × AllFrom f.end l × Apart l

-- the list has all frames of the stream, each once, and nothing else, in order of rising start
pub record Lists (limit : ℕ) (stream : List ℕ) (l : List Found) : Type 0 where
  pub sound : (f : Found) → Memᴰ f l → IsFrame limit stream f
  pub complete : (f : Found) → IsFrame limit stream f → Memᴰ f l
  pub apart : Apart l

-- the body that a reader holds, a term of ours: the L + 2 bytes at the front of its array. PROTOCOL 4.13
abbrev pub front_body : List ℕ → List ℕ
front_body u = take (length_of u + 2) u
