-- Model: bytes stored in a buffer from a place on, held to the frame and the line written by the public contracts.
use Rattle.std.specs.Prelude.{ℕ, ◌+◌, cond, ◌≡◌, List, [], length, ltb}
use Rattle.std.proofs.lemmas.List.Edits.{sets}

-- what an inner call leaves that puts bytes at a place of `out`: it returns the next place, and the buffer is `after`
abbrev pub PutAt : List ℕ → ℕ → List ℕ → ℕ → List ℕ → Type 0
PutAt out at bytes next after = (next ≡ at + length bytes) × (after ≡ sets out at bytes)

-- all of the bytes, where they fit from the place on; otherwise none
abbrev pub fitting : List ℕ → ℕ → List ℕ → List ℕ
fitting out at bytes = cond (ltb (length out) (at + length bytes)) [] bytes
