-- Claims: a slice of the caller's data. PROTOCOL 7.9.
use Rattle.std.specs.Prelude.{ℕ, ◌+◌, ◌≡◌, List, take, drop}
use Rattle.std.specs.Borrow.{Bor}
use Rattle.base.specs.Parts.{IsPart}

-- ---- part_whole: a part has its bytes, and is in the block of memory of the whole, `start` bytes after its first byte
pub record PartWhole (whole part : Bor (List ℕ)) (start size : ℕ) : Type 0 where
  pub bytes : part.now ≡ take size (drop start whole.now)
  pub place : (part.ref_ptr.0 ≡ whole.ref_ptr.0) × (part.ref_ptr.1 ≡ whole.ref_ptr.1 + start)

-- of every part
abbrev pub PartsWhole : Type 0
PartsWhole =
    (whole part : Bor (List ℕ)) (start size : ℕ) → IsPart whole part start size → PartWhole whole part start size
