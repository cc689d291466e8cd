-- Statement: a slice of the caller's data, the very bytes where they lie. PROTOCOL 7.9.
use Rattle.std.specs.Prelude.{ℕ, ◌+◌, ◌≡◌, List, take, drop}
use Rattle.std.specs.Borrow.{Bor}

-- the part has these bytes, and is in the same block of memory, `start` bytes after the first byte of the whole
pub record IsPart (whole part : Bor (List ℕ)) (start size : ℕ) : Type 0 where
  pub bytes : part.now ≡ take size (drop start whole.now)
  pub block : part.ref_ptr.0 ≡ whole.ref_ptr.0
  pub offset : part.ref_ptr.1 ≡ whole.ref_ptr.1 + start
