-- Model: the bytes of a buffer that are still to be used, moved to its front, held to them byte by byte by
-- keeps_exactly. PROTOCOL 14.7.
use Rattle.std.specs.Prelude.{ℕ, List, take, drop}

-- the bytes from one place of the buffer up to another; none where the places are not in this order
abbrev pub kept_of : ℕ → ℕ → List ℕ → List ℕ
kept_of start end b = drop start (take end b)
