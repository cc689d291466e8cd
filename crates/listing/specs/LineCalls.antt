-- Claims: what a call that makes one line leaves in the buffer. PROTOCOL 10.8, 6.12.
-- What a contract that states `Writes` fixes, base's writes_complete says.
use Rattle.std.specs.Prelude.{ℕ, ◌≤◌, List, length}
use Rattle.base.specs.Outcomes.{written_in, placed}

-- ---- within: no call counts more bytes than the buffer has
abbrev pub Within : Type 0
Within = (text out : List ℕ) → written_in (placed text out).row ≤ length out
