-- Statement: the sum of bytes. PROTOCOL 2.5.
use Rattle.std.specs.Prelude.{ℕ, ◌+◌, ◌%◌, List, [], ◌∷◌}

-- all bytes added up
unfoldable pub total : List ℕ → ℕ
total [] = 0
total (x ∷ xs) = x + total xs

-- the sum, modulo 256
abbrev pub checksum : List ℕ → ℕ
checksum l = total l % 256
