-- Statement: the pieces of a table. PROTOCOL 15.4, 15.5.
use Rattle.std.specs.Prelude.{ℕ, ◌+◌, ◌-◌, ◌*◌, ◌/◌, min}

-- the pieces that a transfer has at most: PROTOCOL 15.4
abbrev pub max_pieces : ℕ
max_pieces = 65535

-- t, how many pieces a table of a size has: the size divided by the piece size, rounded up
abbrev pub pieces_of : ℕ → ℕ → ℕ
pieces_of size piece = (size + (piece - 1)) / piece

-- where the piece begins that `before` pieces precede
abbrev pub start_of : ℕ → ℕ → ℕ
start_of piece before = before * piece

-- its size: the piece size, and of the last piece the rest
abbrev pub piece_size : ℕ → ℕ → ℕ → ℕ
piece_size size piece before = min piece (size - start_of piece before)

-- the bytes of the first `count` pieces
abbrev pub bytes_of : ℕ → ℕ → ℕ → ℕ
bytes_of size piece count = min (start_of piece count) size
