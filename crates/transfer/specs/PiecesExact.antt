-- Claims: how many pieces a table has, where each begins and which size it has, without a division. PROTOCOL 15.4,
-- 15.5.
use Rattle.std.specs.Prelude.{ℕ, suc, ◌+◌, ◌*◌, ◌≤◌, ◌<◌, ◌≡◌, [], ◌∷◌, map}
use Rattle.transfer.specs.Pieces.{max_pieces, pieces_of, start_of, piece_size, bytes_of}

-- ---- pieces_exact: t pieces of the piece size reach the end of the table, and fewer do not
pub record PiecesExact (size piece : ℕ) : Type 0 where
  pub enough : size ≤ pieces_of size piece * piece
  pub no_fewer : (n : ℕ) → n < pieces_of size piece → n * piece < size
  -- a piece that another one follows has the piece size, and the last one the rest, which is not empty
  pub full : (before : ℕ) → suc before < pieces_of size piece → piece_size size piece before ≡ piece
  pub last : (before : ℕ) → suc before ≡ pieces_of size piece
      → (start_of piece before + piece_size size piece before ≡ size) × (1 ≤ piece_size size piece before)
      × (piece_size size piece before ≤ piece)
  -- the pieces follow each other without a gap, from 0 to the end
  pub first : start_of piece 0 ≡ 0
  pub next : (before : ℕ) → suc before < pieces_of size piece
      → start_of piece (suc before) ≡ start_of piece before + piece_size size piece before
  -- and their bytes add up
  pub none : bytes_of size piece 0 ≡ 0
  pub more : (count : ℕ) → count < pieces_of size piece
      → bytes_of size piece (suc count) ≡ bytes_of size piece count + piece_size size piece count
  pub all : bytes_of size piece (pieces_of size piece) ≡ size

-- of every table that is not empty, in pieces that are not empty
abbrev pub PiecesAlways : Type 0
PiecesAlways = (size piece : ℕ) → 1 ≤ size → 1 ≤ piece → PiecesExact size piece

-- ---- worked_pieces: literal tables, by computation
pub record WorkedPieces : Type 0 where
  pub most : max_pieces ≡ 65535
  pub counts :
      map (λ size. pieces_of size 4) (1 ∷ 3 ∷ 4 ∷ 5 ∷ 8 ∷ 9 ∷ 10 ∷ 12 ∷ []) ≡ 1 ∷ 1 ∷ 1 ∷ 2 ∷ 2 ∷ 3 ∷ 3 ∷ 3 ∷ []
  pub sizes : map (piece_size 10 4) (0 ∷ 1 ∷ 2 ∷ []) ≡ 4 ∷ 4 ∷ 2 ∷ []
  pub starts : map (start_of 4) (0 ∷ 1 ∷ 2 ∷ []) ≡ 0 ∷ 4 ∷ 8 ∷ []
  pub bytes : map (bytes_of 10 4) (0 ∷ 1 ∷ 2 ∷ 3 ∷ []) ≡ 0 ∷ 4 ∷ 8 ∷ 10 ∷ []
  pub table : pieces_of 100000 128 ≡ 782
  pub largest : pieces_of 4294836225 65535 ≡ 65535
  pub beyond : pieces_of 4294836226 65535 ≡ 65536
  pub single : pieces_of 4294967295 1 ≡ 4294967295
