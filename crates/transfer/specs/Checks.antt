-- Model: the tests of each call, in their order (PROTOCOL 15.10), held to the rules by calls_exact and worked_refusals.
use Rattle.std.specs.Prelude.{ℕ, ◌+◌, ◌-◌, ◌%◌, Bool, true, cond, not, ◌&&◌, ◌||◌, List, [], ◌∷◌, eqb, ltb, leb, length}
use Rattle.std.specs.Prelude.{take, drop, Option, Some, None}
use Rattle.base.specs.Same.{same_bytes}
use Rattle.link.specs.Calls.{in_range}
use Rattle.link.specs.declared.state.Link.{Link}
use Rattle.transfer.specs.Pieces.{max_pieces, pieces_of, start_of, piece_size}
use Rattle.transfer.specs.Transfers.{open_of}
use Rattle.transfer.specs.declared.state.Open.{Open}
use Rattle.transfer.specs.declared.state.Transfer.{Transfer}

-- ---- tests in order

-- a test that refuses where it is true, and the number of the refusal
pub record Test : Type 0 where
  pub refuses : Bool
  pub number : ℕ

-- shorthand for a test
abbrev pub test : Bool → ℕ → Test
test refuses number = record { refuses = refuses; number = number }

-- the number of the first test that refuses, and 0 where none does
abbrev pub first_refusal : List Test → ℕ
first_refusal [] = 0
first_refusal (t ∷ ts) = cond t.refuses t.number (first_refusal ts)

-- ---- ranges

-- by what is open
abbrev pub open_in_range : Option Open → Bool
open_in_range None = true
open_in_range (Some o) =
    not (eqb o.size 0 || eqb o.piece 0)
    && (leb (pieces_of o.size o.piece) max_pieces && leb o.stored (pieces_of o.size o.piece))

-- the ranges of a transfer: PROTOCOL 15.14
abbrev pub in_range_of : Transfer → Bool
in_range_of t = open_in_range (open_of t)

-- ---- a 19

-- EMPTY, TOOBIG, PIECES: PROTOCOL 15.6
abbrev pub size_tests : ℕ → ℕ → ℕ → List Test
size_tests size piece room =
    test (eqb size 0 || eqb piece 0) 61
    ∷ test (ltb room size) 62
    ∷ test (ltb max_pieces (pieces_of size piece)) 63
    ∷ []

-- `busy` is whether the link refuses the 1B
abbrev pub begin_tests : ℕ → ℕ → Transfer → Link → Bool → Bool → ℕ → ℕ → ℕ → List Test
begin_tests first max t l busy misread size piece room =
    test (not (in_range_of t)) 17
    ∷ test (not (in_range first max l)) 17
    ∷ test misread 32
    ∷ test busy 41
    ∷ size_tests size piece room

-- ---- a 1D

-- bit 0 of the flags: the piece is a line of a hex file
abbrev pub hex_lines : ℕ → Bool
hex_lines flags = eqb (flags % 2) 1

-- the number of the next piece, up to the total, or of the one just stored
abbrev pub in_turn : ℕ → ℕ → ℕ → Bool
in_turn index total stored =
    cond (eqb index stored) (ltb 0 stored) (eqb index (stored + 1) && leb index total)

-- as many bytes as the next piece has, or the very bytes of the one just stored
abbrev pub right_bytes : ℕ → ℕ → ℕ → ℕ → List ℕ → List ℕ → Bool
right_bytes size piece stored index bytes buffer =
    cond (eqb index stored)
    (same_bytes bytes (take (piece_size size piece (stored - 1)) (drop (start_of piece (stored - 1)) buffer)))
    (eqb (length bytes) (piece_size size piece stored))

-- TOOBIG, HEXLINES, PIECES, TURN, PIECE: PROTOCOL 15.7
abbrev pub open_tests : ℕ → ℕ → ℕ → ℕ → ℕ → ℕ → List ℕ → List ℕ → List Test
open_tests size piece stored flags index total bytes buffer =
    test (ltb (length buffer) size) 62
    ∷ test (hex_lines flags) 64
    ∷ test (not (eqb total (pieces_of size piece))) 63
    ∷ test (not (in_turn index total stored)) 65
    ∷ test (not (right_bytes size piece stored index bytes buffer)) 66
    ∷ []

-- where there is no transfer
abbrev pub absent_tests : ℕ → List Test
absent_tests flags = test (hex_lines flags) 64 ∷ test true 65 ∷ []

-- by what is open
abbrev pub piece_tests : Option Open → ℕ → ℕ → ℕ → List ℕ → List ℕ → List Test
piece_tests None flags index total bytes buffer = absent_tests flags
piece_tests (Some o) flags index total bytes buffer =
    open_tests o.size o.piece o.stored flags index total bytes buffer

-- all of them
abbrev pub store_tests : Transfer → ℕ → Bool → ℕ → ℕ → List ℕ → List ℕ → List Test
store_tests t flags misread index total bytes buffer =
    test (not (in_range_of t)) 17 ∷ test misread 32 ∷ piece_tests (open_of t) flags index total bytes buffer

-- ---- a 1F, and a 27 of ours

-- PROTOCOL 15.8
abbrev pub stop_tests : Transfer → Bool → List Test
stop_tests t misread = test (not (in_range_of t)) 17 ∷ test misread 32 ∷ []

-- PROTOCOL 15.9
abbrev pub cancel_tests : ℕ → ℕ → Transfer → Link → Bool → List Test
cancel_tests first max t l busy =
    test (not (in_range_of t)) 17 ∷ test (not (in_range first max l)) 17 ∷ test busy 41 ∷ []
