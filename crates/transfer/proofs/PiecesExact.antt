-- The pieces of a table. Assumes nothing.
use Prim.Native.Nat.{ℕ, suc, ◌+◌, ◌*◌, ◌≤◌, ◌<◌}
use mathlib.Core.Path.{◌≡◌, refl}
use native.Mathlib.Nat.{zero-mul, suc-mul}
use native.Mathlib.Omega.{arith}
use Rattle.transfer.specs.Pieces.{pieces_of}
use Rattle.transfer.specs.PiecesExact.{PiecesExact, PiecesAlways, WorkedPieces}
use Rattle.transfer.proofs.PieceLaws.{below_end, reaches_end}

module _ (size piece : ℕ) (s : 1 ≤ size) (p : 1 ≤ piece) where
  -- the piece after another one begins one piece size later
  later : (n : ℕ) → suc n * piece ≡ n * piece + piece
  later n = suc-mul n piece

  ends : (n : ℕ) → suc n ≡ pieces_of size piece → (n * piece < size) × (size ≤ n * piece + piece)
  ends n e =
      let few = below_end size piece p n (omega (arith, e)) in
      let all : size ≤ suc n * piece = rw e (reaches_end size piece p) in
      (few, omega (arith, all, later n))

  exact : PiecesExact size piece
  exact =
      record {
        enough = reaches_end size piece p;
        no_fewer = below_end size piece p;
        full = λ n h. let b = below_end size piece p (suc n) h in omega (arith, b, later n);
        last = λ n e. let q = ends n e in (
          omega (arith, q.0, q.1),
          omega (arith, q.0, p),
          omega arith,
        );
        first = zero-mul piece;
        next = λ n h. let b = below_end size piece p (suc n) h in omega (arith, b, later n);
        none = let z = zero-mul piece in omega (arith, z);
        more = λ n h. let b = below_end size piece p n h in omega (arith, b, later n);
        all = let r = reaches_end size piece p in omega (arith, r);
      }

pub pieces_exact : PiecesAlways
pieces_exact = exact

pub worked_pieces : WorkedPieces
worked_pieces =
    record {
      most = refl;
      counts = refl;
      sizes = refl;
      starts = refl;
      bytes = refl;
      table = refl;
      largest = refl;
      beyond = refl;
      single = refl;
    }
