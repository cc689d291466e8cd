-- A piece stored. Assumes nothing.
use Prim.Native.Nat.{ℕ, ◌+◌, ◌≤◌}
use mathlib.Core.Path.{◌≡◌, sym}
use mathlib.Core.Logic.{◌≢◌}
use mathlib.Core.List.{List, append_assoc}
use borrow.Author.Tests.{eq-eqb, ne_eqb}
use lib.ListN.{length}
use lib.Seq.{sets-eq}
use Rattle.base.specs.Stores.{PutAt, fitting}
use Rattle.base.proofs.Stores.{put_fitting}
use Rattle.transfer.specs.Pieces.{start_of}
use Rattle.transfer.specs.Calls.{held, put_in}
use Rattle.transfer.specs.Transfers.{opened}

module _ (size piece stored index : ℕ) (bytes buffer : List ℕ) where
  -- the one just stored is there already
  pub put_again : index ≡ stored → held (opened size piece stored) buffer
      ≡ put_in (opened size piece stored) index bytes buffer
  put_again e = rw (eq-eqb index stored e)

  -- the next one goes after those that are stored
  pub put_next : index ≢ stored → start_of piece stored + length bytes ≤ length buffer → (at next : ℕ) (after : List ℕ)
      → at ≡ start_of piece stored → PutAt buffer at (fitting buffer at bytes) next after
      → held (opened size piece index) after ≡ put_in (opened size piece stored) index bytes buffer
  put_next h f at next after e put =
      let fits : at + length bytes ≤ length buffer = rw e f in
      let whole = put_fitting buffer at bytes fits put in
      rw (ne_eqb index stored h, sym e, whole.1, sets-eq bytes buffer at fits, append_assoc)
