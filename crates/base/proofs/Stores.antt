-- Stores, one after another. Assumes nothing.
use Prim.Native.Nat.{ℕ, suc, ◌+◌, ◌-◌, ◌≤◌, ◌<◌}
use mathlib.Core.Path.{◌≡◌, refl}
use mathlib.Core.List.{List, [], ◌∷◌, ◌++◌, append-nil, append_assoc}
use native.Mathlib.Nat.{zero-add, add-zero}
use native.Mathlib.Omega.{arith}
use lib.ListN.{length, get_or, take, drop, set, length-append, length-drop, drop_of_length-le}
use lib.Seq.{sets, sets-eq, drop-drop, take_all}
use Rattle.std.proofs.lemmas.List.{take_more, length-take-le}
use borrow.Author.Tests.{lt-ltb, le-ltb}
use Rattle.base.specs.Rows.{row}
use Rattle.base.specs.Outcomes.{output, onto, placed}
use Rattle.base.specs.Stores.{PutAt, fitting}

pub sets-append : (vs ws l : List ℕ) (i : ℕ) → sets l i (vs ++ ws) ≡ sets (sets l i vs) (i + length vs) ws
sets-append [] ws l i = rw add-zero
sets-append (v ∷ vs) ws l i =
    let e : i + suc (length vs) ≡ suc i + length vs = omega arith in
    rw e (sets-append vs ws (set l i v) (suc i))

pub sets_front : (vs l : List ℕ) → length vs ≤ length l → sets l 0 vs ≡ vs ++ drop (length vs) l
sets_front vs l h = rw zero-add at (sets-eq vs l 0 (rw zero-add h))

-- some bytes put, and more after them, are their join put
pub put_join : (out xs ys : List ℕ) (at : ℕ) {a b : List ℕ} {p q : ℕ}
    → PutAt out at xs p a → PutAt a p ys q b → PutAt out at (xs ++ ys) q b
put_join out xs ys at e f = (rw length-append (omega arith), rw sets-append (cc))

-- the first bytes put, and one more
pub put_more : (out bytes : List ℕ) (at i : ℕ) → i < length bytes → {p : ℕ} {a : List ℕ}
    → p ≡ at + i → a ≡ sets out at (take i bytes)
    → set a p (get_or bytes i 0) ≡ sets out at (take (i + 1) bytes)
put_more out bytes at i h e f =
    rw (
      take_more bytes i 0 h,
      sets-append (take i bytes) (get_or bytes i 0 ∷ []) out at,
      length-take-le i bytes (omega (arith, h)),
      e,
      f,
    )

-- ---- all of the bytes, or none

module _ (out : List ℕ) (at : ℕ) (bytes : List ℕ) where
  pub put_nothing : length out < at + length bytes → PutAt out at (fitting out at bytes) at out
  put_nothing h = rw (lt-ltb (length out) (at + length bytes) h) (omega arith, refl)

  module _ (h : at + length bytes ≤ length out) {next : ℕ} {after : List ℕ} where
    pub put_whole : PutAt out at bytes next after → PutAt out at (fitting out at bytes) next after
    put_whole put = rw (le-ltb (length out) (at + length bytes) h) put

    pub put_fitting : PutAt out at (fitting out at bytes) next after → PutAt out at bytes next after
    put_fitting put = rw (le-ltb (length out) (at + length bytes) h) at put

-- ---- in the part of a buffer that begins at a place

module _ (out : List ℕ) (at : ℕ) where
  -- the part is all that is left
  pub part_left : take (length out - at) (drop at out) ≡ drop at out
  part_left = take_all (length out - at) (drop at out) (omega (arith, length-drop at out))

  -- bytes at its front are put at the place
  pub put_onto : (bytes : List ℕ) → at + length bytes ≤ length out
      → take at out ++ (onto bytes (take (length out - at) (drop at out)) ++ drop (length out - at) (drop at out))
      ≡ sets out at bytes
  put_onto bytes fits =
      let none : length (drop at out) ≤ length out - at = omega (arith, length-drop at out) in
      rw (
        part_left,
        drop-drop (length bytes) at out,
        drop_of_length-le (drop at out) none,
        append-nil,
        sets-eq bytes out at fits,
        append_assoc,
      )

-- ---- bytes at the front of a buffer, or ROOM

module _ (bytes out : List ℕ) where
  pub not_placed : {needed : ℕ} → needed ≡ length bytes → length out < needed
      → output (row 22 (needed ∷ [])) out ≡ placed bytes out
  not_placed e h = rw (lt-ltb (length out) (length bytes) (rw e at h), e)

  pub put_placed : length bytes ≤ length out → {next : ℕ} {after : List ℕ}
      → PutAt out 0 bytes next after → output (row 0 (next ∷ [])) after ≡ placed bytes out
  put_placed h {next} put =
      let count : next ≡ length bytes = omega arith in
      rw (le-ltb (length out) (length bytes) h, count, put.1, sets_front bytes out h)
