-- The transfer and the buffer are what calls and answers tell: an invariant, kept by each call. Assumes nothing.
use Prim.Native.Nat.{ℕ, zero, suc, ◌+◌, ◌*◌, ◌≤◌, ◌<◌}
use mathlib.Core.Path.{◌≡◌, refl, sym, ap, ◌∙◌}
use mathlib.Core.Bool.{true, false, not, ◌||◌}
use mathlib.Core.Logic.{◌≢◌}
use mathlib.Core.List.{List, [], ◌∷◌, ◌++◌, map, append-nil, append_assoc}
use native.Mathlib.Nat.{zero-mul, suc-mul}
use native.Mathlib.Numerals.{add-one}
use native.Mathlib.Omega.{arith, min_cases}
use borrow.Author.Tests.{ne_eqb, eqb-false, le-leb}
use lib.Dec.{eqb, leb}
use lib.ListN.{length, take, drop, length-append, length-drop}
use lib.Seq.{length-take-le, take_at, drop_at, drop-drop}
use Rattle.base.specs.Keys.{among}
use Rattle.base.proofs.Keys.{among_none, among_next}
use Rattle.base.proofs.Tests.{either_way, both}
use Rattle.transfer.specs.Pieces.{max_pieces, pieces_of, start_of, bytes_of}
use Rattle.transfer.specs.Checks.{in_range_of}
use Rattle.transfer.specs.Calls.{put_at}
use Rattle.transfer.specs.Logs.{Piece, number_of, Account, none, since, with_piece, summed, joined, count_from}
use Rattle.transfer.specs.declared.state.Transfer.{Transfer}
use Rattle.transfer.specs.Transfers.{absent, opened}
use Rattle.transfer.proofs.PieceLaws.{below_end}
use Rattle.transfer.proofs.TestLaws.{Accepted, open_sizes, stored_one, next_index, next_listed, next_size}
use Rattle.transfer.proofs.TestLaws.{next_fits}

-- ---- pieces one after another

pub joined_size : (ps : List Piece) → length (joined ps) ≡ summed ps
unfolding joined summed
joined_size [] = refl
joined_size (p ∷ ps) = length-append p.bytes (joined ps) ∙ ap (λ n. length p.bytes + n) (joined_size ps)

pub joined_more : (ps : List Piece) (p : Piece) → joined (ps ++ (p ∷ [])) ≡ joined ps ++ p.bytes
unfolding joined
joined_more [] p = append-nil p.bytes
joined_more (q ∷ ps) p =
    ap (λ l. q.bytes ++ l) (joined_more ps p) ∙ sym (append_assoc q.bytes (joined ps) p.bytes)

pub summed_more : (ps : List Piece) (p : Piece) → summed (ps ++ (p ∷ [])) ≡ summed ps + length p.bytes
unfolding summed
summed_more [] p = omega arith
summed_more (q ∷ ps) p = let rest = summed_more ps p in omega (arith, rest)

-- ---- numbers from one on

pub numbers_more : (from n : ℕ) → count_from from n ++ ((from + n) ∷ []) ≡ count_from from (suc n)
unfolding count_from
numbers_more from zero = let e : from + 0 ≡ from = omega arith in rw e
numbers_more from (suc n) =
    let e : from + suc n ≡ suc from + n = omega arith in
    ap (λ l. from ∷ l) (ap (λ k. count_from (suc from) n ++ (k ∷ [])) e ∙ numbers_more (suc from) n)

map_more : (ps : List Piece) (p : Piece) → map number_of (ps ++ (p ∷ [])) ≡ map number_of ps ++ (p.number ∷ [])
map_more [] p = refl
map_more (q ∷ ps) p = ap (λ l. q.number ∷ l) (map_more ps p)

-- a number is among them exactly from the first to the last
pub among_below : (x from n : ℕ) → from ≤ x → x < from + n → among x (count_from from n) ≡ true
unfolding count_from
among_below x from zero a b = absurd (omega (arith, a, b))
among_below x from (suc n) a b =
    among_next x from (count_from (suc from) n)
    ∙ either_way (eqb x from) (λ e. rw e)
    (λ e. let other = eqb-false x from e in
    rw e (among_below x (suc from) n (omega (arith, a, other)) (omega (arith, b))))

pub among_above : (x from n : ℕ) → from + n ≤ x → among x (count_from from n) ≡ false
unfolding count_from
among_above x from zero a = among_none x
among_above x from (suc n) a =
    among_next x from (count_from (suc from) n)
    ∙ rw (ne_eqb x from (λ e. absurd (omega (arith, a, e)))) (among_above x (suc from) n (omega (arith, a)))

-- ---- the invariant

-- of a table that is being received, `t` and `buffer` after the calls
pub record Holds (size piece : ℕ) (start : List ℕ) (ps : List Piece) (t : Transfer) (buffer : List ℕ) : Type 0 where
  pub is : t ≡ opened size piece (length ps)
  pub ranged : in_range_of (opened size piece (length ps)) ≡ true
  pub roomy : size ≤ length buffer
  pub numbers : map number_of ps ≡ count_from 1 (length ps)
  pub bytes : summed ps ≡ bytes_of size piece (length ps)
  pub front : take (summed ps) buffer ≡ joined ps
  pub rest : drop (summed ps) buffer ≡ drop (summed ps) start

abbrev pub Told : Account → Transfer → List ℕ → Type 0
Told none t buffer = t ≡ absent
Told (since size piece start ps) t buffer = Holds size piece start ps t buffer

-- a transfer that is told of is in range
pub told_ranged : (a : Account) (t : Transfer) (buffer : List ℕ) → Told a t buffer → in_range_of t ≡ true
told_ranged none t buffer h = rw h
told_ranged (since size piece start ps) t buffer h = rw h.is h.ranged

-- ---- a 19 is accepted

-- a table of a size, in pieces of a size, of which none is stored
pub begins : (size piece : ℕ) (buffer : List ℕ) → (eqb size 0 || eqb piece 0) ≡ false → size ≤ length buffer
    → pieces_of size piece ≤ max_pieces → Holds size piece buffer [] (opened size piece 0) buffer
unfolding joined summed count_from
begins size piece buffer some room few =
    record {
      is = refl;
      ranged = rw (some, le-leb (pieces_of size piece) max_pieces few, le-leb 0 (pieces_of size piece) (omega arith));
      roomy = room;
      numbers = refl;
      bytes = let z : 0 * piece ≡ 0 = zero-mul piece in omega (arith, z);
      front = refl;
      rest = refl;
    }

-- ---- a piece is accepted

module _ (size piece : ℕ) (start : List ℕ) (ps : List Piece) (t : Transfer) (buffer : List ℕ)
    (h : Holds size piece start ps t buffer) (index total : ℕ) (bytes : List ℕ)
    (a : Accepted size piece (length ps) index total bytes buffer) (p : Piece) (i : p.number ≡ index)
    (b : p.bytes ≡ bytes) where
  -- its number was accepted already exactly where it is the one just stored
  again_there : index ≡ length ps → among p.number (map number_of ps) ≡ true
  again_there e =
      let some = stored_one index total (length ps) a.turned e in
      rw (i, h.numbers) (among_below index 1 (length ps) (omega (arith, e, some)) (omega (arith, e)))

  next_new : index ≢ length ps → among p.number (map number_of ps) ≡ false
  next_new n =
      let one = next_index size piece (length ps) index total bytes buffer n a in
      rw (i, h.numbers) (among_above index 1 (length ps) (omega (arith, one)))

  -- the one just stored changes nothing
  pub again_told : index ≡ length ps → Holds size piece start (with_piece p ps) t buffer
  again_told e = rw (again_there e) h

  -- the next one
  module _ (n : index ≢ length ps) where
    abbrev at : ℕ
    at = start_of piece (length ps)

    sizes : (1 ≤ size) × (1 ≤ piece)
    sizes = open_sizes size piece (length ps) h.ranged

    begins_inside : at < size
    begins_inside =
        below_end size piece sizes.1 (length ps) (next_listed size piece (length ps) index total bytes buffer n a)

    stored_so_far : summed ps ≡ at
    stored_so_far =
        h.bytes ∙ min_cases at size _ (λ l e. e) (λ l e. absurd (omega (arith, l, begins_inside)))

    fits : at + length bytes ≤ length buffer
    fits = next_fits size piece (length ps) index total bytes buffer n a sizes.1

    one_more : index ≡ suc (length ps)
    one_more = next_index size piece (length ps) index total bytes buffer n a ∙ add-one (length ps)

    longer : length (ps ++ (p ∷ [])) ≡ suc (length ps)
    longer = length-append ps (p ∷ []) ∙ add-one (length ps)

    after_it : summed (ps ++ (p ∷ [])) ≡ at + length bytes
    after_it = summed_more ps p ∙ rw (b, stored_so_far)

    more_bytes : at + length bytes ≡ bytes_of size piece (suc (length ps))
    more_bytes =
        let grows : suc (length ps) * piece ≡ at + piece = suc-mul (length ps) piece in
        let its = next_size size piece (length ps) index total bytes buffer n a in
        omega (arith, its, grows, begins_inside)

    -- the buffer after it
    abbrev put : List ℕ
    put = put_at at bytes buffer

    front_size : length (take at buffer) ≡ at
    front_size = length-take-le at buffer (omega (arith, fits))

    together : put ≡ (take at buffer ++ bytes) ++ drop (at + length bytes) buffer
    together = sym (append_assoc (take at buffer) bytes (drop (at + length bytes) buffer))

    together_size : length (take at buffer ++ bytes) ≡ at + length bytes
    together_size = length-append (take at buffer) bytes ∙ ap (λ k. k + length bytes) front_size

    so_far_front : take at buffer ≡ joined ps
    so_far_front = ap (λ k. take k buffer) (sym stored_so_far) ∙ h.front

    so_far_rest : drop at buffer ≡ drop at start
    so_far_rest = ap (λ k. drop k buffer) (sym stored_so_far) ∙ h.rest ∙ ap (λ k. drop k start) stored_so_far

    put_front : take (at + length bytes) put ≡ joined (ps ++ (p ∷ []))
    put_front =
        ap (λ l. take (at + length bytes) l) together
        ∙ take_at (take at buffer ++ bytes) (drop (at + length bytes) buffer) (at + length bytes) together_size
        ∙ ap (λ l. l ++ bytes) so_far_front ∙ ap (λ l. joined ps ++ l) (sym b) ∙ sym (joined_more ps p)

    put_rest : drop (at + length bytes) put ≡ drop (at + length bytes) start
    put_rest =
        ap (λ l. drop (at + length bytes) l) together
        ∙ drop_at (take at buffer ++ bytes) (drop (at + length bytes) buffer) (at + length bytes) together_size
        ∙ sym (drop-drop (length bytes) at buffer) ∙ ap (λ l. drop (length bytes) l) so_far_rest
        ∙ drop-drop (length bytes) at start

    put_size : length put ≡ length buffer
    put_size =
        let outer = length-append (take at buffer) (bytes ++ drop (at + length bytes) buffer) in
        let inner = length-append bytes (drop (at + length bytes) buffer) in
        omega (arith, outer, inner, front_size, fits, length-drop (at + length bytes) buffer)

    in_range_still : in_range_of (opened size piece (suc (length ps))) ≡ true
    in_range_still =
        let outer = both (not (eqb size 0 || eqb piece 0)) h.ranged in
        let inner = both (leb (pieces_of size piece) max_pieces) outer.1 in
        let listed = next_listed size piece (length ps) index total bytes buffer n a in
        rw (outer.0, inner.0, le-leb (suc (length ps)) (pieces_of size piece) (omega (arith, listed)))

    numbered : map number_of (ps ++ (p ∷ [])) ≡ count_from 1 (length (ps ++ (p ∷ [])))
    numbered =
        let next : p.number ≡ 1 + length ps = omega (arith, i, one_more) in
        map_more ps p ∙ ap (λ l. l ++ (p.number ∷ [])) h.numbers
        ∙ ap (λ k. count_from 1 (length ps) ++ (k ∷ [])) next ∙ numbers_more 1 (length ps)
        ∙ ap (λ k. count_from 1 k) (sym longer)

    pub next_told : Holds size piece start (with_piece p ps) (opened size piece index) put
    next_told =
        rw (next_new n) (
        record {
          is = ap (λ k. opened size piece k) (one_more ∙ sym longer);
          ranged = rw longer in_range_still;
          roomy = omega (arith, put_size, h.roomy);
          numbers = numbered;
          bytes = after_it ∙ more_bytes ∙ ap (λ k. bytes_of size piece k) (sym longer);
          front = ap (λ k. take k put) after_it ∙ put_front;
          rest = ap (λ k. drop k put) after_it ∙ put_rest ∙ ap (λ k. drop k start) (sym after_it);
        }
        )
