-- What a call leaves, by what it wrote. Assumes nothing.
use Prim.Native.Nat.{ℕ, min}
use mathlib.Core.Path.{◌≡◌, refl, sym, ap, subst, ◌∙◌}
use mathlib.Core.Bool.{Bool, true, false, cond, not}
use mathlib.Core.List.{List, [], ◌∷◌}
use lib.Dec.{eqb}
use lib.ListN.{length, take, drop}
use Rattle.std.specs.Prelude.{Option, Some, None, Result, Ok, Err, IsErrAnd}
use Rattle.base.specs.Rows.{Row, row}
use Rattle.base.proofs.Lists.{drop_min}
use Rattle.message.specs.Parts.{bytes_of}
use Rattle.message.specs.declared.parts.Place.{Place}
use Rattle.base.specs.Outcomes.{Outcome, outcome, Output, output, rowed}
use Rattle.transfer.specs.Table.{denial_number, check_number, wrote_row, began_row}
use Rattle.transfer.specs.declared.answers.Denial.{Denial}
use Rattle.link.specs.Calls.{offer_of}
use Rattle.link.specs.declared.state.Link.{Link}
use Rattle.transfer.specs.Payloads.{faulty, size_in, code_in, code_at, index_in, total_in, bytes_in, bytes_at}
use Rattle.transfer.specs.Payloads.{announcement_of, piece_of}
use Rattle.transfer.specs.declared.announcements.Announcement.{Announcement}
use Rattle.transfer.specs.declared.announcements.Piece.{Piece}
use Rattle.transfer.specs.Checks.{first_refusal, open_in_range, in_range_of, test, piece_tests, begin_tests}
use Rattle.transfer.specs.Checks.{store_tests, open_tests}
use Rattle.transfer.specs.Writing.{refused_of, pair_of}
use Rattle.transfer.specs.Calls.{left, settled, Both, both, begin_with, begin_of, Held, held, put_open, put_in, Fits}
use Rattle.transfer.specs.Calls.{store_of}
use Rattle.frame.specs.Calls.{write_of}
use Rattle.transfer.specs.declared.state.Open.{Open}
use Rattle.transfer.specs.declared.state.Transfer.{Transfer}
use Rattle.transfer.specs.Transfers.{open_of, opened}
use Rattle.transfer.proofs.TestLaws.{passes, held_by, open_sizes, accepted, next_fits}

-- where no test refuses
by_none : {A : Type 0} (x : A) (y : ℕ → A) (n : ℕ) → 0 ≡ n → x ≡ cond (eqb n 0) x (y n)
by_none x y n e = subst (λ (k : ℕ). x ≡ cond (eqb k 0) x (y k)) e refl

-- `r`, the part of the payload that the code found, holds the bytes at its place
pub part_bytes : (p r : List ℕ) (at place : Place) → at ≡ place
    → r ≡ take at.size (drop (min at.start (length p)) p) → r ≡ bytes_of place p
part_bytes p r at place q e =
    e ∙ ap (λ l. take at.size l) (drop_min at.start p) ∙ ap (λ (s : Place). bytes_of s p) q

-- a frame that was written changes what is held
settled_wrote : {S : Type 0} (before next : S) (command count : ℕ) (o : List ℕ) (w : Output)
    → output (row 0 (count ∷ [])) o ≡ w
    → left (output (wrote_row command count) o) next ≡ settled (rowed (wrote_row command) w) before next
settled_wrote before next command count o w e =
    subst (λ (v : Output). left (output (wrote_row command count) o) next
    ≡ settled (rowed (wrote_row command) v) before next) e refl

-- what a test refused, passed on
pub denied_as : {A : Type 0} (r : Result A Denial) (why : Denial) → IsErrAnd r (λ (e : Denial). e ≡ why)
    → check_number r ≡ denial_number why
denied_as (Ok a) why h = absurd h
denied_as (Err e) why h = ap denial_number h

-- ---- a 1D

-- a value that is there, by a test
some_by : {A : Type 0} (b : Bool) (x y : A) → Some x ≡ cond b None (Some y) → (b ≡ false) × (x ≡ y)
some_by true x y e = cc
some_by false x y e = let q : x ≡ y = cc in (refl, q)

-- an accepted piece has room
store_fits : (o : Option Open) (flags : ℕ) (misread : Bool) (index total : ℕ) (bytes buffer : List ℕ)
    → 0 ≡ first_refusal
    (test (not (open_in_range o)) 17 ∷ test misread 32 ∷ piece_tests o flags index total bytes buffer)
    → Fits o index bytes buffer
store_fits None flags misread index total bytes buffer e = tt
store_fits (Some o) flags misread index total bytes buffer e = λ h.
    let a = passes (not (open_in_range (Some o))) 17 refl e in
    let b = passes misread 32 refl a.1 in
    let sizes = open_sizes o.size o.piece o.stored (held_by (open_in_range (Some o)) a.0) in
    next_fits o.size o.piece o.stored index total bytes buffer h
    (accepted o.size o.piece o.stored flags index total bytes buffer b.1) sizes.1

-- where an open transfer in range gets a piece without a fault, the tests of the piece decide
open_said : (x : Option Open) (o : Open) → x ≡ Some o → open_in_range x ≡ true → (misread : Bool) → misread ≡ false
    → (flags index total : ℕ) (bytes buffer : List ℕ)
    → first_refusal (open_tests o.size o.piece o.stored flags index total bytes buffer)
    ≡ first_refusal (test (not (open_in_range x)) 17 ∷ test misread 32 ∷ piece_tests x flags index total bytes buffer)
open_said None o q r misread m flags index total bytes buffer = cc
open_said (Some y) o q r misread m flags index total bytes buffer = let e : y ≡ o = cc in rw (r, m, e)

-- `p` is what the code read of a 1D, and `bytes` are those at its place
module _ (t : Transfer) (o : Open) (is : open_of t ≡ Some o) (flags : ℕ) (payload buffer bytes : List ℕ) (p : Piece)
    (read : Some p ≡ piece_of payload) (found : bytes ≡ bytes_of p.bytes payload) where
  said : (faulty 0x1D payload ≡ false)
      × (p ≡ record { index = index_in payload; total = total_in payload; bytes = bytes_at payload })
  said = some_by (faulty 0x1D payload) p _ read

  index_is : p.index ≡ index_in payload
  index_is = ap (λ (q : Piece). q.index) said.1

  total_is : p.total ≡ total_in payload
  total_is = ap (λ (q : Piece). q.total) said.1

  bytes_are : bytes ≡ bytes_in payload
  bytes_are = found ∙ ap (λ (q : Piece). bytes_of q.bytes payload) said.1

  pub piece_said : in_range_of t ≡ true
      → first_refusal (open_tests o.size o.piece o.stored flags p.index p.total bytes buffer)
      ≡ first_refusal (store_tests t flags (faulty 0x1D payload) (index_in payload) (total_in payload)
      (bytes_in payload) buffer)
  piece_said r =
      ap (λ k. first_refusal (open_tests o.size o.piece o.stored flags k p.total bytes buffer)) index_is
      ∙ ap (λ k. first_refusal (open_tests o.size o.piece o.stored flags (index_in payload) k bytes buffer)) total_is
      ∙ ap (λ l. first_refusal (open_tests o.size o.piece o.stored flags (index_in payload) (total_in payload) l
      buffer)) bytes_are
      ∙ open_said (open_of t) o is r (faulty 0x1D payload) said.0 flags (index_in payload) (total_in payload)
      (bytes_in payload) buffer

  -- an accepted piece has room
  pub store_room : 0 ≡ first_refusal (store_tests t flags (faulty 0x1D payload) (index_in payload) (total_in payload)
      (bytes_in payload) buffer)
      → Fits (Some o) p.index bytes buffer
  store_room z =
      let f = store_fits (open_of t) flags (faulty 0x1D payload) (index_in payload) (total_in payload)
      (bytes_in payload) buffer z in
      let g = subst (λ (x : Option Open). Fits x (index_in payload) (bytes_in payload) buffer) is f in
      let h = subst (λ k. Fits (Some o) k (bytes_in payload) buffer) (sym index_is) g in
      subst (λ l. Fits (Some o) p.index l buffer) (sym bytes_are) h

  put_is : put_open (Some o) p.index bytes buffer ≡ put_in t (index_in payload) (bytes_in payload) buffer
  put_is =
      ap (λ k. put_open (Some o) k bytes buffer) index_is
      ∙ ap (λ l. put_open (Some o) (index_in payload) l buffer) bytes_are
      ∙ ap (λ (x : Option Open). put_open x (index_in payload) (bytes_in payload) buffer) (sym is)

  -- a 1E that was written goes with the piece that was put
  pub store_wrote : 0 ≡ first_refusal (store_tests t flags (faulty 0x1D payload) (index_in payload) (total_in payload)
      (bytes_in payload) buffer)
      → (limit number : ℕ) (out : List ℕ) (count : ℕ) (made : List ℕ)
      → output (row 0 (count ∷ [])) made ≡ write_of limit 0x1E number 0 [] out
      → (h : Held) → h ≡ put_open (Some o) p.index bytes buffer
      → left (output (wrote_row 0x1E count) made) h ≡ store_of limit t number flags payload buffer out
  store_wrote z limit number out count made e h q =
      ap (λ (s : Held). left (output (wrote_row 0x1E count) made) s) (q ∙ put_is)
      ∙ settled_wrote (held t buffer) (put_in t (index_in payload) (bytes_in payload) buffer) 0x1E count made _ e
      ∙ by_none _ (λ k. left (refused_of limit k number out) (held t buffer)) _ z

-- ---- a 19

module _ (before next : Both) (limit number link piece : ℕ) (code out : List ℕ) where
  -- the pair that was written changes transfer and link
  pub begun_wrote : (count ready : ℕ) (o : List ℕ) → output (began_row count ready) o
      ≡ pair_of limit number link piece code out
      → left (output (began_row count ready) o) next ≡ settled (pair_of limit number link piece code out) before next
  begun_wrote count ready o e =
      subst (λ (w : Output). left (output (began_row count ready) o) next ≡ settled w before next) e refl

  -- a refusal does not
  pub begun_kept : (a : Row) (o : List ℕ) → eqb a.number 0 ≡ false → output a o
      ≡ pair_of limit number link piece code out
      → left (output a o) before ≡ settled (pair_of limit number link piece code out) before next
  begun_kept a o n e = subst (λ (w : Output). left (output a o) before ≡ settled w before next) e (simp n)

-- `r` and `next` are what the link said of the 1B, `a` is what the code read of a 19, and `code` the code at its place
module _ (limit first max : ℕ) (t : Transfer) (l : Link) (clock number : ℕ) (payload : List ℕ) (piece room : ℕ)
    (out : List ℕ) (r : Row) (next : Link) (offered : outcome r next ≡ offer_of first max l 0x1B clock)
    (passed : 0 ≡ first_refusal
    (begin_tests first max t l (eqb r.number 41) (faulty 0x19 payload) (size_in payload) piece room))
    (a : Announcement) (read : Some a ≡ announcement_of payload) (code : List ℕ)
    (found : code ≡ bytes_of a.code payload) where
  announced : (faulty 0x19 payload ≡ false) × (a ≡ record { size = size_in payload; code = code_at payload })
  announced = some_by (faulty 0x19 payload) a _ read

  -- the pair decides
  begin_by_pair : settled (pair_of limit number l.next piece (code_in payload) out) (both t l)
      (both (opened (size_in payload) piece 0) next)
      ≡ begin_of limit first max t l clock number payload piece room out
  begin_by_pair =
      by_none _ (λ k. left (refused_of limit k number out) (both t l)) _ passed
      ∙ ap (λ (y : Outcome Link). begin_with limit first max t l y number payload piece room out) offered

  code_is : code ≡ code_in payload
  code_is = found ∙ ap (λ (q : Announcement). bytes_of q.code payload) announced.1

  pair_is : (w : Output) → w ≡ pair_of limit number l.next piece code out
      → w ≡ pair_of limit number l.next piece (code_in payload) out
  pair_is w e = e ∙ ap (λ c. pair_of limit number l.next piece c out) code_is

  -- what was written changes transfer and link
  pub begin_wrote : (made : Open) → made ≡ record { size = a.size; piece = piece; stored = 0 }
      → (count ready : ℕ) (o : List ℕ)
      → output (began_row count ready) o ≡ pair_of limit number l.next piece code out
      → left (output (began_row count ready) o) (both (record { «open» = Some made }) next)
      ≡ begin_of limit first max t l clock number payload piece room out
  begin_wrote made m count ready o e =
      ap (λ (x : Open). left (output (began_row count ready) o) (both (record { «open» = Some x }) next)) m
      ∙ ap (λ n. left (output (began_row count ready) o) (both (opened n piece 0) next))
      (ap (λ (q : Announcement). q.size) announced.1)
      ∙ begun_wrote (both t l) (both (opened (size_in payload) piece 0) next) limit number l.next piece
      (code_in payload) out count ready o (pair_is _ e)
      ∙ begin_by_pair

  -- a refusal does not
  pub begin_unwritten : (w : Row) (o : List ℕ) → eqb w.number 0 ≡ false
      → output w o ≡ pair_of limit number l.next piece code out
      → left (output w o) (both t l) ≡ begin_of limit first max t l clock number payload piece room out
  begin_unwritten w o n e =
      begun_kept (both t l) (both (opened (size_in payload) piece 0) next) limit number l.next piece
      (code_in payload) out w o n (pair_is _ e)
      ∙ begin_by_pair
