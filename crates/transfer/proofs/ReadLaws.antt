-- What `message` reads from a 19, a 1D and a 1F. Assumes nothing.
use Prim.Native.Nat.{ℕ, ◌-◌}
use mathlib.Core.Path.{◌≡◌, refl, sym, ap, subst, ◌∙◌}
use mathlib.Core.Bool.{Bool, true, false, cond, not, true≢false}
use mathlib.Core.List.{List, [], ◌∷◌}
use native.Mathlib.Omega.{arith}
use lib.Dec.{eqb}
use lib.ListN.{length, get_or, drop, length-drop}
use lib.Seq.{take_all}
use Rattle.std.specs.Prelude.{Option, Some, None}
use Rattle.base.specs.Rows.{row}
use Rattle.base.specs.Numbers.{two_at, four_at}
use Rattle.message.specs.Commands.{table, profile_in}
use Rattle.message.specs.Layouts.{size_fits}
use Rattle.message.specs.Parts.{place, nowhere, no_texts, no_parts, bytes_of}
use Rattle.message.specs.Table.{Read, got, refusal}
use Rattle.message.specs.Reading.{decode_of, read_of}
use Rattle.message.specs.declared.kind.Kind.TheVariants as kind
use Rattle.message.specs.declared.parts.Parts.{Parts}
use Rattle.transfer.specs.Payloads.{faulty, size_in, index_in, total_in, bytes_in, announcement_of, piece_of}
use Rattle.transfer.specs.declared.announcements.Announcement.{Announcement}
use Rattle.transfer.specs.declared.announcements.Piece.{Piece}

-- ---- any command

-- a message that is read
was_read : (vs p : List ℕ) (ps : Parts) (command : ℕ) → got vs ps ≡ decode_of command p → false ≡ faulty command p
was_read vs p ps command e = ap (λ (r : Read). not (eqb r.row.number 0)) e

-- ---- 19 and 1D, whose only fault can be their size

-- where the size fits, a message is read
module _ (sized : Bool) (values : List ℕ) (parts : Parts) where
  abbrev Reads : Read
  Reads = cond sized (got values parts) (refusal 32)

  values_read : (vs : List ℕ) (ps : Parts) → got vs ps ≡ Reads → vs ≡ values
  values_read vs ps e = go sized refl
    where
      go : (t : Bool) → sized ≡ t → vs ≡ values
      go true q = ap (λ (r : Read). r.row.values) (rw q at e)
      go false q = let n : ◌≡◌ {A = ℕ} 0 32 = ap (λ (r : Read). r.row.number) (rw q at e) in absurd (omega arith)

-- the values of a 19, and of a 1D
pub announced : (vs p : List ℕ) (ps : Parts) → got vs ps ≡ decode_of 0x19 p → vs ≡ 0x19 ∷ size_in p ∷ []
unfolding table profile_in
announced vs p ps e =
    let v = values_read (size_fits kind.Announcement p) (0x19 ∷ four_at p 0 ∷ [])
    (no_texts (place 6 (two_at p 4)) nowhere) vs ps e in
    v ∙ ap (λ n. 0x19 ∷ n ∷ []) (ap (λ l. get_or l 1 0) (sym v) ∙ ap (λ (r : Read). get_or r.row.values 1 0) e)

pub numbered : (vs p : List ℕ) (ps : Parts) → got vs ps ≡ decode_of 0x1D p
    → vs ≡ 0x1D ∷ index_in p ∷ total_in p ∷ []
unfolding table profile_in
numbered vs p ps e =
    let v = values_read (size_fits kind.Piece p) (0x1D ∷ two_at p 0 ∷ two_at p 2 ∷ [])
    (no_texts nowhere (place 4 (length p - 4))) vs ps e in
    let i : two_at p 0 ≡ index_in p = ap (λ l. get_or l 1 0) (sym v) ∙ ap (λ (r : Read). get_or r.row.values 1 0) e in
    let t : two_at p 2 ≡ total_in p = ap (λ l. get_or l 2 0) (sym v) ∙ ap (λ (r : Read). get_or r.row.values 2 0) e in
    v ∙ ap (λ n. 0x1D ∷ n ∷ two_at p 2 ∷ []) i ∙ ap (λ n. 0x1D ∷ index_in p ∷ n ∷ []) t

-- ---- what the code reads of them

-- a value, where a test is false
read_by : {A : Type 0} (b : Bool) → false ≡ b → (x y : A) → x ≡ y → Some x ≡ cond b None (Some y)
read_by b f x y q = subst (λ (c : Bool). Some x ≡ cond c None (Some y)) f (ap Some q)

pub announced_as : (vs p : List ℕ) (ps : Parts) → got vs ps ≡ decode_of 0x19 p
    → ◌≡◌ {A = Option Announcement} (Some (record { size = size_in p; code = ps.code })) (announcement_of p)
announced_as vs p ps e =
    read_by (faulty 0x19 p) (was_read vs p ps 0x19 e) _ _
    (ap (λ (r : Read). record { size = size_in p; code = r.parts.code }) e)

pub numbered_as : (vs p : List ℕ) (ps : Parts) → got vs ps ≡ decode_of 0x1D p
    → ◌≡◌ {A = Option Piece} (Some (record { index = index_in p; total = total_in p; bytes = ps.piece })) (piece_of p)
numbered_as vs p ps e =
    read_by (faulty 0x1D p) (was_read vs p ps 0x1D e) _ _
    (ap (λ (r : Read). record { index = index_in p; total = total_in p; bytes = r.parts.piece }) e)

-- ---- a payload without fault, byte by byte

-- where the size does not fit, it is faulty
module _ (sized : Bool) (values : List ℕ) (parts : Parts) where
  pub faulty_by : not (eqb (Reads sized values parts).row.number 0) ≡ not sized
  faulty_by = go sized refl
    where
      go : (t : Bool) → sized ≡ t → not (eqb (Reads sized values parts).row.number 0) ≡ not sized
      go true q = rw q
      go false q = rw q

  -- where it is faulty, it is SIZE
  pub size_fault : not (eqb (Reads sized values parts).row.number 0) ≡ true → Reads sized values parts ≡ refusal 32
  size_fault e = go sized refl
    where
      go : (t : Bool) → sized ≡ t → Reads sized values parts ≡ refusal 32
      go true q = absurd (true≢false (sym (rw q at e)))
      go false q = rw q

  fits_unless : not (eqb (Reads sized values parts).row.number 0) ≡ false → sized ≡ true
  fits_unless e = go sized refl
    where
      go : (t : Bool) → sized ≡ t → sized ≡ true
      go true q = q
      go false q = absurd (true≢false (rw q at e))

  pub reads_as : sized ≡ true → Reads sized values parts ≡ got values parts
  reads_as q = rw q

pub read_19 : (p : List ℕ) → faulty 0x19 p ≡ false
    → decode_of 0x19 p ≡ got (0x19 ∷ four_at p 0 ∷ []) (no_texts (place 6 (two_at p 4)) nowhere)
unfolding table profile_in
read_19 p e = reads_as (size_fits kind.Announcement p) _ _ (fits_unless (size_fits kind.Announcement p)
    (0x19 ∷ four_at p 0 ∷ []) (no_texts (place 6 (two_at p 4)) nowhere) e)

pub read_1d : (p : List ℕ) → faulty 0x1D p ≡ false
    → decode_of 0x1D p ≡ got (0x1D ∷ two_at p 0 ∷ two_at p 2 ∷ []) (no_texts nowhere (place 4 (length p - 4)))
unfolding table profile_in
read_1d p e = reads_as (size_fits kind.Piece p) _ _ (fits_unless (size_fits kind.Piece p)
    (0x1D ∷ two_at p 0 ∷ two_at p 2 ∷ []) (no_texts nowhere (place 4 (length p - 4))) e)

pub size_read : (p : List ℕ) → faulty 0x19 p ≡ false → size_in p ≡ four_at p 0
size_read p e = ap (λ (r : Read). get_or r.row.values 1 0) (read_19 p e)

pub index_read : (p : List ℕ) → faulty 0x1D p ≡ false → index_in p ≡ two_at p 0
index_read p e = ap (λ (r : Read). get_or r.row.values 1 0) (read_1d p e)

pub total-read : (p : List ℕ) → faulty 0x1D p ≡ false → total_in p ≡ two_at p 2
total-read p e = ap (λ (r : Read). get_or r.row.values 2 0) (read_1d p e)

pub bytes_read : (p : List ℕ) → faulty 0x1D p ≡ false → bytes_in p ≡ drop 4 p
bytes_read p e =
    ap (λ (r : Read). bytes_of r.parts.piece p) (read_1d p e)
    ∙ take_all (length p - 4) (drop 4 p) (omega (arith, length-drop 4 p))

-- a fault is a wrong size
pub faulty_19 : (p : List ℕ) → faulty 0x19 p ≡ not (size_fits kind.Announcement p)
unfolding table profile_in
faulty_19 p =
    faulty_by (size_fits kind.Announcement p) (0x19 ∷ four_at p 0 ∷ []) (no_texts (place 6 (two_at p 4)) nowhere)

pub faulty_1d : (p : List ℕ) → faulty 0x1D p ≡ not (size_fits kind.Piece p)
unfolding table profile_in
faulty_1d p =
    faulty_by (size_fits kind.Piece p) (0x1D ∷ two_at p 0 ∷ two_at p 2 ∷ []) (no_texts nowhere (place 4 (length p - 4)))

pub faulty_1f : (p : List ℕ) → faulty 0x1F p ≡ not (size_fits kind.Empty p)
unfolding table profile_in
faulty_1f p = faulty_by (size_fits kind.Empty p) (0x1F ∷ []) no_parts

-- which is SIZE
pub fault_19 : (p : List ℕ) → faulty 0x19 p ≡ true → read_of 0x19 p ≡ row 32 []
unfolding table profile_in
fault_19 p e =
    ap (λ (r : Read). r.row) (size_fault (size_fits kind.Announcement p) (0x19 ∷ four_at p 0 ∷ [])
    (no_texts (place 6 (two_at p 4)) nowhere) e)

pub fault_1d : (p : List ℕ) → faulty 0x1D p ≡ true → read_of 0x1D p ≡ row 32 []
unfolding table profile_in
fault_1d p e =
    ap (λ (r : Read). r.row) (size_fault (size_fits kind.Piece p) (0x1D ∷ two_at p 0 ∷ two_at p 2 ∷ [])
    (no_texts nowhere (place 4 (length p - 4))) e)

pub fault_1f : (p : List ℕ) → faulty 0x1F p ≡ true → read_of 0x1F p ≡ row 32 []
unfolding table profile_in
fault_1f p e = ap (λ (r : Read). r.row) (size_fault (size_fits kind.Empty p) (0x1F ∷ []) no_parts e)
