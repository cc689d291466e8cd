-- Device information is read back from what is written: numbers, and texts, key and secret around them.
use Prim.Native.Nat.{ℕ, ◌+◌, ◌≤◌}
use mathlib.Core.Path.{◌≡◌, refl, sym, ap, ◌∙◌}
use mathlib.Core.Bool.{true, false, cond}
use mathlib.Core.List.{List, [], ◌∷◌, ◌++◌, append_assoc}
use native.Mathlib.Omega.{arith}
use borrow.Author.Tests.{eqb-true, le-leb}
use lib.Dec.{eqb}
use lib.ListN.{length, take, drop, length-append, length-drop, take-append-drop, drop_of_length-le}
use lib.Seq.{length-take-le, take-append-le, drop-append-le, drop_at, take_all}
use Rattle.base.specs.Numbers.{two}
use Rattle.message.specs.Numbers.{eight_at, eight}
use Rattle.base.specs.Keys.{among}
use Rattle.message.specs.Parts.{place, nowhere, bytes_of, bytes_in}
use Rattle.message.specs.Layouts.{parts_in, fits, size_fits}
use Rattle.message.specs.Messages.{information_in, information_bytes, information_numbers, information_opaque}
use Rattle.message.specs.WrittenRead.{opaque_parts}
use Rattle.message.specs.declared.kind.Kind.TheVariants as kind
use Rattle.message.specs.declared.values.Extra.{Extra}
use Rattle.message.specs.declared.values.Extra.TheVariants as extra
use Rattle.base.proofs.Numbers.{two_after}
use Rattle.message.proofs.Numbers.{eight_after}
use Rattle.message.proofs.Accepted.{Accepted, Back}

-- what lies in the first of two lists
inside : (f q : List ℕ) (start size : ℕ) → start + size ≤ length f
    → take size (drop start (f ++ q)) ≡ take size (drop start f)
inside f q start size h = rw (drop-append-le start f q (omega arith))
    (take-append-le size (drop start f) q (omega (arith, length-drop start f)))

-- what lies in the first n of a list, whatever follows them
pub in_front : (l q : List ℕ) (n start size : ℕ) → start + size ≤ n → n ≤ length l
    → take size (drop start (take n l ++ q)) ≡ take size (drop start l)
in_front l q n start size h e =
    let whole : length (take n l) ≡ n = length-take-le n l e in
    inside (take n l) q start size (omega arith) ∙ sym (inside (take n l) (drop n l) start size (omega arith))
    ∙ ap (λ (m : List ℕ). take size (drop start m)) (take-append-drop n l)

-- how many bytes there are
record Shape (timeout : ℕ) (more opaque : List ℕ) (size : ℕ) : Type 0 where
  enough : 64 ≤ length opaque
  sized : 2 + length more + length opaque ≡ size

module _ {timeout size : ℕ} {more opaque : List ℕ} (s : Shape timeout more opaque size) where
  abbrev payload : List ℕ
  payload = information_bytes (two timeout more) opaque

  front : length (take 64 opaque) ≡ 64
  front = length-take-le 64 opaque s.enough

  payload_length : length payload ≡ size
  payload_length = simp (length-append, length-drop, front) (omega arith)

  -- ---- values

  values_back :
      {values : List ℕ} → among size (66 ∷ 74 ∷ 106 ∷ []) ≡ true
      → cond (eqb size 66) [] (eight_at payload 66 ∷ []) ≡ values
      → Accepted kind.Information 0x02 payload (0x02 ∷ size ∷ timeout ∷ values)
  unfolding size_fits fits
  values_back listed rest =
      record {
        listed = refl;
        sized = rw (payload_length, listed) (le-leb 0 size (omega arith));
        allows = refl;
        values = rw (payload_length, two_after (take 64 opaque) front timeout (more ++ drop 64 opaque))
            (ap (λ (l : List ℕ). 0x02 ∷ size ∷ timeout ∷ l) rest);
      }

  attributes_back : (attributes : ℕ) → more ≡ eight attributes [] → eight_at payload 66 ≡ attributes
  attributes_back attributes e =
      rw (e, ← append_assoc (take 64 opaque) (two timeout []) (eight attributes (drop 64 opaque)))
      (eight_after (take 64 opaque ++ two timeout []) (simp (length-append, front)) attributes (drop 64 opaque))

  -- ---- parts

  text : (start count : ℕ) → start + count ≤ 64 → bytes_of (place start count) payload ≡ take count (drop start opaque)
  text start count h = in_front opaque _ 64 start count h s.enough

  abbrev secret : List ℕ
  secret = bytes_of (cond (eqb (length payload) 106) (place 74 32) nowhere) payload

  no_secret : eqb size 106 ≡ false → length opaque ≡ 64 → secret ≡ drop 64 opaque
  no_secret short e = rw (payload_length, short) (sym (drop_of_length-le opaque {i = 64} (omega arith)))

  secret_back : eqb size 106 ≡ true → length opaque ≡ 96 → secret ≡ drop 64 opaque
  secret_back e n =
      rw (payload_length, e, ← append_assoc (take 64 opaque) (two timeout more) (drop 64 opaque))
      (rw (drop_at (take 64 opaque ++ two timeout more) (drop 64 opaque) 74
      (simp (length-append, front) (omega (arith, eqb-true))))
      (take_all 32 (drop 64 opaque) (omega (arith, length-drop 64 opaque))))

  parts_back : secret ≡ drop 64 opaque → bytes_in (parts_in kind.Information payload) payload ≡ opaque_parts 0x02 opaque
  parts_back e =
      cc (
        text 0 8 (omega arith),
        text 8 8 (omega arith),
        text 16 8 (omega arith),
        text 24 8 (omega arith),
        text 32 32 (omega arith),
      )

-- ---- each shape

pub information_back :
    (timeout : ℕ) (more : Extra) (opaque : List ℕ) → eqb (length opaque) (information_opaque more) ≡ true
    → Back kind.Information 0x02 (information_bytes (information_numbers timeout more) opaque)
    (0x02 ∷ information_in timeout more) opaque
unfolding among
information_back timeout extra.Absent opaque h =
    let n : length opaque ≡ 64 = eqb-true _ _ h in
    let s : Shape timeout [] opaque 66 = omega arith in
    record { values = values_back s refl refl; parts = parts_back s (no_secret s refl n) }
information_back timeout (extra.Attributes attributes) opaque h =
    let n : length opaque ≡ 64 = eqb-true _ _ h in
    let s : Shape timeout (eight attributes []) opaque 74 = omega arith in
    record {
      values = values_back s refl (rw (attributes_back s attributes refl));
      parts = parts_back s (no_secret s refl n);
    }
information_back timeout (extra.AttributesAndSecret attributes) opaque h =
    let n : length opaque ≡ 96 = eqb-true _ _ h in
    let s : Shape timeout (eight attributes []) opaque 106 = omega arith in
    record {
      values = values_back s refl (rw (attributes_back s attributes refl));
      parts = parts_back s (secret_back s refl n);
    }
