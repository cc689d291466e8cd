-- The text of every line, and how long it can be. Assumes nothing.
use Prim.Native.Nat.{ℕ, zero, suc, ◌+◌, ◌*◌, ◌-◌, ◌^◌, ◌≤◌, ◌<◌}
use Prim.Native.String.{String}
use mathlib.Core.Path.{◌≡◌, refl}
use mathlib.Core.Bool.{cond}
use mathlib.Core.List.{List, [], ◌∷◌, ◌++◌, append-nil, append_assoc}
use native.Mathlib.Omega.{arith}
use lib.ListN.{length, get_or, length-append, length-take, length-drop}
use lib.Dec.{eqb}
use Rattle.frame.specs.Wire.{length_of, payload_of}
use Rattle.base.specs.Rows.{Row}
use Rattle.base.proofs.Tests.{by_test}
use Rattle.listing.specs.Lines.{ascii, columns_of, text_of, places_of, body_columns, dashes, refused_text, answer_text}
use Rattle.listing.specs.Lines.{last_of}
use Rattle.listing.specs.LineTexts.{FrameColumns, AllLinesSpelled, NoLines, Below, Longest}
use Rattle.listing.proofs.Digits.{count_most}

pub frame_columns : FrameColumns
frame_columns prefix count start end body h =
    let size : length (payload_of body) ≡ length_of body - 5 = simp (length-take, length-drop) (omega arith) in
    rw size

pub no_line : NoLines
no_line prefix values body = record { more = refl; state = refl; used = refl; end_state = refl }

pub lines_spelled : AllLinesSpelled
unfolding columns_of
lines_spelled prefix body v c s e =
    record {
      short = simp (append_assoc, append-nil);
      long = simp (append_assoc, append-nil);
      stuff = simp (append_assoc, append-nil);
      stuff_late = simp (append_assoc, append-nil);
      cut = simp (append_assoc, append-nil);
      sum = simp (append_assoc, append-nil);
      frame = λ n k f p. simp (append_assoc, append-nil);
      clean = simp append-nil;
      left_open = simp append-nil;
      heading = simp append-nil;
      refusal = simp (append_assoc, append-nil);
    }

-- ---- longest

-- each column has at most 21 bytes
columns_most : (l : List ℕ) → Below (2 ^ 64) l → length (columns_of l) ≤ 21 * length l
unfolding columns_of
columns_most [] h = omega arith
columns_most (n ∷ l) h =
    let digits = count_most 19 n (omega arith) in
    rw length-append (omega (arith, columns_most l h.1))

-- short enough, after the caller's text
abbrev Short : List ℕ → List ℕ → Type 0
Short prefix t = length t ≤ length prefix + 132

text_short : (prefix word numbers rest : List ℕ) → Below (2 ^ 64) numbers
    → length word + 21 * length numbers + length rest ≤ 132 → Short prefix (text_of prefix word numbers rest)
text_short prefix word numbers rest h few =
    let columns = columns_most numbers h in
    simp length-append (omega arith)

-- a value of a row, where it is there
value_below : (l : List ℕ) (i : ℕ) → Below (2 ^ 64) l → get_or l i 0 < 2 ^ 64
value_below [] i h = omega arith
value_below (n ∷ l) zero h = h.0
value_below (n ∷ l) (suc i) h = value_below l i h.1

-- the payload is no longer than the body's length says
payload_most : (body : List ℕ) → length (payload_of body) ≤ length_of body
payload_most body = rw length-take (omega arith)

line_short : (prefix : List ℕ) (r : Row) (body : List ℕ)
    → Below (2 ^ 64) (places_of r) → ((i : ℕ) → get_or body i 0 < 256) → Short prefix (answer_text prefix r body)
line_short prefix r body h bytes =
    pick (Short prefix) 1 (text_short prefix (ascii "frame") (places_of r ++ body_columns body) (ascii "\n")
    (h.0, (h.1.0, fields)) (omega arith))
    (pick (Short prefix) 11 (refused "short" (omega arith))
    (pick (Short prefix) 12 (refused "long" (omega arith))
    (pick (Short prefix) 13 (refused "stuff" (omega arith))
    (pick (Short prefix) 14 (refused "cut" (omega arith))
    (pick (Short prefix) 15 (refused "sum" (omega arith))
    (pick (Short prefix) 19 (refused "stufflate" (omega arith)) (omega arith)))))))
  where
    pick : (P : List ℕ → Type 0) (n : ℕ) {x y : List ℕ} → P x → P y → P (cond (eqb r.number n) x y)
    pick P n f g = by_test P (eqb r.number n) (λ e. f) (λ e. g)

    -- one byte, one byte, two bytes, and a payload under a length of two bytes
    below : {n : ℕ} → n ≤ get_or body 0 0 * 256 + get_or body 1 0 + get_or body 2 0 + get_or body 3 0
        + (get_or body 4 0 * 256 + get_or body 5 0) → n < 2 ^ 64
    below h = omega (arith, bytes 0, bytes 1, bytes 2, bytes 3, bytes 4, bytes 5)

    fields : Below (2 ^ 64) (body_columns body)
    fields =
        let payload = payload_most body in
        (below (omega arith), (below (omega arith), (below (omega arith), (below (omega arith), tt))))

    refused : (name : String) → length (ascii name) + 42 + length dashes ≤ 132
        → Short prefix (refused_text prefix name r)
    refused name few = text_short prefix (ascii name) (places_of r) dashes (h.0, (h.1.0, tt)) few

last_short : (prefix : List ℕ) (r : Row) → Below (2 ^ 64) r.values → Short prefix (last_of prefix r)
last_short prefix r h =
    by_test (Short prefix) (eqb r.number 2) (λ e. ends "clean" _ (omega arith))
    (λ e. by_test (Short prefix) (eqb r.number 16) (λ f. ends "open" _ (omega arith)) (λ f. omega arith))
  where
    ends : (word : String) (i : ℕ) → length (ascii word) + 21 + 1 ≤ 132
        → Short prefix (text_of prefix (ascii word) (get_or r.values i 0 ∷ []) (ascii "\n"))
    ends word i few =
        text_short prefix (ascii word) (get_or r.values i 0 ∷ []) (ascii "\n") (value_below r.values i h, tt) few

pub longest : Longest
longest =
    record {
      lines = line_short;
      lasts = last_short;
      heading = λ prefix. text_short prefix (ascii "kind start end cmd sn flags payload\n") [] [] tt (omega arith);
    }
