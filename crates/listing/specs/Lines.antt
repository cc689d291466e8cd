-- Statement: the heading, the line of each answer, and the last line. PROTOCOL 10.1 to 10.6, 10.8, 10.9.
-- It uses `decimal_of` of the model, held by decimal_text and one_decimal.
use Rattle.std.specs.Prelude.{ℕ, cond, List, [], ◌∷◌, ◌++◌, length, get_or, eqb}
use Prim.Native.Char.{code}
use Prim.Native.String.{String, [] as []ˢ, ◌∷◌ as ◌∷ˢ◌}
use Rattle.frame.specs.Wire.{command_of, number_of, flags_of, payload_of}
use Rattle.frame.specs.declared.scan.Verdict.{Verdict}
use Rattle.frame.specs.declared.scan.Verdict.TheVariants as verdict
use Rattle.base.specs.Rows.{Row}
use Rattle.listing.specs.Digits.{decimal_of}

-- a text's bytes, in ASCII: every character here is below 128
abbrev pub ascii : String → List ℕ
ascii []ˢ = []
ascii (c ∷ˢ s) = code c ∷ ascii s

-- numbers as columns, each after one space: PROTOCOL 10.3
unfoldable pub columns_of : List ℕ → List ℕ
columns_of [] = []
columns_of (n ∷ l) = 32 ∷ (decimal_of n ++ columns_of l)

-- a line: a text of the caller's (PROTOCOL 10.8), the word, numbers as columns, and the rest
abbrev pub text_of : List ℕ → List ℕ → List ℕ → List ℕ → List ℕ
text_of prefix word numbers rest = prefix ++ (word ++ (columns_of numbers ++ rest))

-- PROTOCOL 10.2
abbrev pub heading_text : List ℕ → List ℕ
heading_text prefix = text_of prefix (ascii "kind start end cmd sn flags payload\n") [] []

-- the columns of places: start, then end
abbrev pub places_at : ℕ → ℕ → List ℕ
places_at start end = start ∷ end ∷ []

-- they follow the count in a row's values
abbrev pub places_of : Row → List ℕ
places_of r = places_at (get_or r.values 1 0) (get_or r.values 2 0)

-- the columns of a body: PROTOCOL 10.4
abbrev pub body_columns : List ℕ → List ℕ
body_columns body = command_of body ∷ number_of body ∷ flags_of body ∷ length (payload_of body) ∷ []

-- FRAME: PROTOCOL 10.4
abbrev pub frame_text : List ℕ → Row → List ℕ → List ℕ
frame_text prefix r body = text_of prefix (ascii "frame") (places_of r ++ body_columns body) (ascii "\n")

-- the columns that a refused frame lacks
abbrev pub dashes : List ℕ
dashes = ascii " - - - -\n"

-- a refused frame: PROTOCOL 10.5
abbrev pub refused_text : List ℕ → String → Row → List ℕ
refused_text prefix name r = text_of prefix (ascii name) (places_of r) dashes

-- the word of a decided frame's line: PROTOCOL 10.4, 10.5
abbrev pub word_of : Verdict → List ℕ
word_of verdict.Frame = ascii "frame"
word_of verdict.Short = ascii "short"
word_of verdict.Long = ascii "long"
word_of (verdict.Stuff byte) = ascii "stuff"
word_of (verdict.StuffLate byte) = ascii "stufflate"
word_of verdict.Cut = ascii "cut"
word_of (verdict.Sum found computed) = ascii "sum"

-- the line of an answer, by its number; MORE, STATE and USED have none: PROTOCOL 10.1
abbrev pub answer_text : List ℕ → Row → List ℕ → List ℕ
answer_text prefix r body =
    cond (eqb r.number 1) (frame_text prefix r body)
    (cond (eqb r.number 11) (refused_text prefix "short" r)
    (cond (eqb r.number 12) (refused_text prefix "long" r)
    (cond (eqb r.number 13) (refused_text prefix "stuff" r)
    (cond (eqb r.number 14) (refused_text prefix "cut" r)
    (cond (eqb r.number 15) (refused_text prefix "sum" r)
    (cond (eqb r.number 19) (refused_text prefix "stufflate" r) []))))))

-- no line has more bytes from its word on, which the claim `longest` says: PROTOCOL 10.9
abbrev pub line_room : ℕ
line_room = 132

-- the last line: PROTOCOL 10.6; STATE has none: PROTOCOL 10.1
abbrev pub last_of : List ℕ → Row → List ℕ
last_of prefix r =
    cond (eqb r.number 2) (text_of prefix (ascii "clean") (get_or r.values 0 0 ∷ []) (ascii "\n"))
    (cond (eqb r.number 16) (text_of prefix (ascii "open") (get_or r.values 1 0 ∷ []) (ascii "\n")) [])

-- the line of a refusal that ends a text: PROTOCOL 10.11
abbrev pub refusal_text : ℕ → ℕ → List ℕ
refusal_text number place = text_of [] (ascii "refused") (number ∷ place ∷ []) (ascii "\n")
