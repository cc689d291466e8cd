-- Claims: the text of every line, piece by piece, and how long it can be. PROTOCOL 10.1 to 10.6, 10.9.
use Rattle.std.specs.Prelude.{ℕ, ◌+◌, ◌*◌, ◌-◌, ◌^◌, ◌≤◌, ◌<◌, ◌≡◌, List, [], ◌∷◌, ◌++◌, length, get_or}
use Rattle.base.specs.Rows.{Row, row}
use Rattle.listing.specs.Digits.{decimal_of}
use Rattle.listing.specs.Lines.{ascii, heading_text, text_of, places_of, answer_text, last_of, refusal_text}

-- ---- frame_columns: of any body that has the bytes that its length says, by their places: PROTOCOL 10.4
abbrev pub FrameColumns : Type 0
FrameColumns =
    (prefix : List ℕ) (count start end : ℕ) (body : List ℕ) → get_or body 0 0 * 256 + get_or body 1 0 + 1 ≤ length body
    → answer_text prefix (row 1 (count ∷ start ∷ end ∷ [])) body
    ≡ text_of prefix (ascii "frame")
    (start ∷ end ∷ get_or body 2 0 ∷ get_or body 3 0 ∷ (get_or body 4 0 * 256 + get_or body 5 0)
    ∷ (get_or body 0 0 * 256 + get_or body 1 0 - 5) ∷ [])
    (ascii "\n")

-- ---- lines_spelled: every line by its pieces, for all numbers: PROTOCOL 10.2 to 10.6, 10.11

-- a refused frame's line, after its word and a space
abbrev pub refused_rest : ℕ → ℕ → List ℕ
refused_rest start end = decimal_of start ++ (ascii " " ++ (decimal_of end ++ ascii " - - - -\n"))

-- count c, start s, end e, and any further values v, which are not printed
pub record LinesSpelled (prefix body v : List ℕ) (c s e : ℕ) : Type 0 where
  pub short : answer_text prefix (row 11 (c ∷ s ∷ e ∷ v)) body ≡ prefix ++ (ascii "short " ++ refused_rest s e)
  pub long : answer_text prefix (row 12 (c ∷ s ∷ e ∷ v)) body ≡ prefix ++ (ascii "long " ++ refused_rest s e)
  pub stuff : answer_text prefix (row 13 (c ∷ s ∷ e ∷ v)) body ≡ prefix ++ (ascii "stuff " ++ refused_rest s e)
  pub stuff_late : answer_text prefix (row 19 (c ∷ s ∷ e ∷ v)) body ≡ prefix ++ (ascii "stufflate " ++ refused_rest s e)
  pub cut : answer_text prefix (row 14 (c ∷ s ∷ e ∷ v)) body ≡ prefix ++ (ascii "cut " ++ refused_rest s e)
  pub sum : answer_text prefix (row 15 (c ∷ s ∷ e ∷ v)) body ≡ prefix ++ (ascii "sum " ++ refused_rest s e)
  -- the six columns of a frame; `frame_columns` says what they are
  pub frame : (n k f p : ℕ)
      → text_of prefix (ascii "frame") (s ∷ e ∷ n ∷ k ∷ f ∷ p ∷ []) (ascii "\n")
      ≡ prefix ++ (ascii "frame " ++ (decimal_of s ++ (ascii " " ++ (decimal_of e ++ (ascii " "
      ++ (decimal_of n ++ (ascii " " ++ (decimal_of k ++ (ascii " "
      ++ (decimal_of f ++ (ascii " " ++ (decimal_of p ++ ascii "\n"))))))))))))
  pub clean : last_of prefix (row 2 (c ∷ [])) ≡ prefix ++ (ascii "clean " ++ (decimal_of c ++ ascii "\n"))
  pub left_open : last_of prefix (row 16 (c ∷ s ∷ [])) ≡ prefix ++ (ascii "open " ++ (decimal_of s ++ ascii "\n"))
  pub heading : heading_text prefix ≡ prefix ++ ascii "kind start end cmd sn flags payload\n"
  pub refusal : refusal_text c s ≡ ascii "refused " ++ (decimal_of c ++ (ascii " " ++ (decimal_of s ++ ascii "\n")))

-- of all values
abbrev pub AllLinesSpelled : Type 0
AllLinesSpelled = (prefix body v : List ℕ) (c s e : ℕ) → LinesSpelled prefix body v c s e

-- ---- no_line: MORE, STATE and USED have no line, and finish with STATE has no last line: PROTOCOL 10.1
pub record NoLine (prefix values body : List ℕ) : Type 0 where
  pub more : answer_text prefix (row 0 values) body ≡ []
  pub state : answer_text prefix (row 17 values) body ≡ []
  pub used : answer_text prefix (row 18 values) body ≡ []
  pub end_state : last_of prefix (row 17 values) ≡ []

-- of any values and body
abbrev pub NoLines : Type 0
NoLines = (prefix values body : List ℕ) → NoLine prefix values body

-- ---- longest: where places are below 2^64 and a body's values are bytes, no line has more than 132 bytes
-- from its word on: PROTOCOL 10.9

-- each number of a list is below a bound
abbrev pub Below : ℕ → List ℕ → Type 0
Below m [] = Unit {0}
Below m (n ∷ l) = (n < m) × Below m l

-- the line of each answer, the last line and the heading
pub record Longest : Type 0 where
  pub lines : (prefix : List ℕ) (r : Row) (body : List ℕ) → Below (2 ^ 64) (places_of r)
      → ((i : ℕ) → get_or body i 0 < 256) → length (answer_text prefix r body) ≤ length prefix + 132
  pub lasts : (prefix : List ℕ) (r : Row) → Below (2 ^ 64) r.values → length (last_of prefix r) ≤ length prefix + 132
  pub heading : (prefix : List ℕ) → length (heading_text prefix) ≤ length prefix + 132
