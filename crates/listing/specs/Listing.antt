-- Statement: the listing of a stream, by its bytes alone. PROTOCOL 10.1, 10.6, 10.7.
use Rattle.std.specs.Prelude.{ℕ, ◌≡◌, List, [], ◌∷◌, ◌++◌, length}
use Rattle.base.specs.Rows.{Row, row}
use Rattle.frame.specs.Decisions.{Decision, ListsDecisions, IsOpen}
use Rattle.listing.specs.Lines.{heading_text, answer_text, last_of}

-- the line of a decision: its number, its places and, at FRAME, the columns of its body
abbrev pub decision_text : List ℕ → Decision → List ℕ
decision_text prefix d = answer_text prefix (row d.number (0 ∷ d.start ∷ d.end ∷ [])) d.body

-- of several
unfoldable pub decisions_text : List ℕ → List Decision → List ℕ
decisions_text prefix [] = []
decisions_text prefix (d ∷ ds) = decision_text prefix d ++ decisions_text prefix ds

-- the heading, the lines of decisions, and the last line of an answer to finish
abbrev pub listing_text : List ℕ → List Decision → Row → List ℕ
listing_text prefix ds end = heading_text prefix ++ (decisions_text prefix ds ++ last_of prefix end)

-- a text is the listing of the stream t: it has the lines of the decisions over t, and `open` or `clean` by its end
pub record IsListing (prefix : List ℕ) (limit : ℕ) (t text : List ℕ) : Type 0 where
  pub decisions : List Decision
  pub all_decisions : ListsDecisions limit t decisions
  pub left_open : (start : ℕ) → IsOpen limit t start
      → text ≡ listing_text prefix decisions (row 16 (length t ∷ start ∷ []))
  pub left_clean : ((start : ℕ) → IsOpen limit t start → ⊥)
      → text ≡ listing_text prefix decisions (row 2 (length t ∷ []))
