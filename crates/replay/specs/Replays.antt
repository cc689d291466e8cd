-- Statement: the replay of a capture, by its bytes alone. PROTOCOL 14.1 to 14.5.
-- No reader enters into it.
use Rattle.std.specs.Prelude.{ℕ, cond, ◌≡◌, ◌≢◌, List, [], ◌∷◌, ◌++◌, length, eqb}
use Rattle.base.specs.Rows.{row}
use Rattle.frame.specs.Decisions.{Decision, ListsDecisions, IsOpen}
use Rattle.listing.specs.Lines.{last_of, refusal_text}
use Rattle.capture.specs.Format.{direction_of, payload_of}
use Rattle.capture.specs.Captures.{Reads}
use Rattle.replay.specs.Lines.{Printed, lines_of, printed_text, prefix_of, replay_heading}

-- the bytes of a direction, joined: PROTOCOL 14.1
unfoldable pub heard_of : ℕ → List (List ℕ) → List ℕ
heard_of direction [] = []
heard_of direction (r ∷ rs) =
    cond (eqb (direction_of r) direction) (payload_of r ++ heard_of direction rs) (heard_of direction rs)

-- the decisions that bytes p add to a stream t that they follow
pub record Adds (limit : ℕ) (t p : List ℕ) (new : List Decision) : Type 0 where
  pub old : List Decision
  pub before : ListsDecisions limit t old
  pub after : ListsDecisions limit (t ++ p) (old ++ new)

-- the lines of records, of which some are past: each record has those that its bytes add in its direction
unfoldable pub AreLines : ℕ → List (List ℕ) → List (List ℕ) → List Printed → Type 0
AreLines limit past [] lines = lines ≡ []
AreLines limit past (r ∷ rs) lines =
    (new : List Decision) × (later : List Printed)
    × Adds limit (heard_of (direction_of r) past) (payload_of r) new
    × (lines ≡ lines_of (direction_of r) new ++ later)
    × AreLines limit (past ++ r ∷ []) rs later

-- the end line of a direction whose bytes are t: PROTOCOL 14.3
pub record IsEndLine (limit direction : ℕ) (t line : List ℕ) : Type 0 where
  pub left_open : (start : ℕ) → IsOpen limit t start
      → line ≡ last_of (prefix_of direction) (row 16 (length t ∷ start ∷ []))
  pub left_clean : ((start : ℕ) → IsOpen limit t start → ⊥)
      → line ≡ last_of (prefix_of direction) (row 2 (length t ∷ []))

-- what follows the lines: the end lines of 0 and of 1, or the line of the refusal: PROTOCOL 14.3, 14.5
pub record IsEnding (limit : ℕ) (records : List (List ℕ)) (number place : ℕ) (text : List ℕ) : Type 0 where
  pub line0 : List ℕ
  pub line1 : List ℕ
  pub is_line0 : IsEndLine limit 0 (heard_of 0 records) line0
  pub is_line1 : IsEndLine limit 1 (heard_of 1 records) line1
  pub whole : number ≡ 2 → text ≡ line0 ++ line1
  pub refused : number ≢ 2 → text ≡ refusal_text number place

-- a text is the replay of a capture
pub record IsReplay (limit : ℕ) (capture text : List ℕ) : Type 0 where
  pub records : List (List ℕ)
  pub number : ℕ
  pub place : ℕ
  pub reads : Reads capture records number place
  pub lines : List Printed
  pub are_lines : AreLines limit [] records lines
  pub ending : List ℕ
  pub is_ending : IsEnding limit records number place ending
  pub text_is : text ≡ replay_heading ++ (printed_text lines ++ ending)
