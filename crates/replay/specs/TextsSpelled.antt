-- Claims: the pieces of a replay's text, spelled. PROTOCOL 14.1 to 14.3.
use Rattle.std.specs.Prelude.{ℕ, ◌+◌, ◌*◌, ◌≡◌, ◌≢◌, List, [], ◌∷◌, ◌++◌, length, take}
use Rattle.frame.specs.Decisions.{Decision, IsOpen}
use Rattle.listing.specs.Digits.{decimal_of}
use Rattle.listing.specs.Lines.{ascii}
use Rattle.listing.specs.Listing.{decisions_text}
use Rattle.replay.specs.Lines.{Printed, prefix_of, replay_heading, printed_text, lines_of, decisions_in}
use Rattle.replay.specs.Replays.{heard_of, Adds, AreLines, IsEndLine}

-- ---- texts_spelled: the heading, and what stands before a line's word: PROTOCOL 14.2
pub record TextsSpelled : Type 0 where
  pub heading : replay_heading ≡ ascii "dir kind start end cmd sn flags payload\n"
  pub from_module_is : prefix_of 0 ≡ ascii "0 "
  pub from_box_is : prefix_of 1 ≡ ascii "1 "

-- ---- heard_spelled: the bytes of a direction, record by record: all of a record's bytes, where it is of that
-- direction, and none of another's: PROTOCOL 14.1
pub record HeardSpelled (d e t u v w a b : ℕ) (p : List ℕ) (rs : List (List ℕ)) : Type 0 where
  pub none : heard_of d [] ≡ []
  pub own : heard_of d ((d ∷ t ∷ u ∷ v ∷ w ∷ a ∷ b ∷ p) ∷ rs) ≡ take (a * 256 + b) p ++ heard_of d rs
  pub other : e ≢ d → heard_of d ((e ∷ t ∷ u ∷ v ∷ w ∷ a ∷ b ∷ p) ∷ rs) ≡ heard_of d rs
  -- the lines of a record are those that all of its bytes add in its direction
  pub lines : (limit : ℕ) (past : List (List ℕ)) (all : List Printed)
      → AreLines limit past ((d ∷ t ∷ u ∷ v ∷ w ∷ a ∷ b ∷ p) ∷ rs) all
      → (new : List Decision) × (later : List Printed) × Adds limit (heard_of d past) (take (a * 256 + b) p) new
      × (all ≡ lines_of d new ++ later)

-- of any bytes
abbrev pub AllHeardSpelled : Type 0
AllHeardSpelled =
    (d e t u v w a b : ℕ) (p : List ℕ) (rs : List (List ℕ)) → HeardSpelled d e t u v w a b p rs

-- ---- printed_joined: the text of lines is that of each, in order, none left out; those of a direction's decisions
-- have the listing's text with the direction before it, and are found again: PROTOCOL 14.2
pub record PrintedJoined (a b : List Printed) (d e : ℕ) (ds : List Decision) : Type 0 where
  pub joined : printed_text (a ++ b) ≡ printed_text a ++ printed_text b
  pub lines : printed_text (lines_of d ds) ≡ decisions_text (prefix_of d) ds
  pub own : decisions_in d (lines_of d ds) ≡ ds
  pub other : e ≢ d → decisions_in d (lines_of e ds) ≡ []

-- of any lines
abbrev pub AllPrintedJoined : Type 0
AllPrintedJoined = (a b : List Printed) (d e : ℕ) (ds : List Decision) → PrintedJoined a b d e ds

-- ---- end_lines_spelled: the end line of a direction, by its bytes: PROTOCOL 14.3
pub record EndLinesSpelled (limit d : ℕ) (t line : List ℕ) : Type 0 where
  pub left_open : (start : ℕ) → IsOpen limit t start
      → line ≡ prefix_of d ++ (ascii "open " ++ (decimal_of start ++ ascii "\n"))
  pub left_clean : ((start : ℕ) → IsOpen limit t start → ⊥)
      → line ≡ prefix_of d ++ (ascii "clean " ++ (decimal_of (length t) ++ ascii "\n"))

-- of any bytes
abbrev pub AllEndLinesSpelled : Type 0
AllEndLinesSpelled =
    (limit d : ℕ) (t line : List ℕ) → IsEndLine limit d t line → EndLinesSpelled limit d t line
