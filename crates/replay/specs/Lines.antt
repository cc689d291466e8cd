-- Statement: the heading and the lines of a replay's text. PROTOCOL 14.2.
use Rattle.std.specs.Prelude.{ℕ, cond, List, [], ◌∷◌, ◌++◌, eqb}
use Rattle.frame.specs.Decisions.{Decision}
use Rattle.listing.specs.Digits.{digit}
use Rattle.listing.specs.Lines.{ascii, heading_text}
use Rattle.listing.specs.Listing.{decision_text}

-- the listing's heading, with one column more: PROTOCOL 14.2
abbrev pub replay_heading : List ℕ
replay_heading = heading_text (ascii "dir ")

-- the direction, before the word of each line: PROTOCOL 14.2
abbrev pub prefix_of : ℕ → List ℕ
prefix_of direction = digit direction ∷ ascii " "

-- a line: a direction, and a decision over the joined bytes of that direction
pub record Printed : Type 0 where
  pub direction : ℕ
  pub decision : Decision

-- the text of lines
unfoldable pub printed_text : List Printed → List ℕ
printed_text [] = []
printed_text (p ∷ ps) = decision_text (prefix_of p.direction) p.decision ++ printed_text ps

-- decisions of one direction as lines
unfoldable pub lines_of : ℕ → List Decision → List Printed
lines_of direction [] = []
lines_of direction (d ∷ ds) = record { direction = direction; decision = d } ∷ lines_of direction ds

-- the decisions among lines that are of a direction
unfoldable pub decisions_in : ℕ → List Printed → List Decision
decisions_in direction [] = []
decisions_in direction (p ∷ ps) =
    cond (eqb p.direction direction) (p.decision ∷ decisions_in direction ps) (decisions_in direction ps)
