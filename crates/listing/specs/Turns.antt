-- Statement: what several calls of the loop, the turns, use and write in all. PROTOCOL 10.7, 10.10.
-- It uses `list_of` of the model, held by loop_lists, and frame's `finish_of`, held by finish_correct.
use Rattle.std.specs.Prelude.{ℕ, ◌≡◌, List, [], ◌∷◌, ◌++◌, take, drop}
use Rattle.base.specs.Runs.{Run}
use Rattle.frame.specs.State.{State}
use Rattle.frame.specs.Calls.{finish_of}
use Rattle.listing.specs.Lines.{heading_text, last_of}
use Rattle.listing.specs.Feeding.{list_of}

-- a turn is one call of the loop: the bytes offered, and the buffer's room
pub record Turn : Type 0 where
  pub bytes : List ℕ
  pub room : ℕ

-- what turns leave in all: the state, the bytes used, and the texts, joined in order
pub record Turned : Type 0 where
  pub state : State
  pub consumed : List ℕ
  pub text : List ℕ

-- a run, and the turns that follow it
abbrev pub turned : List ℕ → Run State → Turned → Turned
turned bytes run rest =
    record { state = rest.state; consumed = take run.used bytes ++ rest.consumed; text = run.text ++ rest.text }

-- each turn gets the reader that the previous one left
unfoldable pub turns_of : ℕ → List ℕ → State → List Turn → Turned
turns_of limit prefix r [] = record { state = r; consumed = []; text = [] }
turns_of limit prefix r (t ∷ ts) =
    turned t.bytes (list_of limit prefix r t.bytes t.room)
    (turns_of limit prefix (list_of limit prefix r t.bytes t.room).state ts)

-- what a program writes: the heading, the texts of its turns, and the last line of finish
abbrev pub written_by : ℕ → List ℕ → Turned → List ℕ
written_by limit prefix t =
    heading_text prefix ++ (t.text ++ last_of prefix (finish_of limit t.state).row)

-- each turn is offered the front of what is left to send; what it does not use is left after it
unfoldable pub OfferedFront : ℕ → List ℕ → State → List ℕ → List Turn → Type 0
OfferedFront limit prefix r left [] = Unit {0}
OfferedFront limit prefix r left (t ∷ ts) =
    ((q : List ℕ) × (left ≡ t.bytes ++ q))
    × OfferedFront limit prefix (list_of limit prefix r t.bytes t.room).state
    (drop (list_of limit prefix r t.bytes t.room).used left) ts
