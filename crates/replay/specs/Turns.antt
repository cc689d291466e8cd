-- Statement: what several calls of `play`, the turns, and then `finish` write in all. PROTOCOL 14.2 to 14.5.
-- It uses `play_of` and `closing_text` of the models, held by turns_replay, and capture's `end_of`, held by
-- each_finish.
use Rattle.std.specs.Prelude.{ℕ, ◌<◌, ◌≡◌, ◌≢◌, ◌⊎◌, List, [], ◌∷◌, ◌++◌, drop}
use Rattle.capture.specs.Reading.{next_of, end_of}
use Rattle.replay.specs.Lines.{replay_heading}
use Rattle.replay.specs.State.{State}
use Rattle.replay.specs.Playing.{play_of}
use Rattle.replay.specs.Closing.{closing_text}

-- a turn is one call of `play`: the window that it is offered, and the buffer's room
pub record Turn : Type 0 where
  pub window : List ℕ
  pub room : ℕ

-- the state after turns, each of which gets the one that the previous one left
unfoldable pub state_by : ℕ → State → List Turn → State
state_by limit s [] = s
state_by limit s (t ∷ ts) = state_by limit (play_of limit s t.window t.room).state ts

-- their texts, joined in order
unfoldable pub text_by : ℕ → State → List Turn → List ℕ
text_by limit s [] = []
text_by limit s (t ∷ ts) =
    (play_of limit s t.window t.room).text ++ text_by limit (play_of limit s t.window t.room).state ts

-- what they do not use of a capture
unfoldable pub left_by : ℕ → State → List ℕ → List Turn → List ℕ
left_by limit s left [] = left
left_by limit s left (t ∷ ts) =
    left_by limit (play_of limit s t.window t.room).state
    (drop (play_of limit s t.window t.room).used left) ts

-- each is offered a window on what is left: a front of it, however long
unfoldable pub AreWindows : ℕ → State → List ℕ → List Turn → Type 0
AreWindows limit s left [] = Unit {0}
AreWindows limit s left (t ∷ ts) =
    ((rest : List ℕ) × (left ≡ t.window ++ rest))
    × AreWindows limit (play_of limit s t.window t.room).state
    (drop (play_of limit s t.window t.room).used left) ts

-- then `finish` is offered all that is left; or a front of it that is refused by a byte that is there. It has a text
pub record Finishes (s : State) (left w : List ℕ) : Type 0 where
  pub rest : List ℕ
  pub front : left ≡ w ++ rest
  pub decided : (rest ≡ []) ⊎ (50 < (next_of s.place w).row.number)
  pub nothing_to_play : (end_of s.place w).number ≢ 0

-- what is written in all
abbrev pub written_by : ℕ → State → List Turn → List ℕ → List ℕ
written_by limit s turns w =
    replay_heading
    ++ (text_by limit s turns
    ++ closing_text limit (state_by limit s turns) (end_of (state_by limit s turns).place w))
