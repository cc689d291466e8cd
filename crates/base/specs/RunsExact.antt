-- Claims: what a call of a loop leaves in the caller's buffer. PROTOCOL 10.8, 10.10.
use Rattle.std.specs.Prelude.{ℕ, ◌≤◌, ◌≡◌, List, length, get_or, take}
use Rattle.base.specs.Runs.{Run, left_by}

-- ---- left_whole: a text that fits is at the front of the buffer and is counted, and each byte after it stays
pub record LeftWhole (S : Type 0) (run : Run S) (out : List ℕ) : Type 0 where
  pub counted : (left_by run out).written ≡ length run.text
  -- the code's buffer keeps its length, as every slice does: so its text fits
  pub fits : length (left_by run out).out ≡ length out → length run.text ≤ length out
  pub front : length run.text ≤ length out → take (length run.text) (left_by run out).out ≡ run.text
  pub stays : length run.text ≤ length out → (i : ℕ) → length run.text ≤ i
      → get_or (left_by run out).out i 0 ≡ get_or out i 0
  pub same_length : length run.text ≤ length out → length (left_by run out).out ≡ length out
  pub state : (left_by run out).state ≡ run.state
  pub used : (left_by run out).used ≡ run.used
  pub stop : (left_by run out).stop ≡ run.stop

-- of all runs and buffers
abbrev pub LeftWholeAlways : Type 1
LeftWholeAlways = (S : Type 0) (run : Run S) (out : List ℕ) → LeftWhole S run out
