-- Model: a loop over the caller's data that makes text, and what a call of it leaves, held to the buffer by left_whole.
-- PROTOCOL 10.10.
use Rattle.std.specs.Prelude.{ℕ, ◌+◌, List, [], ◌++◌, length}
use Rattle.base.specs.Outcomes.{onto}

-- what a loop does: the state that it leaves, the bytes that it used, their text, and the number of its stop
pub record Run (S : Type 0) : Type 0 where
  pub state : S
  pub used : ℕ
  pub text : List ℕ
  pub stop : ℕ

-- it does nothing more
abbrev pub stopped : {S : Type 0} → S → ℕ → Run S
stopped s number = record { state = s; used = 0; text = []; stop = number }

-- a step used bytes and made text, and the loop continues
abbrev pub onward : {S : Type 0} → ℕ → List ℕ → Run S → Run S
onward count text run =
    record { state = run.state; used = count + run.used; text = text ++ run.text; stop = run.stop }

-- what a call of the loop returns, and the buffer after it
pub record Left (S : Type 0) : Type 0 where
  pub state : S
  pub used : ℕ
  pub written : ℕ
  pub stop : ℕ
  pub out : List ℕ

-- by the run: the text is at the front of the buffer, whose rest stays
abbrev pub left_by : {S : Type 0} → Run S → List ℕ → Left S
left_by run out =
    record {
      state = run.state;
      used = run.used;
      written = length run.text;
      stop = run.stop;
      out = onto run.text out;
    }
