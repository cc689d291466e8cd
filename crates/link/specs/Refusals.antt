-- Claims: a refused call leaves the link as it was, and STATE is given exactly where a field is out of range.
-- PROTOCOL 9.10 to 9.12, 9.15, 12.3.
use Rattle.std.specs.Prelude.{◌≡◌, ℕ, false, ◌≢◌, [], ◌∷◌}
use Rattle.base.specs.Rows.{row}
use Rattle.link.specs.Calls.{in_range}
use Rattle.link.specs.Logs.{Call}
use Rattle.link.specs.LogsComputed.{call_of}
use Rattle.link.specs.declared.state.Link.{Link}

-- ---- refused_unchanged: of every link, in range or not, and every call: PROTOCOL 9.10 to 9.12, 9.15, 12.3
pub record Refused (first max : ℕ) (l : Link) (c : Call) : Type 0 where
  pub unchanged : (call_of first max l c).row.number ≢ 0 → (call_of first max l c).state ≡ l
  pub state_out : (call_of first max l c).row.number ≡ 17 → in_range first max l ≡ false
  pub out_state : in_range first max l ≡ false → (call_of first max l c).row ≡ row 17 (0 ∷ [])

-- of all of them
abbrev pub RefusedUnchanged : Type 0
RefusedUnchanged = (first max : ℕ) (l : Link) (c : Call) → Refused first max l c
