-- Claims: a written frame is read back. PROTOCOL 6.8.
use Rattle.std.specs.Prelude.{◌≡◌, ℕ, ◌+◌, ◌≤◌, List, [], ◌∷◌, ◌++◌, length}
use mathlib.Core.List.{Memᴰ}
use Rattle.base.specs.Rows.{row}
use Rattle.frame.specs.Calls.{fresh_of}
use Rattle.frame.specs.Frames.{front_body}
use Rattle.frame.specs.Logs.{Call, Entry, consumed_in, stream, delivered}
use Rattle.frame.specs.LogsComputed.{log_of, state_after}
use Rattle.frame.specs.Wire.{wire, command_of, number_of, flags_of, payload_of, body_of, widest}

-- ---- round_trip: of the calls that consumed a frame, in any pieces, the last one that consumed a byte is answered
-- FRAME, and the four values are read back
pub record ReadBack (start command number flags : ℕ) (payload : List ℕ) (log : List Entry) : Type 0 where
  pub early : List Entry
  pub last : Entry
  pub late : List Entry
  pub parts : log ≡ early ++ last ∷ late
  pub nothing_later : stream late ≡ []
  pub some_consumed : 1 ≤ consumed_in last
  pub frame :
      last.row
      ≡ row 1 (consumed_in last ∷ start ∷ (start + length (wire (body_of command number flags payload))) ∷ [])
  pub body : front_body last.after.body ≡ body_of command number flags payload
  pub command_is : command_of last.after.body ≡ command
  pub number_is : number_of last.after.body ≡ number
  pub flags_are : flags_of last.after.body ≡ flags
  pub payload_is : payload_of last.after.body ≡ payload

-- after all earlier calls of a fresh reader, of all calls that consume the frame
abbrev pub RoundTrip : Type 0
RoundTrip =
    (limit : ℕ) → limit ≤ widest → (command number flags : ℕ) (payload : List ℕ) → length payload + 5 ≤ limit
    → (earlier later : List Call)
    → stream (log_of limit (state_after limit (fresh_of limit) earlier) later)
    ≡ wire (body_of command number flags payload)
    → ReadBack (length (stream (log_of limit (fresh_of limit) earlier))) command number flags payload
    (log_of limit (state_after limit (fresh_of limit) earlier) later)

-- ---- read_anywhere: a frame anywhere in the stream, with other bytes before and after it in the same calls, is
-- delivered
abbrev pub ReadAnywhere : Type 0
ReadAnywhere =
    (limit : ℕ) → limit ≤ widest → (command number flags : ℕ) (payload : List ℕ) → length payload + 5 ≤ limit
    → (calls : List Call) (before after : List ℕ)
    → stream (log_of limit (fresh_of limit) calls) ≡ before ++ (wire (body_of command number flags payload) ++ after)
    → Memᴰ
    (record {
      start = length before;
      end = length before + length (wire (body_of command number flags payload));
      body = body_of command number flags payload;
    })
    (delivered (log_of limit (fresh_of limit) calls))
