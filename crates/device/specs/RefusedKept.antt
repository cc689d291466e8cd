-- Claims: what a refusal leaves as it was, of every link and transfer, in range or not. PROTOCOL 12.3, 16.3, 16.5.
use Rattle.std.specs.Prelude.{ℕ, ◌≤◌, ◌≡◌, ◌≢◌, true, List, [], ◌∷◌}
use Rattle.base.specs.Rows.{Row, row}
use Rattle.base.specs.Keys.{among}
use Rattle.frame.specs.Wire.{frame_limit, command_of, length_of}
use Rattle.device.specs.Handling.{After}
use Rattle.device.specs.HandlingExact.{Given, leaves, Ranged}

-- ---- refused_kept: under any number but 0 the transfer and the buffer are as they were; under STATE 17, PAYLOAD 21,
-- ROOM 22 and BUSY 41 the output too
pub record Kept (g : Given) (y : After) : Type 0 where
  pub transfer : y.row.number ≢ 0 → y.transfer ≡ g.transfer
  pub buffer : y.row.number ≢ 0 → y.buffer ≡ g.buffer
  pub out : among y.row.number (17 ∷ 21 ∷ 22 ∷ 41 ∷ []) ≡ true → y.out ≡ g.out

-- of every call
abbrev pub RefusedKept : Type 0
RefusedKept =
    (limit first max : ℕ) (g : Given) (answer : Row) (body : List ℕ) → Kept g (leaves limit first max g answer body)

-- ---- no_payload: a 19 is never PAYLOAD 21 whose length field is one of a frame, 1,024 or less
abbrev pub NoPayload : Type 0
NoPayload =
    (first max : ℕ) (g : Given) → Ranged first max g → (v body : List ℕ) → command_of body ≡ 0x19
    → length_of body ≤ 1024 → (leaves frame_limit first max g (row 1 v) body).row.number ≢ 21
