-- Claims: PAYLOAD 21 comes only of a payload that is longer than any frame's. PROTOCOL 15.10.
use Rattle.std.specs.Prelude.{ℕ, ◌≤◌, ◌≢◌, List, length}
use Rattle.frame.specs.Wire.{frame_limit}
use Rattle.link.specs.declared.state.Link.{Link}
use Rattle.transfer.specs.Calls.{begin_of, store_of, stop_of, cancel_of}
use Rattle.transfer.specs.declared.state.Transfer.{Transfer}

-- ---- payload_never: at the code's limit, of every transfer and link, in range or not. A frame has at most 1,019 bytes
-- of payload, and only a 19 with more than these can be PAYLOAD
pub record PayloadNever (first max : ℕ) (t : Transfer) (l : Link) (clock number : ℕ) (payload out : List ℕ) : Type 0
  where
    pub begins : (piece room : ℕ) → length payload ≤ 1019
        → (begin_of frame_limit first max t l clock number payload piece room out).row.number ≢ 21
    pub stores : (flags : ℕ) (buffer : List ℕ)
        → (store_of frame_limit t number flags payload buffer out).row.number ≢ 21
    pub stops : (stop_of frame_limit t number payload out).row.number ≢ 21
    pub cancels : (cancel_of frame_limit first max t l clock out).row.number ≢ 21

-- of all of them
abbrev pub NeverPayload : Type 0
NeverPayload =
    (first max : ℕ) (t : Transfer) (l : Link) (clock number : ℕ) (payload out : List ℕ)
    → PayloadNever first max t l clock number payload out
