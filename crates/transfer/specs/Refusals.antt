-- Claims: a refused call leaves all as it was; after it the output has a 12 with code 3, or nothing. PROTOCOL 15.11,
-- 12.3.
use Rattle.std.specs.Prelude.{ℕ, ◌≡◌, ◌≢◌, true, false, List, [], ◌∷◌, length}
use Rattle.base.specs.Keys.{among}
use Rattle.base.specs.Outcomes.{onto}
use Rattle.frame.specs.Wire.{frame_of}
use Rattle.link.specs.declared.state.Link.{Link}
use Rattle.transfer.specs.Calls.{Left, both, held, begin_of, store_of, stop_of, cancel_of}
use Rattle.transfer.specs.declared.state.Transfer.{Transfer}

-- ---- refused_kept: of every call, transfer, link, buffer and output, in range or not

-- STATE, PAYLOAD, ROOM, BUSY
abbrev pub silent : List ℕ
silent = 17 ∷ 21 ∷ 22 ∷ 41 ∷ []

-- the 12 that a refusal writes
abbrev pub twelve : ℕ → List ℕ
twelve number = frame_of 0x12 number 0 (3 ∷ [])

-- what a call left, of what was held before it
pub record Kept (S : Type 0) (y : Left S) (before : S) (number : ℕ) (out : List ℕ) : Type 0 where
  pub unchanged : y.row.number ≢ 0 → y.state ≡ before
  pub nothing_written : among y.row.number silent ≡ true → y.out ≡ out
  pub rejected : y.row.number ≢ 0 → among y.row.number silent ≡ false
      → (y.row.values ≡ length (twelve number) ∷ []) × (y.out ≡ onto (twelve number) out)

-- of the four calls; a cancel never writes a 12
pub record RefusedKept (limit first max : ℕ) (t : Transfer) (l : Link) (clock number : ℕ) (payload out : List ℕ) : Type
    0
  where
    pub begins : (piece room : ℕ)
        → Kept _ (begin_of limit first max t l clock number payload piece room out) (both t l) number out
    pub stores : (flags : ℕ) (buffer : List ℕ)
        → Kept _ (store_of limit t number flags payload buffer out) (held t buffer) number out
    pub stops : Kept _ (stop_of limit t number payload out) t number out
    pub cancels : Kept _ (cancel_of limit first max t l clock out) (both t l) 0 out
    pub never_12 : (cancel_of limit first max t l clock out).row.number ≢ 0
        → among (cancel_of limit first max t l clock out).row.number silent ≡ true

-- of all of them
abbrev pub RefusedAlways : Type 0
RefusedAlways =
    (limit first max : ℕ) (t : Transfer) (l : Link) (clock number : ℕ) (payload out : List ℕ)
    → RefusedKept limit first max t l clock number payload out
