-- Claims: a call that met ROOM writes into an output of the size that it said. PROTOCOL 6.12, 15.10, 15.11.
use Rattle.std.specs.Prelude.{ℕ, List}
use Rattle.base.specs.Asking.{AsksOnce}
use Rattle.link.specs.declared.state.Link.{Link}
use Rattle.transfer.specs.Calls.{begin_of, store_of, stop_of, cancel_of}
use Rattle.transfer.specs.declared.state.Transfer.{Transfer}

-- ---- calls_asked: each call, with the same transfer, link, clock, number, flags, payload and buffer; of a pair it is
-- the size of both frames
pub record CallsAsked (limit first max : ℕ) (t : Transfer) (l : Link) (clock number : ℕ) (payload : List ℕ) : Type 0
  where
    pub begins : (piece room : ℕ)
        → AsksOnce (λ out. (begin_of limit first max t l clock number payload piece room out).row)
    pub stores : (flags : ℕ) (buffer : List ℕ)
        → AsksOnce (λ out. (store_of limit t number flags payload buffer out).row)
    pub stops : AsksOnce (λ out. (stop_of limit t number payload out).row)
    pub cancels : AsksOnce (λ out. (cancel_of limit first max t l clock out).row)

-- of all of them, in range or not
abbrev pub AllAsked : Type 0
AllAsked =
    (limit first max : ℕ) (t : Transfer) (l : Link) (clock number : ℕ) (payload : List ℕ)
    → CallsAsked limit first max t l clock number payload
