-- Claims: the entries of a log are its calls, one by one, and these are what the contracts state. PROTOCOL 15.6 to
-- 15.9.
use Rattle.std.specs.Prelude.{ℕ, ◌≡◌, List, [], ◌∷◌, map, length}
use Rattle.link.specs.declared.state.Link.{Link}
use Rattle.transfer.specs.Calls.{Left, Both, begin_of, store_of, stop_of, cancel_of}
use Rattle.transfer.specs.Logs.{Call, beginning, storing, stopping, cancelling, Entry, transfer_after, buffer_after}
use Rattle.transfer.specs.LogsComputed.{Step, call_of, log_of}
use Rattle.transfer.specs.declared.state.Transfer.{Transfer}

-- ---- calls_stated: a call of the claims is what the contract of its function states; a 19, a 1F and a 27 leave the
-- buffer, which they do not write
pub record LinkedStep (s : Step) (y : Left Both) (buffer : List ℕ) : Type 0 where
  pub row_is : s.row ≡ y.row
  pub transfer_is : s.transfer ≡ y.state.transfer
  pub buffer_is : s.buffer ≡ buffer

-- of each call
pub record CallsStated (limit first max : ℕ) (t : Transfer) (buffer : List ℕ) : Type 0 where
  pub begins : (l : Link) (clock number : ℕ) (payload : List ℕ) (piece : ℕ) (out : List ℕ)
      → LinkedStep (call_of limit first max t buffer (beginning l clock number payload piece out))
      (begin_of limit first max t l clock number payload piece (length buffer) out) buffer
  pub cancels : (l : Link) (clock : ℕ) (out : List ℕ)
      → LinkedStep (call_of limit first max t buffer (cancelling l clock out)) (cancel_of limit first max t l clock out)
      buffer
  pub stores : (number flags : ℕ) (payload out : List ℕ)
      → call_of limit first max t buffer (storing number flags payload out)
      ≡ record {
        row = (store_of limit t number flags payload buffer out).row;
        transfer = (store_of limit t number flags payload buffer out).state.transfer;
        buffer = (store_of limit t number flags payload buffer out).state.buffer;
      }
  pub stops : (number : ℕ) (payload out : List ℕ)
      → call_of limit first max t buffer (stopping number payload out)
      ≡ record {
        row = (stop_of limit t number payload out).row;
        transfer = (stop_of limit t number payload out).state;
        buffer = buffer;
      }

-- of every transfer and buffer
abbrev pub CallsStatedAlways : Type 0
CallsStatedAlways = (limit first max : ℕ) (t : Transfer) (buffer : List ℕ) → CallsStated limit first max t buffer

-- the call of an entry
abbrev pub call_in : Entry → Call
call_in e = e.call

-- each call is of the transfer and the buffer that the previous one left
unfoldable pub Chains : ℕ → ℕ → ℕ → Transfer → List ℕ → List Entry → Type 0
Chains limit first max t buffer [] = Unit {0}
Chains limit first max t buffer (e ∷ es) =
    (record { row = e.row; transfer = e.transfer; buffer = e.buffer } ≡ call_of limit first max t buffer e.call)
    × Chains limit first max e.transfer e.buffer es

-- ---- log_exact: the log has all calls, in order, each answered by its definition
pub record LogExact (limit first max : ℕ) (t : Transfer) (buffer : List ℕ) (calls : List Call) : Type 0 where
  pub all_calls : map call_in (log_of limit first max t buffer calls) ≡ calls
  pub chains : Chains limit first max t buffer (log_of limit first max t buffer calls)

-- and what is after a log is what its last call left
pub record LogsExact : Type 0 where
  pub logs : (limit first max : ℕ) (t : Transfer) (buffer : List ℕ) (calls : List Call)
      → LogExact limit first max t buffer calls
  pub none_after : (t : Transfer) (buffer : List ℕ) → (transfer_after t [] ≡ t) × (buffer_after buffer [] ≡ buffer)
  pub last_after : (t : Transfer) (buffer : List ℕ) (e : Entry) (es : List Entry)
      → (transfer_after t (e ∷ es) ≡ transfer_after e.transfer es)
      × (buffer_after buffer (e ∷ es) ≡ buffer_after e.buffer es)
