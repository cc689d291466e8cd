-- Model: the list of calls that `Calls` gives, held to `Logs` by log_exact and transfer_history. PROTOCOL 15.6 to 15.9.
use Rattle.std.specs.Prelude.{ℕ, List, [], ◌∷◌, length}
use Rattle.base.specs.Rows.{Row}
use Rattle.transfer.specs.Calls.{Left, Both, begin_of, store_of, stop_of, cancel_of}
use Rattle.transfer.specs.Logs.{Call, beginning, storing, stopping, cancelling, Entry}
use Rattle.transfer.specs.declared.state.Transfer.{Transfer}

-- the transfer and the buffer after a call, with its row
pub record Step : Type 0 where
  pub row : Row
  pub transfer : Transfer
  pub buffer : List ℕ

-- of a call that has a link and leaves the buffer
abbrev pub linked_step : Left Both → List ℕ → Step
linked_step y buffer = record { row = y.row; transfer = y.state.transfer; buffer = buffer }

-- a call, by the definition that its contract states; the caller's buffer is the same for all
abbrev pub call_of : ℕ → ℕ → ℕ → Transfer → List ℕ → Call → Step
call_of limit first max t buffer (beginning l clock number payload piece out) =
    linked_step (begin_of limit first max t l clock number payload piece (length buffer) out) buffer
call_of limit first max t buffer (storing number flags payload out) =
    record {
      row = (store_of limit t number flags payload buffer out).row;
      transfer = (store_of limit t number flags payload buffer out).state.transfer;
      buffer = (store_of limit t number flags payload buffer out).state.buffer;
    }
call_of limit first max t buffer (stopping number payload out) =
    record {
      row = (stop_of limit t number payload out).row;
      transfer = (stop_of limit t number payload out).state;
      buffer = buffer;
    }
call_of limit first max t buffer (cancelling l clock out) = linked_step (cancel_of limit first max t l clock out) buffer

-- a call as an entry
abbrev pub entry_of : Call → Step → Entry
entry_of c s = record { call = c; row = s.row; transfer = s.transfer; buffer = s.buffer }

-- all calls, refused ones included, each of the transfer and the buffer that the previous one left
unfoldable pub log_of : ℕ → ℕ → ℕ → Transfer → List ℕ → List Call → List Entry
log_of limit first max t buffer [] = []
log_of limit first max t buffer (c ∷ cs) =
    entry_of c (call_of limit first max t buffer c)
    ∷ log_of limit first max (call_of limit first max t buffer c).transfer (call_of limit first max t buffer c).buffer
    cs
