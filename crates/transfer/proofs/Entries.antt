-- The entries of a log. Assumes nothing.
use Prim.Native.Nat.{ℕ}
use mathlib.Core.Path.{◌≡◌, refl, ap}
use mathlib.Core.List.{List, [], ◌∷◌, map}
use Rattle.transfer.specs.Logs.{Call, transfer_after, buffer_after}
use Rattle.transfer.specs.LogsComputed.{call_of, log_of}
use Rattle.transfer.specs.Entries.{CallsStatedAlways, call_in, Chains, LogsExact}
use Rattle.transfer.specs.declared.state.Transfer.{Transfer}

pub calls_stated : CallsStatedAlways
calls_stated limit first max t buffer =
    record {
      begins = λ l clock number payload piece out. record { row_is = refl; transfer_is = refl; buffer_is = refl };
      cancels = λ l clock out. record { row_is = refl; transfer_is = refl; buffer_is = refl };
      stores = λ number flags payload out. refl;
      stops = λ number payload out. refl;
    }

module _ (limit first max : ℕ) where
  calls_in : (t : Transfer) (buffer : List ℕ) (cs : List Call) → map call_in (log_of limit first max t buffer cs) ≡ cs
  unfolding log_of
  calls_in t buffer [] = refl
  calls_in t buffer (c ∷ cs) =
      ap (λ (k : List Call). c ∷ k)
      (calls_in (call_of limit first max t buffer c).transfer (call_of limit first max t buffer c).buffer cs)

  chained : (t : Transfer) (buffer : List ℕ) (cs : List Call)
      → Chains limit first max t buffer (log_of limit first max t buffer cs)
  unfolding log_of Chains
  chained t buffer [] = tt
  chained t buffer (c ∷ cs) =
      (refl, chained (call_of limit first max t buffer c).transfer (call_of limit first max t buffer c).buffer cs)

pub log_exact : LogsExact
unfolding transfer_after buffer_after
log_exact =
    record {
      logs = λ limit first max t buffer calls.
          record {
            all_calls = calls_in limit first max t buffer calls;
            chains = chained limit first max t buffer calls;
          };
      none_after = λ t buffer. (refl, refl);
      last_after = λ t buffer e es. (refl, refl);
    }
