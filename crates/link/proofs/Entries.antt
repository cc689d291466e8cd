-- The entries of a log. Assumes nothing.
use Rattle.std.proofs.Common.{◌≡◌, ℕ, ◌⊎◌, List, [], ◌∷◌, map, refl, ap, inl, inr}
use mathlib.Core.List.Memᴰ
use mathlib.Core.List.{Memᴰ}
use Rattle.link.specs.Logs.{Call, offering, ticking, receiving, Entry}
use Rattle.link.specs.LogsComputed.{call_of, log_of}
use Rattle.link.specs.Entries.{CallsStated, call_in, Answered, Chains, LogsExact}
use Rattle.link.specs.declared.state.Link.{Link}
use Rattle.link.proofs.Moves.{entry_of}

pub calls_stated : CallsStated
calls_stated =
    record {
      offers = λ first max l command clock. refl;
      ticks = λ first max l clock. refl;
      receives = λ first max l command number. refl;
      offered = λ l command clock. refl;
      ticked = λ l clock. refl;
      received = λ l command number. refl;
    }

module _ (first max : ℕ) where
  answered_first : (l : Link) (c : Call) → Answered first max (entry_of first max l c) c
  answered_first l (offering command clock) = refl
  answered_first l (ticking clock) = refl
  answered_first l (receiving command number) = refl

  calls_in : (l : Link) (cs : List Call) → map call_in (log_of first max l cs) ≡ cs
  unfolding log_of
  calls_in l [] = refl
  calls_in l (c ∷ cs) = ap (λ (k : List Call). c ∷ k) (calls_in (call_of first max l c).state cs)

  all_answered : (l : Link) (cs : List Call) (e : Entry)
      → Memᴰ e (log_of first max l cs) → Answered first max e e.call
  unfolding log_of
  all_answered l [] e m = absurd (Memᴰ.not-nil m)
  all_answered l (c ∷ cs) e m =
      go (Memᴰ.cases_cons m) (λ k. all_answered (call_of first max l c).state cs e k)
    where
      go : (e ≡ entry_of first max l c) ⊎ Memᴰ e (log_of first max (call_of first max l c).state cs)
          → (Memᴰ e (log_of first max (call_of first max l c).state cs) → Answered first max e e.call)
          → Answered first max e e.call
      go (inl q) rest = rw q (answered_first l c)
      go (inr k) rest = rest k

  chained : (l : Link) (cs : List Call) → Chains l (log_of first max l cs)
  unfolding log_of Chains
  chained l [] = tt
  chained l (c ∷ cs) = (refl, chained (call_of first max l c).state cs)

pub log_exact : LogsExact
log_exact first max l calls =
    record {
      all_calls = calls_in first max l calls;
      answered = all_answered first max l calls;
      chains = chained first max l calls;
    }
