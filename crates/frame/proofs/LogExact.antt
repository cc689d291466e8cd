-- log_exact, log_chains and worked_logs. Assumes nothing.
use Rattle.std.proofs.Common.{◌≡◌, ℕ, ◌⊎◌, List, [], ◌∷◌, map, refl, ap, inl, inr, arith}
use mathlib.Core.List.Memᴰ
use mathlib.Core.List.{head-eq_of_cons-eq, Memᴰ}
use Rattle.frame.specs.State.{State}
use Rattle.frame.specs.Logs.{Call, feed, finish, Entry, stream, Chains}
use Rattle.frame.specs.LogsComputed.{call_of, entry_of, log_of, state_after}
use Rattle.frame.specs.Offers.{OffersFront, joined}
use Rattle.frame.specs.LogExact.{call_in, Answered, last_of, LogsExact, LogChains, LogsWorked}
use Rattle.frame.proofs.Logged.{not_finish, not_feed}

answered_first : (limit : ℕ) (r : State) (c : Call) → Answered limit (entry_of r c (call_of limit r c))
answered_first limit r (feed bs) = ((λ bytes e. cc), λ e. not_finish e)
answered_first limit r finish = ((λ bytes e. not_feed e), λ e. refl)

module _ (limit : ℕ) where
  calls_in : (r : State) (cs : List Call) → map call_in (log_of limit r cs) ≡ cs
  unfolding log_of
  calls_in r [] = refl
  calls_in r (c ∷ cs) = ap (λ (l : List Call). c ∷ l) (calls_in (call_of limit r c).state cs)

  all_answered : (r : State) (cs : List Call) (e : Entry) → Memᴰ e (log_of limit r cs) → Answered limit e
  unfolding log_of
  all_answered r [] e m = absurd (Memᴰ.not-nil m)
  all_answered r (c ∷ cs) e m =
      go (Memᴰ.cases_cons m) (λ k. all_answered (call_of limit r c).state cs e k)
    where
      go : (e ≡ entry_of r c (call_of limit r c)) ⊎ Memᴰ e (log_of limit (call_of limit r c).state cs)
          → (Memᴰ e (log_of limit (call_of limit r c).state cs) → Answered limit e) → Answered limit e
      go (inl q) rest = rw q (answered_first limit r c)
      go (inr k) rest = rest k

  last_left : (r : State) (cs : List Call) → state_after limit r cs ≡ last_of r (log_of limit r cs)
  unfolding log_of state_after last_of
  last_left r [] = refl
  last_left r (c ∷ cs) = last_left (call_of limit r c).state cs

pub log_exact : LogsExact
log_exact limit r calls =
    record {
      all_calls = calls_in limit r calls;
      answered = all_answered limit r calls;
      left = last_left limit r calls;
    }

pub log_chains : LogChains
unfolding log_of Chains
log_chains limit r [] = tt
log_chains limit r (c ∷ cs) = (refl, log_chains limit (call_of limit r c).state cs)

pub worked_logs : LogsWorked
unfolding joined stream OffersFront
worked_logs r =
    record {
      pieces = refl;
      consumed = refl;
      again = (((3 ∷ 4 ∷ []), refl), (((2 ∷ 3 ∷ 4 ∷ []), refl), (((4 ∷ []), refl), tt)));
      not_again = λ o. let z : ◌≡◌ {A = ℕ} 2 3 = head-eq_of_cons-eq o.1.0.1 in omega arith;
    }
