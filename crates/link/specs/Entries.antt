-- Claims: the entries of a log are its calls, one by one, and these are what the contracts state. PROTOCOL 9.13, 12.2.
use Rattle.std.specs.Prelude.{◌≡◌, ℕ, List, [], ◌∷◌, map}
use mathlib.Core.List.{Memᴰ}
use Rattle.base.specs.Outcomes.{outcome}
use Rattle.link.specs.Sending.{first_number, max_repeats}
use Rattle.link.specs.Calls.{offer_of, tick_of, receive_of, offer, tick, receive}
use Rattle.link.specs.Logs.{Call, offering, ticking, receiving, Entry}
use Rattle.link.specs.LogsComputed.{call_of, log_of}
use Rattle.link.specs.declared.state.Link.{Link}

-- ---- calls_stated: a call of the claims is what the contract of its function states, with the code's own figures
pub record CallsStated : Type 0 where
  pub offers : (first max : ℕ) (l : Link) (command clock : ℕ)
      → call_of first max l (offering command clock) ≡ offer_of first max l command clock
  pub ticks : (first max : ℕ) (l : Link) (clock : ℕ) → call_of first max l (ticking clock) ≡ tick_of first max l clock
  pub receives : (first max : ℕ) (l : Link) (command number : ℕ)
      → call_of first max l (receiving command number) ≡ receive_of first max l command number
  pub offered : (l : Link) (command clock : ℕ)
      → call_of first_number max_repeats l (offering command clock) ≡ offer l command clock
  pub ticked : (l : Link) (clock : ℕ) → call_of first_number max_repeats l (ticking clock) ≡ tick l clock
  pub received : (l : Link) (command number : ℕ)
      → call_of first_number max_repeats l (receiving command number) ≡ receive l command number

-- the call of an entry
abbrev pub call_in : Entry → Call
call_in e = e.call

-- an entry's answer and the link after it are what the call's contract states of the link before it
abbrev pub Answered : ℕ → ℕ → Entry → Call → Type 0
Answered first max e (offering command clock) =
    outcome e.row e.after ≡ offer_of first max e.before command clock
Answered first max e (ticking clock) = outcome e.row e.after ≡ tick_of first max e.before clock
Answered first max e (receiving command number) =
    outcome e.row e.after ≡ receive_of first max e.before command number

-- each call is of the link that the previous one left, the first of l
unfoldable pub Chains : Link → List Entry → Type 0
Chains l [] = Unit {0}
Chains l (e ∷ es) = (e.before ≡ l) × Chains e.after es

-- ---- log_exact: the log has all calls, in order, each answered by its definition, of the link that the previous
-- one left
pub record LogExact (first max : ℕ) (l : Link) (calls : List Call) : Type 0 where
  pub all_calls : map call_in (log_of first max l calls) ≡ calls
  pub answered : (e : Entry) → Memᴰ e (log_of first max l calls) → Answered first max e e.call
  pub chains : Chains l (log_of first max l calls)

-- of every link and all calls
abbrev pub LogsExact : Type 0
LogsExact = (first max : ℕ) (l : Link) (calls : List Call) → LogExact first max l calls
