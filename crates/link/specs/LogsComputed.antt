-- Model: the list of calls that `Calls` gives, held to `Logs` by log_exact and link_history. PROTOCOL 9.1 to 9.13.
use Rattle.std.specs.Prelude.{ℕ, List, [], ◌∷◌}
use Rattle.base.specs.Outcomes.{Outcome}
use Rattle.link.specs.Calls.{offer_of, tick_of, receive_of}
use Rattle.link.specs.Logs.{Call, offering, ticking, receiving, Entry}
use Rattle.link.specs.declared.state.Link.{Link}

-- what a call answers and leaves, by the definition that its contract states
abbrev pub call_of : ℕ → ℕ → Link → Call → Outcome Link
call_of first max l (offering command clock) = offer_of first max l command clock
call_of first max l (ticking clock) = tick_of first max l clock
call_of first max l (receiving command number) = receive_of first max l command number

-- all calls, refused ones included, each of the link that the previous one left
unfoldable pub log_of : ℕ → ℕ → Link → List Call → List Entry
log_of first max l [] = []
log_of first max l (c ∷ cs) =
    record { call = c; row = (call_of first max l c).row; before = l; after = (call_of first max l c).state }
    ∷ log_of first max (call_of first max l c).state cs
