-- Claims: the figures of the code's own link, in literal numbers, over every list of calls. PROTOCOL 9.2, 9.6, 9.7.
use Rattle.std.specs.Prelude.{◌≡◌, ℕ, ◌+◌, ◌%◌, ◌<◌, ◌≤◌, Bool, true, false, cond, List, [], ◌∷◌, ◌++◌, length, nat_lt}
use Rattle.std.specs.Prelude.{slice_index}
use Rattle.base.specs.Rows.{Row, row}
use Rattle.link.specs.Sending.{first_number, max_repeats}
use Rattle.link.specs.Clock.{is_due}
use Rattle.link.specs.Calls.{fresh_of}
use Rattle.link.specs.Logs.{Call, ticking, Entry, command_in, clock_in, accepted, number_in, numbers_used, none_ends}
use Rattle.link.specs.Logs.{repeats_in, last_sent, due_ticks}
use Rattle.link.specs.LogsComputed.{log_of}

-- ---- history_figures: the numbers used, and what the ticks of a wait answer, by the due ticks before them

-- the first two due ticks send again, the third gives up, and any other has nothing to do
abbrev pub tick_row : Bool → ℕ → ℕ → ℕ → Row
tick_row due before command number =
    cond due (cond (nat_lt before 2) (row 0 (1 ∷ command ∷ number ∷ [])) (row 0 (2 ∷ command ∷ number ∷ []))) (row 0 [])

-- `a` is an accepted offer, `during` the entries after it
pub record Figures (log : List Entry) : Type 0 where
  -- the k-th accepted command, k from 0, is sent under k modulo 256: PROTOCOL 9.2
  pub numbers : (k : ℕ) → k < length (numbers_used log) → slice_index (numbers_used log) k ≡ k % 256
  -- the answer to each tick of a wait: PROTOCOL 9.6 to 9.8
  pub ticks : (before : List Entry) (a : Entry) (during : List Entry) (e : Entry) (after : List Entry) (clock : ℕ)
      → log ≡ before ++ (a ∷ (during ++ (e ∷ after)))
      → accepted a ≡ true → none_ends during ≡ true → e.call ≡ ticking clock
      → e.row
      ≡ tick_row (is_due clock (last_sent (clock_in a.call) during)) (due_ticks (clock_in a.call) during)
      (command_in a.call) (number_in a)
  -- so a wait has at most three sendings, the first one and its repeats: PROTOCOL 9.6
  pub sendings : (before : List Entry) (a : Entry) (during after : List Entry) → log ≡ before ++ (a ∷ (during ++ after))
      → accepted a ≡ true → none_ends during ≡ true → 1 + repeats_in during ≤ 3
  -- and has ended where three ticks were due: PROTOCOL 9.7
  pub ends : (before : List Entry) (a : Entry) (during after : List Entry) → log ≡ before ++ (a ∷ (during ++ after))
      → accepted a ≡ true → 3 ≤ due_ticks (clock_in a.call) during → none_ends during ≡ false

-- of every list of calls of a fresh link
abbrev pub HistoryFigures : Type 0
HistoryFigures = (calls : List Call) → Figures (log_of first_number max_repeats (fresh_of first_number) calls)
