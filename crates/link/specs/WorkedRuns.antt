-- Claims: worked runs of a link, by computation. PROTOCOL 9.1 to 9.13, example 11 of section 11.
use Rattle.std.specs.Prelude.{◌≡◌, true, false, List, [], ◌∷◌}
use Rattle.base.specs.Rows.{Row, row}
use Rattle.link.specs.Sending.{first_number, max_repeats, number_at}
use Rattle.link.specs.Clock.{elapsed_of, is_due}
use Rattle.link.specs.Table.{nothing_row, again_row}
use Rattle.link.specs.Calls.{fresh_of, offer_of, tick_of}
use Rattle.link.specs.Logs.{Call, offering, ticking, receiving, Entry, rows_in, numbers_used, waits_after}
use Rattle.link.specs.Logs.{none_ends, repeats_in, last_sent, due_ticks}
use Rattle.link.specs.LogsComputed.{log_of}
use Rattle.link.specs.declared.state.Link.{Link}

-- ---- worked_run: calls of a fresh link, and what each answers

-- a report, refused offers, frames that do not fit, a repeat, and the reply; an onboarding, two repeats, and the end
abbrev pub worked_calls : List Call
worked_calls =
    receiving 0x06 0 ∷ offering 0x07 0 ∷ offering 0x05 0 ∷ offering 0x09 0 ∷ offering 0x07 0
    ∷ receiving 0x06 1 ∷ receiving 0x05 0 ∷ ticking 199 ∷ ticking 200 ∷ receiving 0x06 0 ∷ receiving 0x06 0
    ∷ offering 0x09 1000 ∷ ticking 1199 ∷ ticking 1200 ∷ ticking 1399 ∷ ticking 1400 ∷ ticking 1600 ∷ ticking 1800
    ∷ receiving 0x0A 1 ∷ []

-- their answers
abbrev pub worked_rows : List Row
worked_rows =
    row 43 [] ∷ row 42 [] ∷ row 0 (0 ∷ []) ∷ row 41 [] ∷ row 42 []
    ∷ row 43 [] ∷ row 43 [] ∷ row 0 [] ∷ row 0 (1 ∷ 0x05 ∷ 0 ∷ []) ∷ row 0 (0x05 ∷ 0 ∷ []) ∷ row 43 []
    ∷ row 0 (1 ∷ []) ∷ row 0 [] ∷ row 0 (1 ∷ 0x09 ∷ 1 ∷ []) ∷ row 0 [] ∷ row 0 (1 ∷ 0x09 ∷ 1 ∷ [])
    ∷ row 0 (2 ∷ 0x09 ∷ 1 ∷ []) ∷ row 0 []
    ∷ row 43 [] ∷ []

-- the calls and answers of the run
abbrev pub worked_log : List Entry
worked_log = log_of first_number max_repeats (fresh_of first_number) worked_calls

-- an offer that is accepted without a number, which no link does
abbrev pub unnumbered : Entry
unnumbered =
    record { call = offering 0x05 0; row = row 0 []; before = fresh_of first_number; after = fresh_of first_number }

-- and the numbers run from 0 to 255 and begin again
pub record WorkedRun : Type 0 where
  pub rows : rows_in worked_log ≡ worked_rows
  pub used : numbers_used (unnumbered ∷ worked_log) ≡ 256 ∷ 0 ∷ 1 ∷ []
  pub first : number_at first_number 0 ≡ 0
  pub last : number_at first_number 255 ≡ 255
  pub round : number_at first_number 256 ≡ 0

-- ---- worked_wait: a wait without a reply, which the third due tick ends, counted in a log of ticks: PROTOCOL 9.7

-- a report sent at clock 0, and ticks
abbrev pub wait_log : List Call → List Entry
wait_log ticks =
    log_of first_number max_repeats (offer_of first_number max_repeats (fresh_of first_number) 0x05 0).state ticks

-- those at 200 and 400 are due
abbrev pub two_due : List Entry
two_due = wait_log (ticking 199 ∷ ticking 200 ∷ ticking 399 ∷ ticking 400 ∷ [])

-- and the one at 600
abbrev pub three_due : List Entry
three_due = wait_log (ticking 199 ∷ ticking 200 ∷ ticking 399 ∷ ticking 400 ∷ ticking 600 ∷ [])

-- two repeat, the last at 400, and the report waits on; the third ends the wait
pub record WorkedWait : Type 0 where
  pub lasts : none_ends two_due ≡ true
  pub waits : waits_after true two_due ≡ true
  pub due : due_ticks 0 three_due ≡ 3
  pub repeats : repeats_in three_due ≡ 2
  pub last : last_sent 0 three_due ≡ 400
  pub ends : none_ends three_due ≡ false
  pub freed : waits_after true three_due ≡ false

-- ---- example_11: example 11 of PROTOCOL 11, also of a fresh link that is offered a report and then ticked
abbrev pub report_sent : Link
report_sent = (offer_of first_number max_repeats (fresh_of first_number) 0x05 4294967200).state

-- by the two readings, and by a link
pub record Example11 : Type 0 where
  pub elapsed : elapsed_of 104 4294967200 ≡ 200
  pub due : is_due 104 4294967200 ≡ true
  pub not_due : is_due 103 4294967200 ≡ false
  pub again : (tick_of first_number max_repeats report_sent 104).row ≡ again_row 0x05 0
  pub nothing : (tick_of first_number max_repeats report_sent 103).row ≡ nothing_row
