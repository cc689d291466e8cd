-- Claims: the link's history holds of the calls that go through this crate. PROTOCOL 9.1 to 9.15, 15.6, 15.9, 15.13.
use Rattle.std.specs.Prelude.{ℕ, ◌≤◌, ◌≡◌, ◌≢◌, cond, ◌||◌, List, [], ◌∷◌, ◌++◌, map, eqb, length, take}
use Rattle.base.specs.Rows.{Row}
use Rattle.base.specs.Outcomes.{written_in}
use Rattle.frame.specs.Wire.{frame_of}
use Rattle.link.specs.Calls.{fresh_of}
use Rattle.link.specs.History.{History}
use Rattle.link.specs.Logs as link
use Rattle.link.specs.LogsComputed as answer
use Rattle.link.specs.Table.{accepted_row}
use Rattle.link.specs.declared.state.Link.{Link}
use Rattle.transfer.specs.Payloads.{code_in}
use Rattle.transfer.specs.Writing.{ready_payload}
use Rattle.transfer.specs.Calls.{Left, Both, Held, begin_of, store_of, stop_of, cancel_of}
use Rattle.transfer.specs.declared.state.Transfer.{Transfer}
use Rattle.transfer.specs.Transfers.{absent}

-- ---- calls of a link and of a transfer, in any order

-- what the caller holds
pub record Box : Type 0 where
  pub transfer : Transfer
  pub link : Link
  pub buffer : List ℕ

-- shorthand for it
abbrev pub box : Transfer → Link → List ℕ → Box
box t l buffer = record { transfer = t; link = l; buffer = buffer }

-- a call of the link itself, or one of the four of a transfer; each is given what the previous one left
pub data BothCall : Type 0 where
  linking : link.Call → BothCall
  beginning : ℕ → ℕ → List ℕ → ℕ → List ℕ → BothCall  -- clock, number, payload, piece size, output
  storing : ℕ → ℕ → List ℕ → List ℕ → BothCall  -- number, flags, payload, output
  stopping : ℕ → List ℕ → List ℕ → BothCall  -- number, payload, output
  cancelling : ℕ → List ℕ → BothCall  -- clock, output

-- a box that is left instead of what a call returned
abbrev pub leaving : {S : Type 0} → Left S → Box → Left Box
leaving y b = record { row = y.row; state = b; out = y.out }

-- a call, by the definitions that the contracts state; the link's own calls write nothing
abbrev pub both_of : ℕ → ℕ → ℕ → Box → BothCall → Left Box
both_of limit first max b (linking c) =
    record {
      row = (answer.call_of first max b.link c).row;
      state = box b.transfer (answer.call_of first max b.link c).state b.buffer;
      out = [];
    }
both_of limit first max b (beginning clock number payload piece out) =
    let y = begin_of limit first max b.transfer b.link clock number payload piece (length b.buffer) out in
    leaving y (box y.state.transfer y.state.link b.buffer)
both_of limit first max b (storing number flags payload out) =
    let y = store_of limit b.transfer number flags payload b.buffer out in
    leaving y (box y.state.transfer b.link y.state.buffer)
both_of limit first max b (stopping number payload out) =
    let y = stop_of limit b.transfer number payload out in
    leaving y (box y.state b.link b.buffer)
both_of limit first max b (cancelling clock out) =
    let y = cancel_of limit first max b.transfer b.link clock out in
    leaving y (box y.state.transfer y.state.link b.buffer)

-- a call, the box before it, and what it left
pub record BothEntry : Type 0 where
  pub call : BothCall
  pub before : Box
  pub after : Left Box

-- all calls, refused ones included
unfoldable pub both_log : ℕ → ℕ → ℕ → Box → List BothCall → List BothEntry
both_log limit first max b [] = []
both_log limit first max b (c ∷ cs) =
    record { call = c; before = b; after = both_of limit first max b c }
    ∷ both_log limit first max (both_of limit first max b c).state cs

-- the link after a log
unfoldable pub link_left : Link → List BothEntry → Link
link_left l [] = l
link_left l (e ∷ es) = link_left e.after.state.link es

-- ---- what the link was asked, by calls and rows alone

-- a command was offered: it was accepted, or BUSY; after any other refusal it was not
abbrev pub offered_in : ℕ → ℕ → Row → List link.Call
offered_in command clock r =
    cond (eqb r.number 0 || eqb r.number 41) (link.offering command clock ∷ []) []

-- the link's call of a call, if there is one
abbrev pub link_calls_in : BothCall → Row → List link.Call
link_calls_in (linking c) r = c ∷ []
link_calls_in (beginning clock number payload piece out) r = offered_in 0x1B clock r
link_calls_in (storing number flags payload out) r = []
link_calls_in (stopping number payload out) r = []
link_calls_in (cancelling clock out) r = offered_in 0x27 clock r

-- those of a log
unfoldable pub link_calls : List BothEntry → List link.Call
link_calls [] = []
link_calls (e ∷ es) = link_calls_in e.call e.after.row ++ link_calls es

-- ---- what it answered

-- its own row; that it accepted under the number n; or BUSY
abbrev pub link_row : ℕ → BothCall → Row → Row
link_row n (linking c) r = r
link_row n (beginning clock number payload piece out) r = cond (eqb r.number 0) (accepted_row n) r
link_row n (storing number flags payload out) r = r
link_row n (stopping number payload out) r = r
link_row n (cancelling clock out) r = cond (eqb r.number 0) (accepted_row n) r

-- the link's entry of an entry, if there is one; n is the next number of the link
abbrev pub link_entries_in : BothEntry → List link.Entry
link_entries_in e =
    map (λ c. record {
      call = c;
      row = link_row e.before.link.next e.call e.after.row;
      before = e.before.link;
      after = e.after.state.link;
    }) (link_calls_in e.call e.after.row)

-- those of a log
unfoldable pub link_entries : List BothEntry → List link.Entry
link_entries [] = []
link_entries (e ∷ es) = link_entries_in e ++ link_entries es

-- the link after a log of its own
unfoldable pub last_link : Link → List link.Entry → Link
last_link l [] = l
last_link l (e ∷ es) = last_link e.after es

-- the bytes that a call wrote
abbrev pub written_by : Left Box → List ℕ
written_by y = take (written_in y.row) y.out

-- an accepted 19 wrote a 1A and, under the number n, a 1B; an accepted cancel wrote a 27 under it
abbrev pub WrittenUnder : ℕ → BothCall → Left Box → Type 0
WrittenUnder n (linking c) y = Unit {0}
WrittenUnder n (beginning clock number payload piece out) y =
    y.row.number ≡ 0
    → written_by y ≡ frame_of 0x1A number 0 [] ++ frame_of 0x1B n 0 (ready_payload piece (code_in payload))
WrittenUnder n (storing number flags payload out) y = Unit {0}
WrittenUnder n (stopping number payload out) y = Unit {0}
WrittenUnder n (cancelling clock out) y = y.row.number ≡ 0 → written_by y ≡ frame_of 0x27 n 0 []

-- ---- link_follows: what holds of a log of a fresh transfer, a fresh link and any buffer
pub record LinkFollows (first max : ℕ) (log : List BothEntry) : Type 0 where
  -- the link's own log of what it was asked has these answers, and these links before and after each
  pub same : answer.log_of first max (fresh_of first) (link_calls log) ≡ link_entries log
  -- so the link's history holds: numbers, waits, repeats
  pub history : History first max (link_entries log)
  -- the link is left as by its own calls
  pub left : link_left (fresh_of first) log ≡ last_link (fresh_of first) (link_entries log)
  -- what is accepted is written under the number that the link's entry of it returns
  pub numbered : (before : List BothEntry) (e : BothEntry) (after : List BothEntry)
      → log ≡ before ++ (e ∷ after) → WrittenUnder e.before.link.next e.call e.after
  -- no call is STATE
  pub never_state : (before : List BothEntry) (e : BothEntry) (after : List BothEntry)
      → log ≡ before ++ (e ∷ after) → e.after.row.number ≢ 17

-- of every list of calls; any limit, first number up to 255 and bound of repeats
abbrev pub LinksFollow : Type 0
LinksFollow =
    (limit first max : ℕ) → first ≤ 255 → (buffer : List ℕ) (calls : List BothCall)
    → LinkFollows first max (both_log limit first max (box absent (fresh_of first) buffer) calls)

-- ---- both_log_exact: the log has all calls, in order, each of the box that the previous one left

-- the call of an entry
abbrev pub both_call_in : BothEntry → BothCall
both_call_in e = e.call

-- each call is of what the previous one left
unfoldable pub BothChains : ℕ → ℕ → ℕ → Box → List BothEntry → Type 0
BothChains limit first max b [] = Unit {0}
BothChains limit first max b (e ∷ es) =
    (e.before ≡ b) × (e.after ≡ both_of limit first max b e.call)
    × BothChains limit first max e.after.state es

-- of a list of calls
pub record BothExact (limit first max : ℕ) (b : Box) (calls : List BothCall) : Type 0 where
  pub all_calls : map both_call_in (both_log limit first max b calls) ≡ calls
  pub chains : BothChains limit first max b (both_log limit first max b calls)

-- of every one
abbrev pub BothLogExact : Type 0
BothLogExact = (limit first max : ℕ) (b : Box) (calls : List BothCall) → BothExact limit first max b calls

-- ---- both_stated: a call of these logs is what the contracts state
pub record BothStated (limit first max : ℕ) (b : Box) : Type 0 where
  pub begins : (clock number : ℕ) (payload : List ℕ) (piece : ℕ) (out : List ℕ) (y : Left Both)
      → begin_of limit first max b.transfer b.link clock number payload piece (length b.buffer) out ≡ y
      → both_of limit first max b (beginning clock number payload piece out)
      ≡ leaving y (box y.state.transfer y.state.link b.buffer)
  pub stores : (number flags : ℕ) (payload out : List ℕ) (y : Left Held)
      → store_of limit b.transfer number flags payload b.buffer out ≡ y
      → both_of limit first max b (storing number flags payload out)
      ≡ leaving y (box y.state.transfer b.link y.state.buffer)
  pub stops : (number : ℕ) (payload out : List ℕ) (y : Left Transfer)
      → stop_of limit b.transfer number payload out ≡ y
      → both_of limit first max b (stopping number payload out) ≡ leaving y (box y.state b.link b.buffer)
  pub cancels : (clock : ℕ) (out : List ℕ) (y : Left Both)
      → cancel_of limit first max b.transfer b.link clock out ≡ y
      → both_of limit first max b (cancelling clock out)
      ≡ leaving y (box y.state.transfer y.state.link b.buffer)

-- of every box
abbrev pub BothStatedAlways : Type 0
BothStatedAlways = (limit first max : ℕ) (b : Box) → BothStated limit first max b
