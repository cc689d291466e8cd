-- Statement: what calls answer that are made one after another, each with the record that the last one returned.
use Rattle.std.specs.Prelude.{ℕ, List}
use Rattle.base.specs.Rows.{Row}
use Rattle.base.specs.Outcomes.{Outcome}
use Rattle.frame.specs.Calls.{fresh_of, feed_of}
use Rattle.frame.specs.State.{State}
use Rattle.link.specs.Calls as link
use Rattle.link.specs.Calls.{offer_of, tick_of, receive_of}
use Rattle.link.specs.declared.state.Link.{Link}
use Rattle.transfer.specs.Transfers.{absent}
use Rattle.device.specs.Handling.{After, handle_of}

-- a link is offered a command, ticks, and receives a frame: what it answers to the frame
abbrev pub link_turn_of : ℕ → ℕ → Link → ℕ → ℕ → ℕ → ℕ → ℕ → Row
link_turn_of first max l command clock later received number =
    (receive_of first max (tick_of first max (offer_of first max l command clock).state later).state received
    number).row

-- what a fresh reader answers to data, and its state
abbrev pub fed_of : ℕ → List ℕ → Outcome State
fed_of limit bytes = feed_of limit (fresh_of limit) bytes

-- what a new box does with an answer of the reader, by the body that the reader then holds
abbrev pub new_box_of : ℕ → ℕ → ℕ → Row → List ℕ → ℕ → ℕ → List ℕ → List ℕ → After
new_box_of limit first max answer body clock piece buffer out =
    handle_of limit first max answer body absent (link.fresh_of first) clock piece buffer out

-- and so with the answer of a fresh reader
abbrev pub turn_of : ℕ → ℕ → ℕ → List ℕ → ℕ → ℕ → List ℕ → List ℕ → After
turn_of limit first max bytes clock piece buffer out =
    new_box_of limit first max (fed_of limit bytes).row (fed_of limit bytes).state.body clock piece buffer out
