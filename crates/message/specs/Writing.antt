-- Model: writing a message (PROTOCOL 7.22 to 7.25), held to the forms of messages by send_exactly, refused_exactly,
-- opaque_exactly and writes_exactly.
use Rattle.std.specs.Prelude.{ℕ, Bool, true, cond, List, [], length, eqb}
use Rattle.base.specs.Rows.{row}
use Rattle.base.specs.Outcomes.{Output, output}
use Rattle.frame.specs.Calls.{write_of}
use Rattle.message.specs.Commands.{kind_of}
use Rattle.message.specs.Layouts.{is_listed}
use Rattle.message.specs.Messages.{command_in, opaque_fits, allowed_in, payload_in}
use Rattle.message.specs.declared.values.Message.{Message}

-- COMMAND, SIZE, FIELD, then the PAYLOAD and ROOM of the frame writer; a refusal leaves the buffer: PROTOCOL 7.23
abbrev pub send_as : ℕ → Bool → Bool → Bool → ℕ → ℕ → ℕ → List ℕ → List ℕ → Output
send_as limit listed sized allows command number flags payload out =
    cond listed
    (cond sized (cond allows (write_of limit command number flags payload out) (output (row 33 []) out))
    (output (row 32 []) out))
    (output (row 31 []) out)

-- a listed message without the caller's data
abbrev pub send_bare : ℕ → Bool → ℕ → ℕ → ℕ → List ℕ → List ℕ → List ℕ → Output
send_bare limit allows command number flags opaque payload out =
    send_as limit true (eqb (length opaque) 0) allows command number flags payload out

-- a message, under a sequence number and flags
abbrev pub send_of : ℕ → Message → ℕ → ℕ → List ℕ → List ℕ → Output
send_of limit m number flags opaque out =
    send_as limit (is_listed (kind_of (command_in m))) (opaque_fits m (length opaque)) (allowed_in m) (command_in m)
    number
    flags (payload_in m opaque) out
