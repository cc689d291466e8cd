-- Model: what the calls write (PROTOCOL 15.6 to 15.11), held to the bytes on the wire by calls_exact and pair_read.
use Rattle.std.specs.Prelude.{ℕ, ◌+◌, cond, List, [], ◌∷◌, ◌++◌, eqb, ltb, length}
use Rattle.base.specs.Rows.{Row, row}
use Rattle.base.specs.Outcomes.{Output, output, needed_in, placed, rowed}
use Rattle.frame.specs.Wire.{frame_of}
use Rattle.frame.specs.Calls.{write_of}
use Rattle.message.specs.Messages.{payload_in}
use Rattle.message.specs.declared.values.Message.TheVariants.{Ready}
use Rattle.transfer.specs.Table.{state_row, busy_row, payload_row, wrote_row, began_row}

-- an output after a front that stays
abbrev pub after : List ℕ → Output → Output
after front w = output w.row (front ++ w.out)

-- ---- one frame

-- a command without payload, under a number, with flags 0: PROTOCOL 15.7 to 15.9
abbrev pub acknowledged : ℕ → ℕ → ℕ → List ℕ → Output
acknowledged limit command number out = rowed (wrote_row command) (write_of limit command number 0 [] out)

-- 12 with code 3, under the number received; beside its size is the number of the refusal: PROTOCOL 15.11
abbrev pub rejection_of : ℕ → ℕ → ℕ → List ℕ → Output
rejection_of limit refusal number out =
    rowed (λ count. row refusal (count ∷ [])) (write_of limit 0x12 number 0 (3 ∷ []) out)

-- what a call writes that its tests refuse: after STATE and BUSY nothing
abbrev pub refused_of : ℕ → ℕ → ℕ → List ℕ → Output
refused_of limit refusal number out =
    cond (eqb refusal 17) (output state_row out)
    (cond (eqb refusal 41) (output busy_row out) (rejection_of limit refusal number out))

-- ---- two frames

-- the payload of a 1B: the check code handed back, and our piece size
abbrev pub ready_payload : ℕ → List ℕ → List ℕ
ready_payload piece code = payload_in (Ready piece) code

-- 1A under the number received, and then 1B under the link's next number, both with flags 0: PROTOCOL 15.6
abbrev pub pair_wire : ℕ → ℕ → ℕ → List ℕ → List ℕ
pair_wire number next piece code = frame_of 0x1A number 0 [] ++ frame_of 0x1B next 0 (ready_payload piece code)

-- the refusal of a second frame, as one of both: ROOM needs the first too
abbrev pub with_first : ℕ → Row → Row
with_first first r = cond (eqb r.number 22) (row 22 ((first + needed_in r) ∷ [])) r

-- both or neither; PAYLOAD before ROOM, which has the size of both: PROTOCOL 6.12
abbrev pub pair_of : ℕ → ℕ → ℕ → ℕ → List ℕ → List ℕ → Output
pair_of limit number next piece code out =
    rowed (λ count. began_row count (length (frame_of 0x1A number 0 [])))
    (cond (ltb limit (length (ready_payload piece code) + 5)) (output payload_row out)
    (placed (pair_wire number next piece code) out))
