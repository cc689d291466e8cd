-- Statement: the twelve worked examples, as one list. PROTOCOL 11.
-- It uses frame's `zeros` of the model, held by fresh_reader_lem.
use Rattle.std.specs.Prelude.{ℕ, true, false, List, [], ◌∷◌, ◌++◌, replicate}
use Rattle.base.specs.Rows.{row}
use Rattle.frame.specs.Calls.{zeros}
use Rattle.message.specs.declared.counter.Mode.TheVariants as mode
use Rattle.message.specs.declared.values.Message.{Message}
use Rattle.message.specs.declared.values.Message.TheVariants as message
use Rattle.examples.specs.Questions.{Question, Answer, bytes_fed, frame_written, message_written, message_read}
use Rattle.examples.specs.Questions.{time_elapsed, tick_due, answered, held, output, milliseconds, due}

-- an example's number in PROTOCOL 11, a question, and the answer that it states
pub record Example : Type 0 where
  pub number : ℕ
  pub question : Question
  pub stated : Answer

-- shorthand for an example, one line of the list
abbrev pub entry : ℕ → Question → Answer → Example
entry number question stated = record { number = number; question = question; stated = stated }

-- the bytes of example 1
abbrev pub bytes1 : List ℕ
bytes1 = 0xFF ∷ 0xFF ∷ 0x00 ∷ 0x05 ∷ 0x07 ∷ 0x01 ∷ 0x00 ∷ 0x00 ∷ 0x0D ∷ []

-- of example 2
abbrev pub bytes2 : List ℕ
bytes2 = 0xFF ∷ 0xFF ∷ 0x00 ∷ 0x05 ∷ 0x07 ∷ 0xFF ∷ 0x55 ∷ 0x00 ∷ 0x00 ∷ 0x0B ∷ []

-- of example 3
abbrev pub bytes3 : List ℕ
bytes3 = 0xFF ∷ 0xFF ∷ 0x00 ∷ 0x05 ∷ 0x07 ∷ 0xF3 ∷ 0x00 ∷ 0x00 ∷ 0xFF ∷ 0x55 ∷ []

-- of example 4
abbrev pub bytes4 : List ℕ
bytes4 =
    0xFF ∷ 0xFF ∷ 0x00 ∷ 0x0E ∷ 0x05 ∷ 0x02 ∷ 0x00 ∷ 0x00 ∷ 0x04 ∷ 0x05 ∷ 0x00 ∷ 0x03 ∷ 0x00 ∷ 0x00 ∷ 0x00 ∷ 0xFF
    ∷ 0x55 ∷ 0x00 ∷ 0x20 ∷ []

-- the message of example 4
abbrev pub report : Message
report =
    message.Report (record {
      feeding = true;
      lamp = false;
      mode = mode.Gather;
      volume = 3;
      leaf = 255;
      double = false;
      skipped = false;
      fault = false;
    })

-- its payload: 04, then the status in 8 bytes
abbrev pub report_payload : List ℕ
report_payload = 0x04 ∷ 0x05 ∷ 0x00 ∷ 0x03 ∷ 0x00 ∷ 0x00 ∷ 0x00 ∷ 0xFF ∷ 0x00 ∷ []

-- the twelve, in the order of PROTOCOL 11. MORE is 0, FRAME 1, SHORT 11, LONG 12, STUFF 13, SUM 15 and PAYLOAD 21;
-- what is written and a message that was read stand under 0 (PROTOCOL 6.7). A reader's values are the count, which is
-- all bytes in each example, of a frame its start and end, and further ones of STUFF and SUM (PROTOCOL 4.19, 4.20). A
-- buffer has exactly the room that the frame needs.
unfoldable pub examples : List Example
examples =
    -- 1: a heartbeat
    entry 1 (frame_written 0x07 1 0 [] (zeros 9)) (output (row 0 (9 ∷ [])) bytes1)
    ∷ entry 1 (bytes_fed bytes1)
    (held (row 1 (9 ∷ 0 ∷ 9 ∷ [])) (0x00 ∷ 0x05 ∷ 0x07 ∷ 0x01 ∷ 0x00 ∷ 0x00 ∷ 0x0D ∷ []) 0x07 1 0 [])
    -- 2: a field is FF
    ∷ entry 2 (frame_written 0x07 0xFF 0 [] (zeros 10)) (output (row 0 (10 ∷ [])) bytes2)
    ∷ entry 2 (bytes_fed bytes2)
    (held (row 1 (10 ∷ 0 ∷ 10 ∷ [])) (0x00 ∷ 0x05 ∷ 0x07 ∷ 0xFF ∷ 0x00 ∷ 0x00 ∷ 0x0B ∷ []) 0x07 0xFF 0 [])
    -- 3: the sum is FF, and its 55 is there or missing
    ∷ entry 3 (frame_written 0x07 0xF3 0 [] (zeros 10)) (output (row 0 (10 ∷ [])) bytes3)
    ∷ entry 3 (bytes_fed bytes3)
    (held (row 1 (10 ∷ 0 ∷ 10 ∷ [])) (0x00 ∷ 0x05 ∷ 0x07 ∷ 0xF3 ∷ 0x00 ∷ 0x00 ∷ 0xFF ∷ []) 0x07 0xF3 0 [])
    ∷ entry 3 (bytes_fed (0xFF ∷ 0xFF ∷ 0x00 ∷ 0x05 ∷ 0x07 ∷ 0xF3 ∷ 0x00 ∷ 0x00 ∷ 0xFF ∷ []))
    (answered (row 0 (9 ∷ [])))
    -- 4: a report
    ∷ entry 4 (message_written report 2 0 [] (zeros 19)) (output (row 0 (19 ∷ [])) bytes4)
    ∷ entry 4 (bytes_fed bytes4) (held (row 1 (19 ∷ 0 ∷ 19 ∷ []))
    (0x00 ∷ 0x0E ∷ 0x05 ∷ 0x02 ∷ 0x00 ∷ 0x00 ∷ (report_payload ++ 0x20 ∷ [])) 0x05 2 0 report_payload)
    ∷ entry 4 (message_read 0x05 report_payload) (answered (row 0 (0x05 ∷ 4 ∷ 1 ∷ 0 ∷ 1 ∷ 3 ∷ 255 ∷ 0 ∷ 0 ∷ 0 ∷ [])))
    -- 5: a stray FF before example 1
    ∷ entry 5 (bytes_fed (0xFF ∷ bytes1))
    (held (row 1 (10 ∷ 1 ∷ 10 ∷ [])) (0x00 ∷ 0x05 ∷ 0x07 ∷ 0x01 ∷ 0x00 ∷ 0x00 ∷ 0x0D ∷ []) 0x07 1 0 [])
    -- 6: the least length
    ∷ entry 6 (bytes_fed (0xFF ∷ 0xFF ∷ 0x00 ∷ 0x04 ∷ [])) (answered (row 11 (4 ∷ 0 ∷ 4 ∷ [])))
    ∷ entry 6 (bytes_fed (0xFF ∷ 0xFF ∷ 0x00 ∷ 0x05 ∷ [])) (answered (row 0 (4 ∷ [])))
    -- 7: the greatest length
    ∷ entry 7 (bytes_fed (0xFF ∷ 0xFF ∷ 0x04 ∷ 0x01 ∷ [])) (answered (row 12 (4 ∷ 0 ∷ 4 ∷ [])))
    ∷ entry 7 (bytes_fed (0xFF ∷ 0xFF ∷ 0x04 ∷ 0x00 ∷ [])) (answered (row 0 (4 ∷ [])))
    -- 8: the start moves
    ∷ entry 8 (bytes_fed (0xFF ∷ 0xFF ∷ 0xFF ∷ 0x55 ∷ 0x00 ∷ [])) (answered (row 12 (5 ∷ 1 ∷ 5 ∷ [])))
    -- 9: broken stuffing
    ∷ entry 9 (bytes_fed (0xFF ∷ 0xFF ∷ 0x00 ∷ 0x05 ∷ 0x07 ∷ 0xFF ∷ 0x00 ∷ [])) (answered (row 13 (7 ∷ 0 ∷ 7 ∷ 0 ∷ [])))
    -- 10: a wrong sum
    ∷ entry 10 (bytes_fed (0xFF ∷ 0xFF ∷ 0x00 ∷ 0x05 ∷ 0x07 ∷ 0x01 ∷ 0x00 ∷ 0x00 ∷ 0x0E ∷ []))
    (held (row 15 (9 ∷ 0 ∷ 9 ∷ 14 ∷ 13 ∷ [])) (0x00 ∷ 0x05 ∷ 0x07 ∷ 0x01 ∷ 0x00 ∷ 0x00 ∷ 0x0E ∷ []) 0x07 1 0 [])
    -- 11: the clock wraps
    ∷ entry 11 (time_elapsed 104 4294967200) (milliseconds 200)
    ∷ entry 11 (tick_due 104 4294967200) (due true)
    ∷ entry 11 (tick_due 103 4294967200) (due false)
    -- 12: the greatest payload
    ∷ entry 12 (frame_written 0x07 1 0 (zeros 1019) (zeros 1028))
    (output (row 0 (1028 ∷ [])) (0xFF ∷ 0xFF ∷ 0x04 ∷ 0x00 ∷ 0x07 ∷ 0x01 ∷ 0x00 ∷ 0x00 ∷ (zeros 1019 ++ 0x0C ∷ [])))
    ∷ entry 12 (frame_written 0x07 1 0 (zeros 1020) (replicate 1029 0xAA))
    (output (row 21 (0 ∷ [])) (replicate 1029 0xAA))
    ∷ []

-- the number of an example
abbrev pub number_in : Example → ℕ
number_in e = e.number
