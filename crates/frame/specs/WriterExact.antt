-- Claims: exactly when the writer refuses, and each byte of the caller's buffer. PROTOCOL 6.1 to 6.5, 6.8, 6.12.
use Rattle.std.specs.Prelude.{◌≡◌, ℕ, ◌+◌, ◌/◌, ◌%◌, ◌<◌, ◌≤◌, ◌≢◌, List, [], ◌∷◌, ◌++◌, length, take, replicate}
use Rattle.std.specs.Prelude.{slice_index}
use Rattle.base.specs.Asking.{AsksOnce}
use Rattle.base.specs.Outcomes.{Output, output}
use Rattle.base.specs.Rows.{Row, row}
use Rattle.base.specs.Sums.{total}
use Rattle.frame.specs.Calls.{fresh_of, feed_of, write_of}
use Rattle.frame.specs.Wire.{stuff, command_of, number_of, flags_of, payload_of, frame_limit}

-- the sum of a body whose length is l, by its bytes: PROTOCOL 2.5
abbrev pub sum_of : ℕ → ℕ → ℕ → ℕ → List ℕ → ℕ
sum_of l command number flags payload =
    (l / 256 + l % 256 + command + number + flags / 256 + flags % 256 + total payload) % 256

-- the frame on the wire of a body whose length is l, by its bytes
abbrev pub form_of : ℕ → ℕ → ℕ → ℕ → List ℕ → List ℕ
form_of l command number flags payload =
    255 ∷ 255 ∷ stuff (l / 256 ∷ l % 256 ∷ command ∷ number ∷ flags / 256 ∷ flags % 256
    ∷ (payload ++ sum_of l command number flags payload ∷ []))

-- an answer, and the caller's buffer that was `out`, of a frame of length l whose bytes on the wire are `form`
pub record WritesExactly (limit l : ℕ) (form out : List ℕ) (w : Output) : Type 0 where
  -- PAYLOAD exactly when the length is above the limit; it is tested before ROOM
  pub too_long : limit < l → w.row ≡ row 21 (0 ∷ [])
  pub too_long_only : w.row.number ≡ 21 → limit < l
  -- ROOM exactly when the length is within the limit and the buffer is smaller than the frame, whose size it says
  pub no_room : l ≤ limit → length out < length form → w.row ≡ row 22 (length form ∷ [])
  pub no_room_only : w.row.number ≡ 22 → (l ≤ limit) × (length out < length form)
  -- written exactly when neither refuses; the answer is the count
  pub fits : l ≤ limit → length form ≤ length out → w.row ≡ row 0 (length form ∷ [])
  pub fits_only : w.row.number ≡ 0 → (l ≤ limit) × (length form ≤ length out)
  -- refused, the whole buffer is unchanged
  pub refused_kept : w.row.number ≢ 0 → w.out ≡ out
  -- written, its front is the frame, and each later byte is unchanged
  pub front : w.row.number ≡ 0 → take (slice_index w.row.values 0) w.out ≡ form
  pub rest_kept : w.row.number ≡ 0 → (i : ℕ) → slice_index w.row.values 0 ≤ i → slice_index w.out i ≡ slice_index out i
  pub same_length : length w.out ≡ length out

-- ---- writer_exact: of all values, and every buffer
abbrev pub WriterExact : Type 0
WriterExact =
    (limit command number flags : ℕ) (payload out : List ℕ)
    → WritesExactly limit (length payload + 5) (form_of (length payload + 5) command number flags payload) out
    (write_of limit command number flags payload out)

-- ---- write_asked: what met ROOM once is written into every buffer of the size that it said
abbrev pub WriteAsked : Type 0
WriteAsked =
    (limit command number flags : ℕ) (payload : List ℕ)
    → AsksOnce (λ out. (write_of limit command number flags payload out).row)

-- ---- payload_limit: at the code's limit, PAYLOAD exactly when the payload has more than 1,019 bytes: PROTOCOL 6.3
pub record PayloadLimit (command number flags : ℕ) (payload out : List ℕ) : Type 0 where
  pub above : 1019 < length payload → (write_of frame_limit command number flags payload out).row ≡ row 21 (0 ∷ [])
  pub only : (write_of frame_limit command number flags payload out).row.number ≡ 21 → 1019 < length payload

-- of all values
abbrev pub PayloadLimits : Type 0
PayloadLimits = (command number flags : ℕ) (payload out : List ℕ) → PayloadLimit command number flags payload out

-- ---- worked_frame: one frame written and read, by computation. Its fields all differ; one FF is stuffed

-- the frame
abbrev pub worked_bytes : List ℕ
worked_bytes = 0xFF ∷ 0xFF ∷ 0x00 ∷ 0x07 ∷ 0x12 ∷ 0x34 ∷ 0x56 ∷ 0x78 ∷ 0xFF ∷ 0x55 ∷ 0x9A ∷ 0xB4 ∷ []

-- what a reader of it holds
abbrev pub WorkedBody : List ℕ → Type 0
WorkedBody b =
    (command_of b ≡ 0x12) × (number_of b ≡ 0x34) × (flags_of b ≡ 0x5678) × (payload_of b ≡ 0xFF ∷ 0x9A ∷ [])
    × (take 9 b ≡ 0x00 ∷ 0x07 ∷ 0x12 ∷ 0x34 ∷ 0x56 ∷ 0x78 ∷ 0xFF ∷ 0x9A ∷ 0xB4 ∷ [])

-- the frame written before two further bytes of the buffer; a buffer that is one byte too small; the frame read
pub record WorkedFrame : Type 0 where
  pub written : write_of 1024 0x12 0x34 0x5678 (0xFF ∷ 0x9A ∷ [])
      (1 ∷ 2 ∷ 3 ∷ 4 ∷ 5 ∷ 6 ∷ 7 ∷ 8 ∷ 9 ∷ 10 ∷ 11 ∷ 12 ∷ 13 ∷ 14 ∷ [])
      ≡ output (row 0 (12 ∷ [])) (worked_bytes ++ 13 ∷ 14 ∷ [])
  pub no_room : write_of 1024 0x12 0x34 0x5678 (0xFF ∷ 0x9A ∷ []) (1 ∷ 2 ∷ 3 ∷ 4 ∷ 5 ∷ 6 ∷ 7 ∷ 8 ∷ 9 ∷ 10 ∷ 11 ∷ [])
      ≡ output (row 22 (12 ∷ [])) (1 ∷ 2 ∷ 3 ∷ 4 ∷ 5 ∷ 6 ∷ 7 ∷ 8 ∷ 9 ∷ 10 ∷ 11 ∷ [])
  pub too_long : write_of 6 0x12 0x34 0x5678 (0xFF ∷ 0x9A ∷ []) [] ≡ output (row 21 (0 ∷ [])) []
  pub read_row : (feed_of 1024 (fresh_of 1024) worked_bytes).row ≡ row 1 (12 ∷ 0 ∷ 12 ∷ [])
  pub read_body : WorkedBody (feed_of 1024 (fresh_of 1024) worked_bytes).state.body

-- ---- worked_room: the size that ROOM says, by computation

-- how much room a frame needs, by what the writer answers to no room at all
abbrev pub asked : ℕ → ℕ → ℕ → List ℕ → Row
asked command number flags payload = (write_of 1024 command number flags payload []).row

-- the header, each body byte, and a 55 for each FF of these
pub record WorkedRoom : Type 0 where
  -- the shortest frame: no payload, and no FF
  pub shortest : asked 0x07 0x01 0x0000 [] ≡ row 22 (9 ∷ [])
  -- the shortest frame whose sum is FF, and whose number is
  pub sum_stuffed : asked 0x07 0xF3 0x0000 [] ≡ row 22 (10 ∷ [])
  pub number_stuffed : asked 0x07 0xFF 0x0000 [] ≡ row 22 (10 ∷ [])
  -- a payload all FF, in room that is one byte short, and then in room that is enough
  pub all_ff_short : write_of 1024 0x90 0x01 0x0000 (replicate 5 255) (replicate 18 7)
      ≡ output (row 22 (19 ∷ [])) (replicate 18 7)
  pub all_ff_fits : write_of 1024 0x90 0x01 0x0000 (replicate 5 255) (replicate 19 7)
      ≡ output (row 0 (19 ∷ [])) (0xFF ∷ 0xFF ∷ 0x00 ∷ 0x0A ∷ 0x90 ∷ 0x01 ∷ 0x00 ∷ 0x00 ∷ 0xFF ∷ 0x55 ∷ 0xFF ∷ 0x55
      ∷ 0xFF ∷ 0x55 ∷ 0xFF ∷ 0x55 ∷ 0xFF ∷ 0x55 ∷ 0x96 ∷ [])
  -- the longest payload, all FF; and the longest frame, of which only the length and one byte more are not FF
  pub longest_payload : asked 0x90 0x01 0x0000 (replicate 1019 255) ≡ row 22 (2047 ∷ [])
  pub longest : asked 0xFF 0xFF 0xFFFF (0xF9 ∷ replicate 1018 255) ≡ row 22 (2051 ∷ [])
  -- PAYLOAD comes before ROOM
  pub too_long : asked 0x90 0x01 0x0000 (replicate 1020 255) ≡ row 21 (0 ∷ [])
