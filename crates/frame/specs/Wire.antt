-- Statement: the frame on the wire. PROTOCOL 2.1 to 2.11, 6.6.
-- A byte is a number; FF is 255 and 55 is 85.
use Rattle.std.specs.Prelude.{◌≡◌, ℕ, ◌+◌, ◌-◌, ◌≤◌, Bool, true, false, List, [], ◌∷◌, ◌++◌, length, take, drop, ◌==◌}
use Rattle.std.specs.Prelude.{slice_index}
use Rattle.std.specs.Borrow.{Bor}
use Rattle.std.specs.List.{flat_map}
use Rattle.base.specs.Numbers.{two_at, two}
use Rattle.base.specs.Sums.{checksum}

-- the 55 that follows a byte, where that byte is FF
abbrev pub stuff_after : Bool → List ℕ → List ℕ
stuff_after true r = 85 ∷ r
stuff_after false r = r

-- the stuffed form, a term of ours: PROTOCOL 2.6
unfoldable pub stuff : List ℕ → List ℕ
stuff [] = []
stuff (x ∷ xs) = x ∷ stuff_after (x == 255) (stuff xs)

-- the frame on the wire of a body: PROTOCOL 2.1
abbrev pub wire : List ℕ → List ℕ
wire b = 255 ∷ 255 ∷ stuff b

-- the length L, at place 0: PROTOCOL 2.2, 2.3. Every field can be read from any bytes: PROTOCOL 2.11
abbrev pub length_of : List ℕ → ℕ
length_of b = two_at b 0

-- the command, at place 2
abbrev pub command_of : List ℕ → ℕ
command_of b = slice_index b 2

-- the sequence number, at place 3
abbrev pub number_of : List ℕ → ℕ
number_of b = slice_index b 3

-- the flags, at place 4
abbrev pub flags_of : List ℕ → ℕ
flags_of b = two_at b 4

-- the payload, from place 6 on: PROTOCOL 2.11
abbrev pub payload_of : List ℕ → List ℕ
payload_of b = take (length_of b - 5) (drop 6 b)

-- the size of a body's head, a term of ours: length, command, sequence number and flags. PROTOCOL 4.19
abbrev pub head_size : ℕ
head_size = 6

-- the head of a body whose payload has this size
abbrev pub head_of : ℕ → ℕ → ℕ → ℕ → List ℕ
head_of size command number flags = two (size + 5) (command ∷ number ∷ two flags [])

-- all bytes of a body except its sum
abbrev pub unsummed : ℕ → ℕ → ℕ → List ℕ → List ℕ
unsummed command number flags payload = head_of (length payload) command number flags ++ payload

-- the body that these four values make: PROTOCOL 2.2 to 2.5
unfoldable pub body_of : ℕ → ℕ → ℕ → List ℕ → List ℕ
body_of command number flags payload =
    unsummed command number flags payload ++ checksum (unsummed command number flags payload) ∷ []

-- its frame on the wire
abbrev pub frame_of : ℕ → ℕ → ℕ → List ℕ → List ℕ
frame_of command number flags payload = wire (body_of command number flags payload)

-- a payload that is passed in parts: their bytes, in their order. PROTOCOL 6.6
abbrev pub joined : List (Bor (List ℕ)) → List ℕ
joined parts = flat_map (λ part. part.now) parts

-- the same of three chunks
abbrev pub joined_chunks : List ℕ → List ℕ → List ℕ → List ℕ
joined_chunks first second third = first ++ (second ++ third)

-- the sum that a body has, at place L + 1, which is its last byte where its length is true
abbrev pub found_sum : List ℕ → ℕ
found_sum b = slice_index b (length_of b + 1)

-- the sum that it should have, of all bytes before that one: PROTOCOL 2.5
abbrev pub computed_sum : List ℕ → ℕ
computed_sum b = checksum (take (length_of b + 1) b)

-- a good body, a term of ours: PROTOCOL 2.9, for any limit
pub record Good (limit : ℕ) (b : List ℕ) : Type 0 where
  pub true_length : length b ≡ length_of b + 2
  pub shortest : 5 ≤ length_of b
  pub longest : length_of b ≤ limit
  pub sum_holds : found_sum b ≡ computed_sum b

-- the greatest limit of the claims about streams: PROTOCOL 2.10
abbrev pub widest : ℕ
widest = 65279

-- the limit of the code: PROTOCOL 2.4
abbrev pub frame_limit : ℕ
frame_limit = 1024
