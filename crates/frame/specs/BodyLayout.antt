-- Claims: the body byte by byte, with literal places. PROTOCOL 2.2 to 2.5, 2.9, 2.11, 4.20, 6.6.
use Rattle.std.specs.Prelude.{◌≡◌, ℕ, ◌+◌, ◌-◌, ◌*◌, ◌%◌, ◌≤◌, List, [], ◌∷◌, ◌++◌, length, take}
use Rattle.std.specs.Borrow.{Bor}
use Rattle.base.specs.Sums.{total}
use Rattle.frame.specs.Wire.{length_of, command_of, number_of, flags_of, payload_of, body_of, joined, joined_chunks}
use Rattle.frame.specs.Wire.{found_sum, computed_sum, Good}

-- ---- body_layout: the head of a body is b0 to b5; in a body of true length the payload p and the sum s follow
--
--    b0 b1 | b2      | b3       | b4 b5 | p ..    | s
--    length| command | sequence | flags | payload | sum
--          |         | number   |       |         |
pub record BodyLayout (b0 b1 b2 b3 b4 b5 s : ℕ) (p r : List ℕ) : Type 0 where
  pub length_at : length_of (b0 ∷ b1 ∷ r) ≡ b0 * 256 + b1
  pub command_at : command_of (b0 ∷ b1 ∷ b2 ∷ r) ≡ b2
  pub number_at : number_of (b0 ∷ b1 ∷ b2 ∷ b3 ∷ r) ≡ b3
  pub flags_at : flags_of (b0 ∷ b1 ∷ b2 ∷ b3 ∷ b4 ∷ b5 ∷ r) ≡ b4 * 256 + b5
  pub payload_at : payload_of (b0 ∷ b1 ∷ b2 ∷ b3 ∷ b4 ∷ b5 ∷ r) ≡ take (b0 * 256 + b1 - 5) r
  pub payload_whole : b0 * 256 + b1 ≡ length p + 5
      → payload_of (b0 ∷ b1 ∷ b2 ∷ b3 ∷ b4 ∷ b5 ∷ (p ++ s ∷ [])) ≡ p
  -- the sum found and the sum computed, of any body with a true length: PROTOCOL 4.20
  pub sums_at : b0 * 256 + b1 ≡ length p + 5
      → (found_sum (b0 ∷ b1 ∷ b2 ∷ b3 ∷ b4 ∷ b5 ∷ (p ++ s ∷ [])) ≡ s)
      × (computed_sum (b0 ∷ b1 ∷ b2 ∷ b3 ∷ b4 ∷ b5 ∷ (p ++ s ∷ []))
      ≡ (b0 + b1 + b2 + b3 + b4 + b5 + total p) % 256)
  -- good exactly when PROTOCOL 2.9 holds
  pub good_when : (limit : ℕ)
      → b0 * 256 + b1 ≡ length p + 5 → length p + 5 ≤ limit → s ≡ (b0 + b1 + b2 + b3 + b4 + b5 + total p) % 256
      → Good limit (b0 ∷ b1 ∷ b2 ∷ b3 ∷ b4 ∷ b5 ∷ (p ++ s ∷ []))
  pub good_only : (limit : ℕ) → Good limit (b0 ∷ b1 ∷ b2 ∷ b3 ∷ b4 ∷ b5 ∷ (p ++ s ∷ []))
      → (b0 * 256 + b1 ≡ length p + 5) × (length p + 5 ≤ limit)
      × (s ≡ (b0 + b1 + b2 + b3 + b4 + b5 + total p) % 256)
  -- a field that is missing is 0 or empty: PROTOCOL 2.11
  pub no_command : command_of (b0 ∷ b1 ∷ []) ≡ 0
  pub no_number : number_of (b0 ∷ b1 ∷ b2 ∷ []) ≡ 0
  pub no_flags : flags_of (b0 ∷ b1 ∷ b2 ∷ b3 ∷ []) ≡ 0
  pub no_payload : payload_of (b0 ∷ b1 ∷ b2 ∷ b3 ∷ b4 ∷ b5 ∷ []) ≡ []

-- of any bytes
abbrev pub BodyLayouts : Type 0
BodyLayouts = (b0 b1 b2 b3 b4 b5 s : ℕ) (p r : List ℕ) → BodyLayout b0 b1 b2 b3 b4 b5 s p r

-- ---- made_good: the body that the writer makes of its four values is good, and the values are read back from it
pub record Made (limit command number flags : ℕ) (payload : List ℕ) : Type 0 where
  pub good : Good limit (body_of command number flags payload)
  pub command_is : command_of (body_of command number flags payload) ≡ command
  pub number_is : number_of (body_of command number flags payload) ≡ number
  pub flags_are : flags_of (body_of command number flags payload) ≡ flags
  pub payload_is : payload_of (body_of command number flags payload) ≡ payload

-- of every payload within the limit
abbrev pub MadeGood : Type 0
MadeGood =
    (limit command number flags : ℕ) (payload : List ℕ)
    → length payload + 5 ≤ limit → Made limit command number flags payload

-- ---- chunks_joined: the three chunks of a payload, in their order; they are its parts, joined
pub record ChunksJoined (a b c : List ℕ) : Type 0 where
  pub worked : joined_chunks (1 ∷ []) (2 ∷ 3 ∷ []) (4 ∷ []) ≡ 1 ∷ 2 ∷ 3 ∷ 4 ∷ []
  pub in_order : joined_chunks a b c ≡ (a ++ b) ++ c
  pub as_parts : (p q r : Bor (List ℕ)) → p.now ≡ a → q.now ≡ b → r.now ≡ c
      → joined (p ∷ q ∷ r ∷ []) ≡ joined_chunks a b c

-- of any chunks
abbrev pub AllChunksJoined : Type 0
AllChunksJoined = (a b c : List ℕ) → ChunksJoined a b c
