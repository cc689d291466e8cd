-- Claims: the places of the parts in literal numbers. PROTOCOL 7.9, 7.10, 7.15, 7.16.
use Rattle.std.specs.Prelude.{ℕ, ◌+◌, ◌*◌, ◌≡◌, false, List, [], ◌∷◌, ◌++◌, ◌≢◌, length, replicate}
use Rattle.base.specs.Keys.{among}
use Rattle.message.specs.Reading.{read_of, parts_of}
use Rattle.message.specs.declared.parts.Parts.{Parts}
use Rattle.message.specs.declared.parts.Place.{Place}

-- a start and a size
abbrev pub at : Place → List ℕ
at s = s.start ∷ s.size ∷ []

-- start and size of each of the eight places, in one list
abbrev pub places_in : Parts → List ℕ
places_in s =
    at s.serial ++ at s.protocol ++ at s.hardware ++ at s.software
    ++ at s.key ++ at s.secret ++ at s.code ++ at s.piece

-- ---- parts_exactly: the places in every payload of every command
pub record PartsExactly : Type 0 where
  pub information :
      (p : List ℕ) → length p ≡ 66
      → places_in (parts_of 0x02 p) ≡ 0 ∷ 8 ∷ 8 ∷ 8 ∷ 16 ∷ 8 ∷ 24 ∷ 8 ∷ 32 ∷ 32 ∷ 0 ∷ 0 ∷ 0 ∷ 0 ∷ 0 ∷ 0 ∷ []
  pub attributes :
      (p : List ℕ) → length p ≡ 74
      → places_in (parts_of 0x02 p) ≡ 0 ∷ 8 ∷ 8 ∷ 8 ∷ 16 ∷ 8 ∷ 24 ∷ 8 ∷ 32 ∷ 32 ∷ 0 ∷ 0 ∷ 0 ∷ 0 ∷ 0 ∷ 0 ∷ []
  pub secret :
      (p : List ℕ) → length p ≡ 106
      → places_in (parts_of 0x02 p) ≡ 0 ∷ 8 ∷ 8 ∷ 8 ∷ 16 ∷ 8 ∷ 24 ∷ 8 ∷ 32 ∷ 32 ∷ 74 ∷ 32 ∷ 0 ∷ 0 ∷ 0 ∷ 0 ∷ []
  pub announcement :
      (w x y z h l : ℕ) (p : List ℕ) → length p ≡ h * 256 + l
      → places_in (parts_of 0x19 (w ∷ x ∷ y ∷ z ∷ h ∷ l ∷ p))
      ≡ 0 ∷ 0 ∷ 0 ∷ 0 ∷ 0 ∷ 0 ∷ 0 ∷ 0 ∷ 0 ∷ 0 ∷ 0 ∷ 0 ∷ 6 ∷ (h * 256 + l) ∷ 0 ∷ 0 ∷ []
  pub ready :
      (h l : ℕ) (p : List ℕ) → length p ≡ h * 256 + l + 2
      → places_in (parts_of 0x1B (h ∷ l ∷ p))
      ≡ 0 ∷ 0 ∷ 0 ∷ 0 ∷ 0 ∷ 0 ∷ 0 ∷ 0 ∷ 0 ∷ 0 ∷ 0 ∷ 0 ∷ 2 ∷ (h * 256 + l) ∷ 0 ∷ 0 ∷ []
  pub piece :
      (a b c d : ℕ) (p : List ℕ)
      → places_in (parts_of 0x1D (a ∷ b ∷ c ∷ d ∷ p))
      ≡ 0 ∷ 0 ∷ 0 ∷ 0 ∷ 0 ∷ 0 ∷ 0 ∷ 0 ∷ 0 ∷ 0 ∷ 0 ∷ 0 ∷ 0 ∷ 0 ∷ 4 ∷ length p ∷ []
  -- a refused payload has no parts, and neither has a payload of another command
  pub refused :
      (command : ℕ) (p : List ℕ) → (read_of command p).number ≢ 0 → places_in (parts_of command p) ≡ replicate 16 0
  pub others :
      (command : ℕ) (p : List ℕ) → among command (0x02 ∷ 0x19 ∷ 0x1B ∷ 0x1D ∷ []) ≡ false
      → places_in (parts_of command p) ≡ replicate 16 0

-- ---- worked_parts: the places in literal payloads: of each message with parts, of one without, of a refused one
pub record WorkedParts : Type 0 where
  pub information :
      places_in (parts_of 0x02 (replicate 66 7))
      ≡ 0 ∷ 8 ∷ 8 ∷ 8 ∷ 16 ∷ 8 ∷ 24 ∷ 8 ∷ 32 ∷ 32 ∷ 0 ∷ 0 ∷ 0 ∷ 0 ∷ 0 ∷ 0 ∷ []
  pub with_attributes :
      places_in (parts_of 0x02 (replicate 74 7))
      ≡ 0 ∷ 8 ∷ 8 ∷ 8 ∷ 16 ∷ 8 ∷ 24 ∷ 8 ∷ 32 ∷ 32 ∷ 0 ∷ 0 ∷ 0 ∷ 0 ∷ 0 ∷ 0 ∷ []
  pub with_secret :
      places_in (parts_of 0x02 (replicate 106 7))
      ≡ 0 ∷ 8 ∷ 8 ∷ 8 ∷ 16 ∷ 8 ∷ 24 ∷ 8 ∷ 32 ∷ 32 ∷ 74 ∷ 32 ∷ 0 ∷ 0 ∷ 0 ∷ 0 ∷ []
  pub announcement :
      places_in (parts_of 0x19 (9 ∷ 9 ∷ 9 ∷ 9 ∷ 0 ∷ 3 ∷ 7 ∷ 8 ∷ 9 ∷ []))
      ≡ 0 ∷ 0 ∷ 0 ∷ 0 ∷ 0 ∷ 0 ∷ 0 ∷ 0 ∷ 0 ∷ 0 ∷ 0 ∷ 0 ∷ 6 ∷ 3 ∷ 0 ∷ 0 ∷ []
  pub ready :
      places_in (parts_of 0x1B (0 ∷ 3 ∷ 7 ∷ 8 ∷ 9 ∷ 0x12 ∷ 0x34 ∷ []))
      ≡ 0 ∷ 0 ∷ 0 ∷ 0 ∷ 0 ∷ 0 ∷ 0 ∷ 0 ∷ 0 ∷ 0 ∷ 0 ∷ 0 ∷ 2 ∷ 3 ∷ 0 ∷ 0 ∷ []
  pub piece :
      places_in (parts_of 0x1D (0 ∷ 1 ∷ 0 ∷ 2 ∷ 7 ∷ 8 ∷ 9 ∷ []))
      ≡ 0 ∷ 0 ∷ 0 ∷ 0 ∷ 0 ∷ 0 ∷ 0 ∷ 0 ∷ 0 ∷ 0 ∷ 0 ∷ 0 ∷ 0 ∷ 0 ∷ 4 ∷ 3 ∷ []
  pub time : places_in (parts_of 0x18 (replicate 7 7)) ≡ replicate 16 0
  pub refused : places_in (parts_of 0x02 (replicate 67 7)) ≡ replicate 16 0
