-- Claims: which commands and which sizes reading refuses, as tables in literal numbers. PROTOCOL 7.1, 7.2, 7.17.
use Rattle.std.specs.Prelude.{ℕ, zero, suc, ◌≡◌, cond, List, [], ◌∷◌, ◌++◌, map, take, replicate, eqb}
use Rattle.message.specs.Reading.{read_of}

-- ---- worked_commands: the answer to every command byte with no payload, and with one byte 0

-- n numbers, from a first one on
abbrev pub numbers_from : ℕ → ℕ → List ℕ
numbers_from first zero = []
numbers_from first (suc n) = first ∷ numbers_from (suc first) n

-- all command bytes
abbrev pub command_bytes : List ℕ
command_bytes = numbers_from 0 256

-- the number of the answer to each command byte, with one payload
abbrev pub read_numbers : List ℕ → List ℕ
read_numbers p = map (λ c. (read_of c p).number) command_bytes

-- with no payload, sixteen command bytes a line; no command from 30 on is listed
abbrev pub without_payload : List ℕ
without_payload =
    31 ∷ 0 ∷ 32 ∷ 32 ∷ 0 ∷ 32 ∷ 0 ∷ 0 ∷ 0 ∷ 32 ∷ 0 ∷ 0 ∷ 0 ∷ 32 ∷ 0 ∷ 0
    ∷ 0 ∷ 32 ∷ 32 ∷ 0 ∷ 0 ∷ 0 ∷ 0 ∷ 0 ∷ 32 ∷ 32 ∷ 0 ∷ 32 ∷ 0 ∷ 32 ∷ 0 ∷ 0
    ∷ 0 ∷ 31 ∷ 31 ∷ 31 ∷ 31 ∷ 31 ∷ 31 ∷ 0 ∷ 0 ∷ 0 ∷ 0 ∷ 31 ∷ 31 ∷ 31 ∷ 31 ∷ 31
    ∷ replicate 208 31

-- sixteen command bytes a line
pub record WorkedCommands : Type 0 where
  pub no_byte : read_numbers [] ≡ without_payload
  pub one_byte :
      read_numbers (0 ∷ [])
      ≡ 31 ∷ 32 ∷ 32 ∷ 33 ∷ 33 ∷ 33 ∷ 32 ∷ 32 ∷ 32 ∷ 33 ∷ 32 ∷ 32 ∷ 32 ∷ 32 ∷ 32 ∷ 32
      ∷ 32 ∷ 33 ∷ 33 ∷ 32 ∷ 32 ∷ 32 ∷ 32 ∷ 32 ∷ 32 ∷ 32 ∷ 32 ∷ 32 ∷ 32 ∷ 32 ∷ 32 ∷ 32
      ∷ 32 ∷ 31 ∷ 31 ∷ 31 ∷ 31 ∷ 31 ∷ 31 ∷ 32 ∷ 32 ∷ 32 ∷ 32 ∷ 31 ∷ 31 ∷ 31 ∷ 31 ∷ 31
      ∷ replicate 208 31

-- ---- worked_sizes: the sizes that are not SIZE

-- of some sizes, those whose front of p is not SIZE
unfoldable pub sizes_among : ℕ → List ℕ → List ℕ → List ℕ
sizes_among command p [] = []
sizes_among command p (n ∷ ns) =
    cond (eqb (read_of command (take n p)).number 32) (sizes_among command p ns) (n ∷ sizes_among command p ns)

-- the sizes below 120 that reading does not refuse, of p with zeros after it
abbrev pub sizes_read : ℕ → List ℕ → List ℕ
sizes_read command p = sizes_among command (p ++ replicate 120 0) (numbers_from 0 120)

-- every command that has a payload; 03, 04 and 05 by their first byte, 19 and 1B by their count
pub record WorkedSizes : Type 0 where
  pub information : sizes_read 0x02 [] ≡ 66 ∷ 74 ∷ 106 ∷ []
  pub control : sizes_read 0x03 (1 ∷ []) ≡ 5 ∷ []
  pub query : sizes_read 0x03 (2 ∷ []) ≡ 1 ∷ []
  pub other_action : sizes_read 0x03 (3 ∷ []) ≡ numbers_from 1 119
  pub status : sizes_read 0x04 (3 ∷ []) ≡ 0 ∷ 9 ∷ []
  pub other_status : sizes_read 0x04 (4 ∷ []) ≡ numbers_from 0 120
  pub report : sizes_read 0x05 (4 ∷ []) ≡ 9 ∷ []
  pub other_report : sizes_read 0x05 (3 ∷ []) ≡ numbers_from 1 119
  pub onboarding : sizes_read 0x09 (1 ∷ []) ≡ 1 ∷ []
  pub network : sizes_read 0x0D [] ≡ 2 ∷ []
  pub module_reject : sizes_read 0x11 (1 ∷ []) ≡ 1 ∷ []
  pub box_reject : sizes_read 0x12 (1 ∷ []) ≡ 1 ∷ []
  pub time : sizes_read 0x18 [] ≡ 7 ∷ 11 ∷ []
  pub announcement : sizes_read 0x19 [] ≡ 6 ∷ []
  pub announcement_counts : sizes_read 0x19 (9 ∷ 9 ∷ 9 ∷ 9 ∷ 0 ∷ 16 ∷ []) ≡ 22 ∷ []
  pub ready : sizes_read 0x1B [] ≡ 4 ∷ []
  pub ready_counts : sizes_read 0x1B (0 ∷ 16 ∷ []) ≡ 20 ∷ []
  pub piece : sizes_read 0x1D [] ≡ numbers_from 4 116
