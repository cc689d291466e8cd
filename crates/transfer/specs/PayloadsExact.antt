-- Claims: what a received 19, 1D or 1F says, byte by byte. PROTOCOL 7.15, 7.16, 15.6 to 15.8.
use Rattle.std.specs.Prelude.{ℕ, ◌+◌, ◌*◌, ◌<◌, ◌≡◌, ◌≢◌, true, false, List, [], ◌∷◌, length}
use Rattle.base.specs.Keys.{among}
use Rattle.base.specs.Rows.{row}
use Rattle.message.specs.Reading.{read_of}
use Rattle.transfer.specs.Payloads.{faulty, size_in, code_in, index_in, total_in, bytes_in}

-- ---- payloads_exact: each payload without a fault, and where the fault is

-- 19: four bytes of size, two of the code's size, the code
pub record AnnouncementExact (a b c d h l : ℕ) (code : List ℕ) : Type 0 where
  pub right : length code ≡ h * 256 + l → faulty 0x19 (a ∷ b ∷ c ∷ d ∷ h ∷ l ∷ code) ≡ false
  pub wrong : length code ≢ h * 256 + l → faulty 0x19 (a ∷ b ∷ c ∷ d ∷ h ∷ l ∷ code) ≡ true
  pub size : length code ≡ h * 256 + l
      → size_in (a ∷ b ∷ c ∷ d ∷ h ∷ l ∷ code) ≡ ((a * 256 + b) * 256 + c) * 256 + d
  pub code_is : length code ≡ h * 256 + l → code_in (a ∷ b ∷ c ∷ d ∷ h ∷ l ∷ code) ≡ code

-- 1D: two bytes of number, two of the total, the bytes
pub record PieceExact (a b c d : ℕ) (bytes : List ℕ) : Type 0 where
  pub right : faulty 0x1D (a ∷ b ∷ c ∷ d ∷ bytes) ≡ false
  pub index : index_in (a ∷ b ∷ c ∷ d ∷ bytes) ≡ a * 256 + b
  pub total : total_in (a ∷ b ∷ c ∷ d ∷ bytes) ≡ c * 256 + d
  pub bytes_are : bytes_in (a ∷ b ∷ c ∷ d ∷ bytes) ≡ bytes

-- shorter ones, and a 1F
pub record PayloadsExact : Type 0 where
  pub announcement : (a b c d h l : ℕ) (code : List ℕ) → AnnouncementExact a b c d h l code
  pub short_announcement : (p : List ℕ) → length p < 6 → faulty 0x19 p ≡ true
  pub code_size : (p : List ℕ) → faulty 0x19 p ≡ false → length (code_in p) + 6 ≡ length p
  pub piece : (a b c d : ℕ) (bytes : List ℕ) → PieceExact a b c d bytes
  pub short_piece : (p : List ℕ) → length p < 4 → faulty 0x1D p ≡ true
  pub stop : faulty 0x1F [] ≡ false
  -- and a fault is always SIZE
  pub fault : (c : ℕ) (p : List ℕ) → among c (0x19 ∷ 0x1D ∷ 0x1F ∷ []) ≡ true → faulty c p ≡ true
      → read_of c p ≡ row 32 []
  pub long_stop : (x : ℕ) (p : List ℕ) → faulty 0x1F (x ∷ p) ≡ true
