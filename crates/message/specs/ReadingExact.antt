-- Claims: reading, for every command and every payload, in literal numbers with each byte at its literal place. The
-- cases of a command leave no payload of bytes out. PROTOCOL 7.4 to 7.21.
use Rattle.std.specs.Prelude.{ℕ, ◌+◌, ◌*◌, ◌/◌, ◌%◌, ◌<◌, ◌≤◌, ◌≡◌, true, false, List, [], ◌∷◌, ◌≢◌, length, get_or}
use Rattle.base.specs.Rows.{row}
use Rattle.base.specs.Keys.{among}
use Rattle.message.specs.Reading.{read_of}
use Rattle.message.specs.CommandLists.{empty_commands, other_commands}

-- ---- reads_exactly: which payload is read and as which row, which is COMMAND 31, SIZE 32 or FIELD 33

-- a command without a payload
pub record EmptyRead (command : ℕ) : Type 0 where
  pub read : read_of command [] ≡ row 0 (command ∷ [])
  pub size : (first : ℕ) (p : List ℕ) → read_of command (first ∷ p) ≡ row 32 []

-- 02: the size, the timeout in bytes 64 and 65, the attributes in bytes 66 to 73
module _ (p : List ℕ) where
  abbrev pub timeout_in : ℕ
  timeout_in = get_or p 64 0 * 256 + get_or p 65 0

  -- the high four bytes, then the low four
  abbrev pub attributes_in : ℕ
  attributes_in =
      (get_or p 66 0 * 16777216 + get_or p 67 0 * 65536 + get_or p 68 0 * 256 + get_or p 69 0) * 4294967296
      + (get_or p 70 0 * 16777216 + get_or p 71 0 * 65536 + get_or p 72 0 * 256 + get_or p 73 0)

  -- for all bytes
  pub record InformationRead : Type 0 where
    pub plain : length p ≡ 66 → read_of 0x02 p ≡ row 0 (0x02 ∷ 66 ∷ timeout_in ∷ [])
    pub attributes : length p ≡ 74 → read_of 0x02 p ≡ row 0 (0x02 ∷ 74 ∷ timeout_in ∷ attributes_in ∷ [])
    pub secret : length p ≡ 106 → read_of 0x02 p ≡ row 0 (0x02 ∷ 106 ∷ timeout_in ∷ attributes_in ∷ [])
    pub size : length p ≢ 66 → length p ≢ 74 → length p ≢ 106 → read_of 0x02 p ≡ row 32 []

-- 03 with first byte 1: flags f, values v, and the volume in h and l. A zero bit that is set is FIELD, and so is mode 3
-- with its flag; without its flag a value reads as 0
module _ (f v h l : ℕ) where
  abbrev pub controlled : List ℕ
  controlled = 1 ∷ f ∷ v ∷ h ∷ l ∷ []

  -- of five bytes
  pub record ControlRead : Type 0 where
    pub read :
        f < 8 → v < 8 → (f / 2 % 2 ≡ 1 → v < 6)
        → read_of 0x03 controlled
        ≡ row 0 (0x03 ∷ 1 ∷ f % 2 ∷ f / 2 % 2 ∷ f / 4 ∷ (f % 2 * (v % 2)) ∷ (f / 2 % 2 * (v / 2))
        ∷ (f / 4 * (h * 256 + l)) ∷ [])
    pub flag : 8 ≤ f → read_of 0x03 controlled ≡ row 33 []
    pub value : 8 ≤ v → read_of 0x03 controlled ≡ row 33 []
    pub mode : f / 2 % 2 ≡ 1 → 6 ≤ v → read_of 0x03 controlled ≡ row 33 []

-- 03 by its first byte
pub record ActionRead : Type 0 where
  pub control : (f v h l : ℕ) → ControlRead f v h l
  pub control_size : (p : List ℕ) → length p ≢ 4 → read_of 0x03 (1 ∷ p) ≡ row 32 []
  pub query : read_of 0x03 (2 ∷ []) ≡ row 0 (0x03 ∷ 2 ∷ [])
  pub query_size : (p : List ℕ) → length p ≢ 0 → read_of 0x03 (2 ∷ p) ≡ row 32 []
  pub other : (first : ℕ) (p : List ℕ) → first ≢ 1 → first ≢ 2 → read_of 0x03 (first ∷ p) ≡ row 33 []
  pub none : read_of 0x03 [] ≡ row 32 []

-- 04 and 05 with a first byte: nine bytes. The second has feeding, lamp and a mode below 3, the ninth has three bits;
-- all else in these two is FIELD
module _ (command action : ℕ) where
  abbrev pub nine_bytes : ℕ → ℕ → ℕ → ℕ → ℕ → ℕ → ℕ → ℕ → List ℕ
  nine_bytes a h l w x y z e = action ∷ a ∷ h ∷ l ∷ w ∷ x ∷ y ∷ z ∷ e ∷ []

  -- for every volume and leaf
  pub record StatusRead : Type 0 where
    pub read :
        (a h l w x y z e : ℕ) → a < 12 → e < 8
        → read_of command (nine_bytes a h l w x y z e)
        ≡ row 0 (command ∷ action ∷ a % 2 ∷ a / 2 % 2 ∷ a / 4 ∷ (h * 256 + l)
        ∷ (w * 16777216 + x * 65536 + y * 256 + z) ∷ e % 2 ∷ e / 2 % 2 ∷ e / 4 ∷ [])
    pub first : (a h l w x y z e : ℕ) → 12 ≤ a → read_of command (nine_bytes a h l w x y z e) ≡ row 33 []
    pub last : (a h l w x y z e : ℕ) → 8 ≤ e → read_of command (nine_bytes a h l w x y z e) ≡ row 33 []
    pub size : (p : List ℕ) → length p ≢ 8 → read_of command (action ∷ p) ≡ row 32 []
    pub other : (byte : ℕ) (p : List ℕ) → byte ≢ action → read_of command (byte ∷ p) ≡ row 33 []

-- 09, 11 and 12: one byte, from 1 to a greatest
pub record ByteRead (command max : ℕ) : Type 0 where
  pub read : (byte : ℕ) → 1 ≤ byte → byte ≤ max → read_of command (byte ∷ []) ≡ row 0 (command ∷ byte ∷ [])
  pub zero : read_of command (0 ∷ []) ≡ row 33 []
  pub above : (byte : ℕ) → max < byte → read_of command (byte ∷ []) ≡ row 33 []
  pub size : (p : List ℕ) → length p ≢ 1 → read_of command p ≡ row 32 []

-- 0D: bits 0 to 5 in the second byte, strength and bits 11 and 12 in the first; nothing is FIELD
pub record NetworkRead : Type 0 where
  pub read :
      (h l : ℕ) → l < 256
      → read_of 0x0D (h ∷ l ∷ [])
      ≡ row 0 (0x0D ∷ l % 2 ∷ l / 2 % 2 ∷ l / 4 % 2 ∷ l / 8 % 2 ∷ l / 16 % 2 ∷ l / 32 % 2 ∷ h % 8 ∷ h / 8 % 2
      ∷ h / 16 % 2 ∷ [])
  pub size : (p : List ℕ) → length p ≢ 2 → read_of 0x0D p ≡ row 32 []

-- 18: seven bytes, or eleven with the seconds since 1970; nothing is FIELD
pub record TimeRead : Type 0 where
  pub read :
      (a b month day hour minute second : ℕ)
      → read_of 0x18 (a ∷ b ∷ month ∷ day ∷ hour ∷ minute ∷ second ∷ [])
      ≡ row 0 (0x18 ∷ (a * 256 + b) ∷ month ∷ day ∷ hour ∷ minute ∷ second ∷ [])
  pub seconds :
      (a b month day hour minute second w x y z : ℕ)
      → read_of 0x18 (a ∷ b ∷ month ∷ day ∷ hour ∷ minute ∷ second ∷ w ∷ x ∷ y ∷ z ∷ [])
      ≡ row 0 (0x18 ∷ (a * 256 + b) ∷ month ∷ day ∷ hour ∷ minute ∷ second
      ∷ (w * 16777216 + x * 65536 + y * 256 + z) ∷ [])
  pub size : (p : List ℕ) → length p ≢ 7 → length p ≢ 11 → read_of 0x18 p ≡ row 32 []

-- 19: a number of four bytes, a count, and as many bytes p; nothing is FIELD
pub record AnnouncementRead : Type 0 where
  pub read :
      (w x y z h l : ℕ) (p : List ℕ) → length p ≡ h * 256 + l
      → read_of 0x19 (w ∷ x ∷ y ∷ z ∷ h ∷ l ∷ p) ≡ row 0 (0x19 ∷ (w * 16777216 + x * 65536 + y * 256 + z) ∷ [])
  pub size :
      (w x y z h l : ℕ) (p : List ℕ) → length p ≢ h * 256 + l → read_of 0x19 (w ∷ x ∷ y ∷ z ∷ h ∷ l ∷ p) ≡ row 32 []
  pub short : (p : List ℕ) → length p < 6 → read_of 0x19 p ≡ row 32 []

-- 1B: a count, as many bytes, and a number of two bytes; nothing is FIELD
pub record ReadyRead : Type 0 where
  pub read :
      (h l : ℕ) (p : List ℕ) → length p ≡ h * 256 + l + 2
      → read_of 0x1B (h ∷ l ∷ p) ≡ row 0 (0x1B ∷ (get_or p (h * 256 + l) 0 * 256 + get_or p (h * 256 + l + 1) 0) ∷ [])
  pub size : (h l : ℕ) (p : List ℕ) → length p ≢ h * 256 + l + 2 → read_of 0x1B (h ∷ l ∷ p) ≡ row 32 []
  pub short : (p : List ℕ) → length p < 2 → read_of 0x1B p ≡ row 32 []

-- 1D: two numbers of two bytes, and any bytes p; nothing is FIELD
pub record PieceRead : Type 0 where
  pub read :
      (a b c d : ℕ) (p : List ℕ)
      → read_of 0x1D (a ∷ b ∷ c ∷ d ∷ p) ≡ row 0 (0x1D ∷ (a * 256 + b) ∷ (c * 256 + d) ∷ [])
  pub short : (p : List ℕ) → length p < 4 → read_of 0x1D p ≡ row 32 []

-- of all commands
pub record ReadsExactly : Type 0 where
  pub unlisted :
      (command : ℕ) (p : List ℕ) → among command empty_commands ≡ false → among command other_commands ≡ false
      → read_of command p ≡ row 31 []
  pub empty : (command : ℕ) → among command empty_commands ≡ true → EmptyRead command
  pub information : (p : List ℕ) → InformationRead p
  pub action : ActionRead
  pub acknowledged : read_of 0x04 [] ≡ row 0 (0x04 ∷ [])
  pub status : StatusRead 0x04 3
  pub no_report : read_of 0x05 [] ≡ row 32 []
  pub report : StatusRead 0x05 4
  pub onboarding : ByteRead 0x09 2
  pub network : NetworkRead
  pub module_reject : ByteRead 0x11 4
  pub box_reject : ByteRead 0x12 4
  pub time : TimeRead
  pub announcement : AnnouncementRead
  pub ready : ReadyRead
  pub piece : PieceRead
