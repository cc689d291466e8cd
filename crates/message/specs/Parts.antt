-- Statement: the parts of a payload (texts, key, secret, check code, data): places and bytes. PROTOCOL 7.9, 7.10.
use Rattle.std.specs.Prelude.{ℕ, min, List, [], ◌∷◌, length, take, drop}
use Rattle.std.specs.Borrow.{Bor}
use Rattle.base.specs.Parts.{IsPart}
use Rattle.message.specs.declared.parts.Parts.{Parts}
use Rattle.message.specs.declared.parts.Place.{Place}

-- ---- places

-- a place in the payload: a first byte and a count of bytes
abbrev pub place : ℕ → ℕ → Place
place start size = record { start = start; size = size }

-- the place of a part that the message does not have
abbrev pub nowhere : Place
nowhere = place 0 0

-- the eight places, in the order of the code's struct
abbrev pub parts : Place → Place → Place → Place → Place → Place → Place → Place → Parts
parts s p h w k c q d =
    record { serial = s; protocol = p; hardware = h; software = w; key = k; secret = c; code = q; piece = d }

-- 02: bytes 0..8 serial, 8..16 protocol, 16..24 hardware, 24..32 software, 32..64 key; and the secret's place
abbrev pub texts_and : Place → Parts
texts_and secret = parts (place 0 8) (place 8 8) (place 16 8) (place 24 8) (place 32 32) secret nowhere nowhere

-- 19, 1B and 1D: a check code or data
abbrev pub no_texts : Place → Place → Parts
no_texts code piece = parts nowhere nowhere nowhere nowhere nowhere nowhere code piece

-- every other message, and every refused payload
abbrev pub no_parts : Parts
no_parts = no_texts nowhere nowhere

-- a property of each of the eight places
abbrev pub EachPlace : (Place → Type 0) → Parts → Type 0
EachPlace P s =
    P s.serial × P s.protocol × P s.hardware × P s.software
    × P s.key × P s.secret × P s.code × P s.piece

-- ---- bytes

-- the bytes at a place
abbrev pub bytes_of : Place → List ℕ → List ℕ
bytes_of s p = take s.size (drop s.start p)

-- the bytes of the eight parts
abbrev pub bytes_in : Parts → List ℕ → List (List ℕ)
bytes_in s p =
    bytes_of s.serial p ∷ bytes_of s.protocol p ∷ bytes_of s.hardware p ∷ bytes_of s.software p
    ∷ bytes_of s.key p ∷ bytes_of s.secret p ∷ bytes_of s.code p ∷ bytes_of s.piece p ∷ []

-- the slice that a call returns for a place: the payload's own bytes, cut at the payload's end: PROTOCOL 7.9
abbrev pub PartAt : Bor (List ℕ) → Bor (List ℕ) → Place → Type 0
PartAt payload part s = IsPart payload part (min s.start (length payload.now)) s.size
