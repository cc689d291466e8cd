-- Claims: the digits computed are the decimal text of a number, and the only one. PROTOCOL 10.3.
use Rattle.std.specs.Prelude.{ℕ, ◌≡◌, List}
use Rattle.listing.specs.Decimal.{DecimalText}
use Rattle.listing.specs.Digits.{decimal_of}

-- ---- decimal_text: of every number
abbrev pub DecimalTexts : Type 0
DecimalTexts = (n : ℕ) → DecimalText n (decimal_of n)

-- ---- one_decimal: no other text is a decimal text of it
abbrev pub OneDecimal : Type 0
OneDecimal = (n : ℕ) (text : List ℕ) → DecimalText n text → text ≡ decimal_of n
