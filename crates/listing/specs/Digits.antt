-- Model: the digits of a number, computed, held to DecimalText by decimal_text and one_decimal. PROTOCOL 10.3.
use Rattle.std.specs.Prelude.{ℕ, zero, suc, ◌+◌, ◌/◌, ◌%◌, cond, List, [], ◌∷◌, ◌++◌, ltb}

-- a digit below 10 in ASCII
abbrev pub digit : ℕ → ℕ
digit d = 48 + d

-- at most so many digits of n, the most significant first
unfoldable pub digits_in : ℕ → ℕ → List ℕ
digits_in zero n = []
digits_in (suc k) n = cond (ltb n 10) [] (digits_in k (n / 10)) ++ digit (n % 10) ∷ []

-- all digits of n: suc n of them are always enough
unfoldable pub decimal_of : ℕ → List ℕ
decimal_of n = digits_in (suc n) n
