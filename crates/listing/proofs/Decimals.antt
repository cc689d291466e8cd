-- The digits computed are the decimal text of a number, and the only one. Assumes nothing.
use Prim.Native.Nat.{ℕ, zero, suc, ◌+◌, ◌*◌, ◌-◌, ◌/◌, ◌%◌, ◌≤◌, ◌<◌}
use mathlib.Core.Path.{◌≡◌, refl, sym, ap, ◌∙◌}
use mathlib.Core.List.Memᴰ
use mathlib.Core.List.{List, [], ◌∷◌, ◌++◌, append-nil, append_assoc, Memᴰ}
use mathlib.Core.Logic.{⊎_elim}
use native.Mathlib.Nat.{div-add-mod', mod-lt}
use native.Mathlib.Omega.{arith}
use lib.ListN.{get_or, length-append}
use Rattle.listing.specs.Decimal.{value_from, IsDigit, DecimalText}
use Rattle.listing.specs.Digits.{digit, decimal_of}
use Rattle.listing.specs.Decimals.{DecimalTexts, OneDecimal}
use Rattle.listing.proofs.Digits.{by_size, tenth, decimal_last, decimal_more}

-- a digit after a text
value_more : (n : ℕ) (ds : List ℕ) (d : ℕ) → value_from n (ds ++ digit d ∷ []) ≡ 10 * value_from n ds + d
unfolding value_from
value_more n [] d = omega arith
value_more n (x ∷ ds) d = value_more (10 * n + (x - 48)) ds d

-- the byte of a digit
is_digit : (d b : ℕ) → d < 10 → Memᴰ b (digit d ∷ []) → IsDigit b
is_digit d b h m = rw (Memᴰ.eq_of_singleton m) (record { from = omega arith; to = omega arith })

-- one digit
one : (n : ℕ) → n ≤ 9 → DecimalText n (digit n ∷ [])
unfolding value_from
one n h =
    record {
      value = omega arith;
      digits = λ b m. is_digit n b (omega arith) m;
      some = omega arith;
      shortest = λ l. absurd (omega arith);
    }

-- the first digit of a tenth that is not 0 is not 0
first : (t : List ℕ) (q : ℕ) → 1 ≤ q → DecimalText q t → (rest : List ℕ) → 49 ≤ get_or (t ++ rest) 0 0
unfolding value_from
first [] q h t rest = absurd (let none = t.some in omega arith)
first (d ∷ []) q h t rest = let value = t.value in omega arith
first (d ∷ e ∷ ds) q h t rest = t.shortest (omega arith)

-- a tenth's digits, and one more
more : (n : ℕ) → 9 < n → (t : List ℕ) → DecimalText (n / 10) t → DecimalText n (t ++ digit (n % 10) ∷ [])
more n h t front =
    let last : n % 10 < 10 = mod-lt n (omega arith) in
    record {
      value = value_more 0 t (n % 10) ∙ rw front.value (omega (arith, div-add-mod' n 10));
      digits = λ b m. ⊎_elim (front.digits b) (is_digit (n % 10) b last) (Memᴰ.append_cases t m);
      some = rw length-append (omega arith);
      shortest = λ l. first t (n / 10) (omega (arith, div-add-mod' n 10)) front (digit (n % 10) ∷ []);
    }

-- by as many steps as are enough
texts : (k n : ℕ) → n < k → DecimalText n (decimal_of n)
texts zero n h = absurd (omega arith)
texts (suc k) n h =
    by_size n _ (λ s. rw (decimal_last n s) (one n s))
    (λ l. rw (decimal_more n l) (more n l (decimal_of (n / 10)) (texts k (n / 10) (tenth n k l h))))

pub decimal_text : DecimalTexts
decimal_text n = texts (suc n) n (omega arith)

-- ---- no other text

-- a digit after the digits of a number that is not 0
decimal_after : (m c : ℕ) → 1 ≤ m → c ≤ 9 → decimal_of (10 * m + c) ≡ decimal_of m ++ digit c ∷ []
decimal_after m c h g =
    let last : (10 * m + c) % 10 < 10 = mod-lt (10 * m + c) (omega arith) in
    let q : (10 * m + c) / 10 ≡ m = omega (arith, div-add-mod' (10 * m + c) 10) in
    let r : (10 * m + c) % 10 ≡ c = omega (arith, div-add-mod' (10 * m + c) 10) in
    decimal_more (10 * m + c) (omega arith) ∙ rw (q, r)

-- digits after the digits of a number that is not 0
decimals_after : (m : ℕ) (ds : List ℕ)
    → 1 ≤ m → ((d : ℕ) → Memᴰ d ds → IsDigit d) → decimal_of (value_from m ds) ≡ decimal_of m ++ ds
unfolding value_from
decimals_after m [] h g = sym (append-nil (decimal_of m))
decimals_after m (d ∷ ds) h g =
    let first : IsDigit d = g d (Memᴰ.head refl) in
    let same : digit (d - 48) ≡ d = omega (arith, first.from) in
    decimals_after (10 * m + (d - 48)) ds (omega arith) (λ x k. g x (Memᴰ.tail k))
    ∙ rw (decimal_after m (d - 48) h (omega (arith, first.to)), same, append_assoc)

-- by the first digit: alone, or not 0
pub one_decimal : OneDecimal
unfolding value_from
one_decimal n [] t = absurd (let none = t.some in omega arith)
one_decimal n (d ∷ []) t =
    let first : IsDigit d = t.digits d (Memᴰ.head refl) in
    let same : digit n ≡ d = omega (arith, first.from, t.value) in
    sym (decimal_last n (omega (arith, first.to, t.value)) ∙ rw same)
one_decimal n (d ∷ e ∷ ds) t =
    let first : IsDigit d = t.digits d (Memᴰ.head refl) in
    let least : 49 ≤ d = t.shortest (omega arith) in
    let same : digit (d - 48) ≡ d = omega arith in
    let only : decimal_of (d - 48) ≡ d ∷ [] = decimal_last (d - 48) (omega (arith, first.to)) ∙ rw same in
    let from : d - 48 ≡ 10 * 0 + (d - 48) = omega arith in
    let value : value_from (d - 48) (e ∷ ds) ≡ n = ap (λ (k : ℕ). value_from k (e ∷ ds)) from ∙ t.value in
    let all = decimals_after (d - 48) (e ∷ ds) (omega arith) (λ x k. t.digits x (Memᴰ.tail k)) in
    sym (ap decimal_of (sym value) ∙ (all ∙ rw only))
