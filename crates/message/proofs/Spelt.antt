-- A list spelt out byte by byte, and bytes made again of their bits. Assumes nothing.
use Prim.Native.Nat.{ℕ, zero, suc, ◌+◌, ◌*◌, ◌/◌, ◌%◌, ◌<◌, ◌≤◌}
use mathlib.Core.Path.{◌≡◌, sym, ap, ◌∙◌}
use mathlib.Core.Bool.{Bool, true, false}
use mathlib.Core.List.{List, [], ◌∷◌, ◌++◌, append-nil}
use native.Mathlib.Nat.{add-zero, add_comm}
use native.Mathlib.Omega.{arith}
use lib.ListN.{length, get_or, drop, drop_of_length-le}
use lib.Seq.{drop-cons}
use lib.Arith.{mod-mul}
use Rattle.base.proofs.Lists.{Each, all_same}
use Rattle.message.specs.Numbers.{num}

-- ---- a list spelt out

-- so many bytes from a place on
abbrev pub spell : ℕ → ℕ → List ℕ → List ℕ
spell at zero p = []
spell at (suc n) p = get_or p at 0 ∷ spell (at + 1) n p

spelt : (n at : ℕ) (p : List ℕ) → at + n ≤ length p → spell at n p ++ drop (at + n) p ≡ drop at p
spelt zero at p h = ap (λ (k : ℕ). drop k p) (add-zero at)
spelt (suc n) at p h =
    let here : drop at p ≡ get_or p at 0 ∷ drop (suc at) p = drop-cons p at 0 (omega arith) in
    let next : at + 1 + n ≡ at + suc n = omega arith in
    let one : at + 1 ≡ suc at = omega arith in
    let tail : spell (at + 1) n p ++ drop (at + 1 + n) p ≡ drop (at + 1) p = spelt n (at + 1) p (omega arith) in
    cc

-- bytes that are those of a list from a place on, before the rest of it
pub from_place : (at n : ℕ) (p vs : List ℕ) {rest : List ℕ} → at + n ≤ length p → Each vs (spell at n p)
    → rest ≡ drop (at + n) p → vs ++ rest ≡ drop at p
from_place at n p vs h same e = rw (all_same vs (spell at n p) same, e) (spelt n at p h)

-- bytes that are all of a list
pub whole : (n : ℕ) (p vs : List ℕ) → length p ≡ n → Each vs (spell 0 n p) → vs ≡ p
whole n p vs e same =
    sym (append-nil vs) ∙ from_place 0 n p vs (omega arith) same (sym (drop_of_length-le p {i = 0 + n} (omega arith)))

-- ---- bits

-- what is left of a number by m times c, from what is left by c and by m
split : (m c x : ℕ) → 1 ≤ m → 1 ≤ c → x % (m * c) ≡ x % c + x / c % m * c
split m c x h k = mod-mul x h k ∙ add_comm (x / c % m * c) (x % c)

halves : (x : ℕ)
    → (x / 4 ≡ x / 2 / 2) × (x / 8 ≡ x / 2 / 2 / 2) × (x / 16 ≡ x / 2 / 2 / 2 / 2) × (x / 32 ≡ x / 2 / 2 / 2 / 2 / 2)
    × (x / 1 ≡ x)
halves x = omega arith

pub high_bits : (h l : ℕ) → l < 256
    → (h * 256 + l) / 256 % 8 + (h * 256 + l) / 2048 % 2 * 8 + (h * 256 + l) / 4096 % 2 * 16 ≡ h % 32
high_bits h l small =
    let first : (h * 256 + l) / 256 ≡ h = omega arith in
    let second : (h * 256 + l) / 2048 ≡ h / 8 = omega arith in
    let third : (h * 256 + l) / 4096 ≡ h / 8 / 2 = omega arith in
    rw (first, second, third, split 4 8 h (omega arith) (omega arith), split 2 2 (h / 8) (omega arith) (omega arith))
    (sum (h % 8) (h / 8 % 2) (h / 8 / 2 % 2))
  where
    sum : (a b c : ℕ) → a + b * 8 + c * 16 ≡ a + (b + c * 2) * 8
    sum a b c = omega arith

pub low_bits :
    (x : ℕ) → x / 1 % 2 + x / 2 % 2 * 2 + x / 4 % 2 * 4 + x / 8 % 2 * 8 + x / 16 % 2 * 16 + x / 32 % 2 * 32 ≡ x % 64
low_bits x =
    let q = halves x in
    rw (
      q.0,
      q.1,
      q.2,
      q.3,
      q.4,
      split 32 2 x (omega arith) (omega arith),
      split 16 2 (x / 2) (omega arith) (omega arith),
      split 8 2 (x / 2 / 2) (omega arith) (omega arith),
      split 4 2 (x / 2 / 2 / 2) (omega arith) (omega arith),
      split 2 2 (x / 2 / 2 / 2 / 2) (omega arith) (omega arith),
    ) (sum _ _ _ _ _ _)
  where
    sum : (a b c d e f : ℕ)
        → a + b * 2 + c * 4 + d * 8 + e * 16 + f * 32 ≡ a + (b + (c + (d + (e + f * 2) * 2) * 2) * 2) * 2
    sum a b c d e f = omega arith

-- ---- values that count where their flag is set

pub flagged : (set : Bool) (b x y : ℕ) → b ≡ num set → b * x ≡ y → num set * y ≡ b * x
flagged true b x y q e = rw q (omega (arith, rw q at e))
flagged false b x y q e = rw q (omega arith)

pub two_flagged : (set : Bool) (b h l : ℕ) → b ≡ num set → l < 256
    → (b * (h * 256 + l) / 256 ≡ b * h) × (b * (h * 256 + l) % 256 ≡ b * l)
two_flagged true b h l q small = rw q (omega arith)
two_flagged false b h l q small = rw q (omega arith)
