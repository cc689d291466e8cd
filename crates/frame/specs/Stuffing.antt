-- Claims: the stuffed form. PROTOCOL 2.1, 2.6 to 2.8, 2.10.
use Rattle.std.specs.Prelude.{◌≡◌, ℕ, ◌*◌, ◌≤◌, false, ◌≢◌, List, [], ◌∷◌, ◌++◌, length}
use Rattle.frame.specs.FramesComputed.{unstuff}
use Rattle.frame.specs.Wire.{stuff, wire, Good, widest}

-- ---- stuffing: a 55 after each FF, and nothing else inserted: PROTOCOL 2.6
pub record Stuffing (x : ℕ) (xs : List ℕ) : Type 0 where
  pub none : stuff [] ≡ []
  pub ff : stuff (255 ∷ xs) ≡ 255 ∷ 85 ∷ stuff xs
  pub other : x ≢ 255 → stuff (x ∷ xs) ≡ x ∷ stuff xs
  pub header : wire xs ≡ 255 ∷ 255 ∷ stuff xs

-- of any bytes
abbrev pub StuffsEach : Type 0
StuffsEach = (x : ℕ) (xs : List ℕ) → Stuffing x xs

-- ---- stuffed_form: PROTOCOL 2.8, and the body is read back
pub record StuffedForm (b : List ℕ) : Type 0 where
  pub no_neighbours : (before after : List ℕ) → stuff b ≢ before ++ 255 ∷ 255 ∷ after
  pub no_last : (before : List ℕ) → stuff b ≢ before ++ 255 ∷ []
  pub at_most_twice : length (stuff b) ≤ 2 * length b
  pub reads_back : unstuff false (stuff b) ≡ b

-- of every body
abbrev pub StuffedForms : Type 0
StuffedForms = (b : List ℕ) → StuffedForm b

-- ---- why_widest: the two readings of PROTOCOL 2.10, and that no frame within the limit has them
pub record WhyWidest : Type 0 where
  pub two_readings : (r : List ℕ) → wire (255 ∷ r) ≡ 255 ∷ wire (85 ∷ r)
  pub kept_away : (limit : ℕ)
      → limit ≤ widest → (b : List ℕ) → Good limit b → (r : List ℕ) → wire b ≢ 255 ∷ 255 ∷ 255 ∷ r
