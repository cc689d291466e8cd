-- What `next` answers to bytes of each kind. Assumes nothing.
use Prim.Native.Nat.{ℕ, ◌+◌, ◌≤◌, ◌<◌}
use mathlib.Core.Path.{◌≡◌}
use mathlib.Core.List.{List, [], ◌∷◌}
use borrow.Author.Tests.{lt-ltb, le-ltb}
use lib.ListN.{length}
use Rattle.base.specs.Rows.{row}
use Rattle.base.specs.Outcomes.{outcome}
use Rattle.capture.specs.Format.{mark, head, direction_of, milliseconds_of, size_of}
use Rattle.capture.specs.Reading.{lacking, head_of, record_of}
use Rattle.capture.proofs.Agreeing.{Same, Differs, agrees_of, disagrees_of}
use Rattle.capture.proofs.Heads.{same_mark}

-- at the beginning
module _ (b : List ℕ) where
  pub mark_differs : Differs mark b → head_of b ≡ outcome (row 51 (0 ∷ [])) 0
  mark_differs d = rw (disagrees_of mark b d)

  pub version_differs : Same mark b → Differs head b → head_of b ≡ outcome (row 52 (3 ∷ [])) 0
  version_differs s d = rw (agrees_of mark b s, disagrees_of head b d)

  pub head_few : Same head b → length b < 5 → head_of b ≡ lacking 0
  head_few s h = rw (agrees_of mark b (same_mark b s), agrees_of head b s, lt-ltb (length b) 5 h)

  pub head_whole : Same head b → 5 ≤ length b → head_of b ≡ outcome (row 0 (5 ∷ [])) 5
  head_whole s h = rw (agrees_of mark b (same_mark b s), agrees_of head b s, le-ltb (length b) 5 h)

-- after the head
module _ (place : ℕ) (b : List ℕ) where
  pub direction_wrong : 2 ≤ direction_of b → record_of place b ≡ outcome (row 53 (place ∷ [])) place
  direction_wrong h = rw (lt-ltb 1 (direction_of b) h)

  module _ (one : direction_of b ≤ 1) where
    pub record_few : length b < size_of b → record_of place b ≡ lacking place
    record_few h = rw (le-ltb 1 (direction_of b) one, lt-ltb (length b) (size_of b) h)

    pub record_whole : size_of b ≤ length b → record_of place b
        ≡ outcome (row 1 (size_of b ∷ direction_of b ∷ milliseconds_of b ∷ [])) (place + size_of b)
    record_whole h = rw (le-ltb 1 (direction_of b) one, le-ltb (length b) (size_of b) h)
