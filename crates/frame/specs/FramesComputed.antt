-- Model: the frames of a stream as a computed list, held to `Lists` by one_list and to `stuff` by stuffed_form.
-- At each place there is one candidate, and it is tested.
use Rattle.std.specs.Prelude.{ℕ, suc, ◌+◌, Bool, true, false, ◌&&◌, List, [], ◌∷◌, length, drop, ◌==◌, nat_le}
use Rattle.std.proofs.Math.Option.{Option, none, some}
use Rattle.frame.specs.Frames.{Found, front_body}
use Rattle.frame.specs.Wire.{wire, length_of, found_sum, computed_sum}

-- the body of a stuffed form: the byte after each FF is dropped
unfoldable pub unstuff : Bool → List ℕ → List ℕ
unstuff skip [] = []
unstuff true (x ∷ xs) = unstuff false xs
unstuff false (x ∷ xs) = x ∷ unstuff (x == 255) xs

-- whether the second list begins with the first
unfoldable pub starts_with : List ℕ → List ℕ → Bool
starts_with [] t = true
starts_with (x ∷ xs) [] = false
starts_with (x ∷ xs) (y ∷ ys) = x == y && starts_with xs ys

-- the only body that a frame at the front of t can have
unfoldable pub candidate : List ℕ → List ℕ
candidate t = front_body (unstuff false (drop 2 t))

-- whether the sum of a body holds: PROTOCOL 2.5
unfoldable pub is_sum : List ℕ → Bool
is_sum b = found_sum b == computed_sum b

-- whether a body is good: PROTOCOL 2.9
unfoldable pub is_good : ℕ → List ℕ → Bool
is_good limit b = length b == length_of b + 2 && (nat_le 5 (length_of b) && (nat_le (length_of b) limit && is_sum b))

-- the body, if the test holds
abbrev pub keep : Bool → List ℕ → Option (List ℕ)
keep true b = some b
keep false b = none

-- the body of the frame at the front of t
unfoldable pub here : ℕ → List ℕ → Option (List ℕ)
here limit t = keep (starts_with (wire (candidate t)) t && is_good limit (candidate t)) (candidate t)

-- a body found at place n, followed by the frames after it
abbrev pub listed : ℕ → Option (List ℕ) → List Found → List Found
listed n none rest = rest
listed n (some b) rest = record { start = n; end = n + length (wire b); body = b } ∷ rest

-- the frames of a list whose first byte is at place n
unfoldable pub frames_from : ℕ → ℕ → List ℕ → List Found
frames_from limit n [] = []
frames_from limit n (x ∷ xs) = listed n (here limit (x ∷ xs)) (frames_from limit (suc n) xs)

-- the frames of a stream, in order of rising start
abbrev pub frames_of : ℕ → List ℕ → List Found
frames_of limit t = frames_from limit 0 t
