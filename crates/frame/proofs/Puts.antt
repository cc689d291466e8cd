-- A byte put at its place of the body: it is there, and nothing else changes. All laws of the reader rely on these
-- facts alone. Assumes nothing.
use Rattle.std.proofs.Common.{◌≡◌, ℕ, ◌+◌, ◌<◌, Bool, true, false, ◌≢◌, List, [], ◌∷◌, ◌++◌, length, get_or, take, sym}
use Rattle.std.proofs.Common.{refl, ap, ◌∙◌, add-one, arith, length-set, length-take-le, get_or-set_other, get_or-take}
use Rattle.std.proofs.Common.{take-suc, get_or-set_same, ext_get_or}
use Rattle.frame.specs.Rules.{put_of}

pub put_other : (t : Bool) (body : List ℕ) (at v i : ℕ) → i ≢ at → get_or (put_of t body at v) i 0 ≡ get_or body i 0
put_other true body at v i n = get_or-set_other body at i v 0 n
put_other false body at v i n = refl

pub put_length : (t : Bool) (body : List ℕ) (at v : ℕ) → length (put_of t body at v) ≡ length body
put_length true body at v = length-set body at v
put_length false body at v = refl

module _ (body : List ℕ) (at v : ℕ) (room : at < length body) where
  pub put_same : get_or (put_of true body at v) at 0 ≡ v
  put_same = get_or-set_same body at v 0 room

  abbrev after : List ℕ
  after = put_of true body at v

  size : length after ≡ length body
  size = put_length true body at v

  -- the bytes up to it
  front : take at after ≡ take at body
  front =
      let n : length (take at after) ≡ at = length-take-le at after (omega (arith, size)) in
      let m : length (take at body) ≡ at = length-take-le at body (omega arith) in
      ext_get_or 0 (take at after) (take at body) (n ∙ sym m)
      (λ i h.
      let low : i < at = omega arith in
      get_or-take at after i 0 low ∙ put_other true body at v i (λ e. omega arith) ∙ sym (get_or-take at body i 0 low))

  -- and with it
  pub stored : take (at + 1) after ≡ take at body ++ v ∷ []
  stored =
      rw add-one (take-suc after at 0 (omega (arith, size)))
      ∙ ap (λ (l : List ℕ). l ++ get_or after at 0 ∷ []) front
      ∙ ap (λ (x : ℕ). take at body ++ x ∷ []) put_same
