-- Laws of writing: bytes stuffed one by one, parts joined, and a frame from its head, parts and sum. Assumes nothing.
use Rattle.std.proofs.Common.{◌≡◌, ℕ, ◌+◌, ◌%◌, ◌^◌, ◌<◌, ◌≤◌, List, [], ◌∷◌, ◌++◌, length, get_or, take, drop, set}
use Rattle.std.proofs.Common.{sym, refl, ap, ◌∙◌, append-nil, arith, length-append, take-append-drop, eq-eqb, ne_eqb}
use Rattle.std.proofs.lemmas.List.{take_more}
use Rattle.std.proofs.lemmas.Grind.{flat_map-append}
use Rattle.std.specs.Borrow.{Bor}
use Rattle.frame.specs.Wire.{stuff, wire, joined, joined_chunks}
use Rattle.frame.specs.Calls.{framed, Added}
use Rattle.base.specs.Stores.{PutAt}
use Rattle.base.specs.Sums.{total}
use Rattle.base.proofs.Stores.{put_join}
use Rattle.base.proofs.Sums.{total-append}
use Rattle.frame.proofs.Stuffing.{stuff-append}

-- ---- one byte, stuffed

pub stuff_ff : {v : ℕ} → v ≡ 255 → stuff (v ∷ []) ≡ v ∷ 85 ∷ []
unfolding stuff
stuff_ff {v} e = rw (eq-eqb v 255 e)

pub stuff_other : {v : ℕ} → (v ≡ 255 → ⊥) → stuff (v ∷ []) ≡ v ∷ []
unfolding stuff
stuff_other {v} n = rw (ne_eqb v 255 n)

-- ---- the first bytes, and one more

module _ (b : List ℕ) (i : ℕ) (h : i < length b) where
  pub stuff_more : stuff (take (i + 1) b) ≡ stuff (take i b) ++ stuff (get_or b i 0 ∷ [])
  stuff_more = rw (take_more b i 0 h) (stuff-append (take i b) (get_or b i 0 ∷ []))

  pub stuff_fits : length (stuff (take i b)) + length (stuff (get_or b i 0 ∷ [])) ≤ length (stuff b)
  stuff_fits =
      let whole : stuff b ≡ stuff (take (i + 1) b) ++ stuff (drop (i + 1) b) =
      ap stuff (sym (take-append-drop (i + 1) b)) ∙ stuff-append (take (i + 1) b) (drop (i + 1) b) in
      omega (
        arith,
        ap length whole,
        length-append (stuff (take (i + 1) b)) (stuff (drop (i + 1) b)),
        ap length stuff_more,
        length-append (stuff (take i b)) (stuff (get_or b i 0 ∷ [])),
      )

-- ---- the first parts, and one more

module _ (ps : List (Bor (List ℕ))) (i : ℕ) (d : Bor (List ℕ)) (h : i < length ps) where
  pub joined_more : joined (take (i + 1) ps) ≡ joined (take i ps) ++ (get_or ps i d).now
  joined_more =
      let next : Bor (List ℕ) = get_or ps i d in
      rw (take_more ps i d h)
      (flat_map-append (λ (p : Bor (List ℕ)). p.now) (take i ps) (next ∷ [])
      ∙ ap (λ (l : List ℕ). joined (take i ps) ++ l) (append-nil next.now))

  -- the others are behind them
  joined_rest : joined ps ≡ joined (take (i + 1) ps) ++ joined (drop (i + 1) ps)
  joined_rest =
      ap joined (sym (take-append-drop (i + 1) ps))
      ∙ flat_map-append (λ (p : Bor (List ℕ)). p.now) (take (i + 1) ps) (drop (i + 1) ps)

  pub joined_fits : length (joined (take i ps)) + length (get_or ps i d).now ≤ length (joined ps)
  joined_fits =
      omega (
        arith,
        ap length joined_rest,
        length-append (joined (take (i + 1) ps)) (joined (drop (i + 1) ps)),
        ap length joined_more,
        length-append (joined (take i ps)) (get_or ps i d).now,
      )

  pub stuff_joined_fits :
      length (stuff (joined (take i ps))) + length (stuff (get_or ps i d).now) ≤ length (stuff (joined ps))
  stuff_joined_fits =
      let whole : stuff (joined ps) ≡ stuff (joined (take (i + 1) ps)) ++ stuff (joined (drop (i + 1) ps)) =
      ap stuff joined_rest ∙ stuff-append (joined (take (i + 1) ps)) (joined (drop (i + 1) ps)) in
      let more : stuff (joined (take (i + 1) ps)) ≡ stuff (joined (take i ps)) ++ stuff (get_or ps i d).now =
      ap stuff joined_more ∙ stuff-append (joined (take i ps)) (get_or ps i d).now in
      omega (
        arith,
        ap length whole,
        length-append (stuff (joined (take (i + 1) ps))) (stuff (joined (drop (i + 1) ps))),
        ap length more,
        length-append (stuff (joined (take i ps))) (stuff (get_or ps i d).now),
      )

-- ---- bytes added

-- none
pub add_none : (count sum : ℕ) → sum < 2 ^ 8 → Added count sum [] count sum
unfolding stuff total
add_none count sum h = omega arith

-- some bytes added, and more after them, are their join added
pub add_append : (n s : ℕ) (xs ys : List ℕ) {m t p u : ℕ}
    → Added n s xs m t → Added m t ys p u → Added n s (xs ++ ys) p u
add_append n s xs ys e f =
    rw (stuff-append xs ys, total-append xs ys) (omega (arith, length-append (stuff xs) (stuff ys)))

-- the first bytes added, and one more
pub add_more : (n s : ℕ) (bytes : List ℕ) (i : ℕ) → i < length bytes → {m t p u : ℕ}
    → Added n s (take i bytes) m t → p ≡ m + length (stuff (get_or bytes i 0 ∷ []))
    → u ≡ (t + get_or bytes i 0) % 2 ^ 8 → Added n s (take (i + 1) bytes) p u
unfolding total
add_more n s bytes i h {t} {u} e f g =
    let one : u ≡ (t + total (get_or bytes i 0 ∷ [])) % 2 ^ 8 = omega arith in
    rw (take_more bytes i 0 h) (add_append n s (take i bytes) (get_or bytes i 0 ∷ []) e (f, one))

-- the first parts added, and one more
pub add_part : (n s : ℕ) (parts : List (Bor (List ℕ))) (i : ℕ) (d : Bor (List ℕ)) → i < length parts
    → {m t p u : ℕ} → Added n s (joined (take i parts)) m t → Added m t (get_or parts i d).now p u
    → Added n s (joined (take (i + 1) parts)) p u
add_part n s parts i d h e f =
    rw (joined_more parts i d h) (add_append n s (joined (take i parts)) (get_or parts i d).now e f)

-- ---- bytes put, stuffed

-- none
pub put_none : (out : List ℕ) (at : ℕ) → PutAt out at (stuff []) at out
unfolding stuff
put_none out at = (omega arith, refl)

-- some bytes put, and more after them, are their join put
pub put_append : (out xs ys : List ℕ) (at : ℕ) {a b : List ℕ} {p q : ℕ}
    → PutAt out at (stuff xs) p a → PutAt a p (stuff ys) q b
    → PutAt out at (stuff (xs ++ ys)) q b
put_append out xs ys at e f = rw stuff-append (put_join out (stuff xs) (stuff ys) at e f)

-- the first bytes put, and one more
pub put_more : (out bytes : List ℕ) (at i : ℕ) → i < length bytes → {a b : List ℕ} {p q : ℕ}
    → PutAt out at (stuff (take i bytes)) p a → PutAt a p (stuff (get_or bytes i 0 ∷ [])) q b
    → PutAt out at (stuff (take (i + 1) bytes)) q b
put_more out bytes at i h e f =
    rw (take_more bytes i 0 h) (put_append out (take i bytes) (get_or bytes i 0 ∷ []) at e f)

-- the first parts put, and one more
pub put_part : (out : List ℕ) (parts : List (Bor (List ℕ))) (at i : ℕ) (d : Bor (List ℕ)) → i < length parts
    → {a b : List ℕ} {p q : ℕ} → PutAt out at (stuff (joined (take i parts))) p a
    → PutAt a p (stuff (get_or parts i d).now) q b → PutAt out at (stuff (joined (take (i + 1) parts))) q b
put_part out parts at i d h e f =
    rw (joined_more parts i d h) (put_append out (joined (take i parts)) (get_or parts i d).now at e f)

-- a header put by two stores, and a body after it
pub put_framed : (out body : List ℕ) {b : List ℕ} {q : ℕ}
    → PutAt (set (set out 0 255) 1 255) 2 (stuff body) q b → PutAt out 0 (wire body) q b
put_framed out body e = (omega arith, e.1)

-- ---- sizes: of three chunks, and of a frame from its head, payload and sum

pub chunks_length : (first second third : List ℕ)
    → length (joined_chunks first second third) ≡ length first + (length second + length third)
chunks_length first second third = simp length-append

pub stuffed_length : (first second third : List ℕ)
    → length (stuff (joined_chunks first second third)) ≡ length (stuff first)
    + (length (stuff second) + length (stuff third))
stuffed_length first second third = simp (stuff-append, length-append)

pub framed-length : (head payload : List ℕ) (sum : ℕ)
    → length (framed head payload sum) ≡ 2 + length (stuff head) + length (stuff payload) + length (stuff (sum ∷ []))
framed-length head payload sum = simp (stuff-append, length-append) (omega arith)
