-- `write_any` meets its contract: what it measures is the frame on the wire, so it refuses and writes as the
-- definition does.
use Rattle.std.proofs.Common.{ℕ, ◌≡◌, ◌<◌, ◌≤◌, List, [], ◌∷◌, length, None, Some, Bool, true, false, ap}
use Rattle.std.proofs.Common.{◌∙◌, nat_lt, if◌then◌else◌, arith, le-ltb, ltb-false, refl, subst, ◌+◌}
use Rattle.base.proofs.Stores.{not_placed, put_placed}
use Rattle.base.proofs.Sums.{total-append}
use Rattle.base.specs.Outcomes.{output}
use Rattle.base.specs.Rows.{row}
use Rattle.base.specs.Stores.{PutAt}
use Rattle.frame.specs.Wire.{head_of, body_of, frame_of, frame_limit}
use Rattle.frame.specs.Calls.{framed, write_of, Measured}
use Rattle.frame.proofs.writer.write_any.Goals as goal

-- ---- the size that is found is that of the payload

record Found (size n : ℕ) : Type 0 where
  is : size ≡ n
  fits : n + 5 ≤ frame_limit

found : {size : ℕ} (n : ℕ) → Some size ≡ (if nat_lt frame_limit (n + 5) then None else Some n) → Found size n
found {size} n e = go (nat_lt frame_limit (n + 5)) refl e
  where
    go : (b : Bool) → nat_lt frame_limit (n + 5) ≡ b → Some size ≡ (if b then None else Some n) → Found size n
    go true h q = absurd (grind arith)
    go false h q = record { is = grind arith; fits = ltb-false frame_limit (n + 5) h }

-- ---- head, payload and their sum are the body, and the count is the size of its frame on the wire

module _ (command number flags : ℕ) (payload head : List ℕ) {size count sum : ℕ} (f : Found size (length payload))
    (h : head ≡ head_of size command number flags) (m : Measured head payload count sum) where
  whole : framed head payload sum ≡ frame_of command number flags payload
  unfolding body_of
  whole = rw (m.sum_is, ← total-append, h, f.is)

  counted : count ≡ length (frame_of command number flags payload)
  counted = m.count_is ∙ ap length whole

  module _ (out : List ℕ) where
    no_room : length out < count
        → output (row 22 (count ∷ [])) out ≡ write_of frame_limit command number flags payload out
    no_room g =
        rw (le-ltb frame_limit (length payload + 5) (omega (arith, f.fits)))
        (not_placed (frame_of command number flags payload) out counted g)

    written : count ≤ length out → {next : ℕ} {after : List ℕ} → PutAt out 0 (framed head payload sum) next after
        → output (row 0 (next ∷ [])) after ≡ write_of frame_limit command number flags payload out
    written g {next} {after} put =
        rw (le-ltb frame_limit (length payload + 5) (omega (arith, f.fits)))
        (put_placed (frame_of command number flags payload) out (omega (arith, counted))
        (subst (λ (l : List ℕ). PutAt out 0 l next after) whole put))

pub returns-then-out-measure : goal.returns-then-out-measure
returns-then-out-measure g c =
    let payload : List ℕ = g.P.Bytes.bytes c.args.payload in
    no_room _ _ _ payload _ (found (length payload) c.in-Some.ensures) c.bytes-head.ensures c.sized-measure.ensures
    c.args.out.now c.if-out-measure.true

pub returns : goal.returns
returns g c =
    let payload : List ℕ = g.P.Bytes.bytes c.args.payload in
    written _ _ _ payload _ (found (length payload) c.in-Some.ensures) c.bytes-head.ensures c.sized-measure.ensures
    c.args.out.now c.if-out-measure.false c.put_frame.ensures
