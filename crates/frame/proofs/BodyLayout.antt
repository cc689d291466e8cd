-- body_layout and chunks_joined; made_good is in RoundTrip. Assumes nothing.
use Rattle.std.proofs.Common.{◌≡◌, ℕ, ◌+◌, ◌-◌, ◌*◌, ◌%◌, ◌≤◌, List, [], ◌∷◌, ◌++◌, length, sym, refl, ap, ◌∙◌}
use Rattle.std.proofs.Common.{append-nil, append_assoc, arith, length-append, take_all, take_at}
use lib.Seq.{get_or_at}
use Rattle.base.specs.Sums.{total, checksum}
use Rattle.frame.specs.Wire.{length_of, found_sum, computed_sum, Good}
use Rattle.frame.specs.BodyLayout.{BodyLayouts, AllChunksJoined}

module _ (b0 b1 b2 b3 b4 b5 s : ℕ) (p : List ℕ) where
  abbrev head : List ℕ
  head = b0 ∷ b1 ∷ b2 ∷ b3 ∷ b4 ∷ b5 ∷ p

  abbrev body : List ℕ
  body = head ++ s ∷ []

  -- the sum of the bytes that precede it, added up from the left
  sum_left : checksum head ≡ (b0 + b1 + b2 + b3 + b4 + b5 + total p) % 256
  unfolding total
  sum_left = ap (λ (n : ℕ). n % 256) (omega arith)

  size : b0 * 256 + b1 ≡ length p + 5 → length head ≡ length_of body + 1
  size e = omega arith

  -- the sum found, and the sum computed
  found : b0 * 256 + b1 ≡ length p + 5 → found_sum body ≡ s
  found e = get_or_at head s [] 0 (length_of body + 1) (size e)

  computed : b0 * 256 + b1 ≡ length p + 5 → computed_sum body ≡ checksum head
  computed e = ap checksum (take_at head (s ∷ []) (length_of body + 1) (size e))

  good : (limit : ℕ) → b0 * 256 + b1 ≡ length p + 5 → length p + 5 ≤ limit → s ≡ checksum head → Good limit body
  good limit e fits holds =
      record {
        true_length = omega (arith, length-append head (s ∷ []));
        shortest = omega arith;
        longest = omega arith;
        sum_holds = found e ∙ holds ∙ sym (computed e);
      }

  good_parts : (limit : ℕ) → Good limit body
      → (b0 * 256 + b1 ≡ length p + 5) × (length p + 5 ≤ limit) × (s ≡ checksum head)
  good_parts limit g =
      let e : b0 * 256 + b1 ≡ length p + 5 = omega (arith, g.true_length, length-append head (s ∷ [])) in (
        e,
        omega (arith, g.longest),
        sym (found e) ∙ g.sum_holds ∙ computed e,
      )

pub body_layout : BodyLayouts
body_layout b0 b1 b2 b3 b4 b5 s p r =
    record {
      length_at = refl;
      command_at = refl;
      number_at = refl;
      flags_at = refl;
      payload_at = refl;
      payload_whole = λ e. take_at p (s ∷ []) (b0 * 256 + b1 - 5) (omega arith);
      sums_at = λ e.
          (found b0 b1 b2 b3 b4 b5 s p e, computed b0 b1 b2 b3 b4 b5 s p e ∙ sum_left b0 b1 b2 b3 b4 b5 s p);
      good_when = λ limit e fits holds. good b0 b1 b2 b3 b4 b5 s p limit e fits
          (holds ∙ sym (sum_left b0 b1 b2 b3 b4 b5 s p));
      good_only = λ limit g.
          let w = good_parts b0 b1 b2 b3 b4 b5 s p limit g in
          (w.0, w.1, w.2 ∙ sum_left b0 b1 b2 b3 b4 b5 s p);
      no_command = refl;
      no_number = refl;
      no_flags = refl;
      no_payload = take_all (b0 * 256 + b1 - 5) [] (omega arith);
    }

pub chunks_joined : AllChunksJoined
chunks_joined a b c =
    record {
      worked = refl;
      in_order = sym (append_assoc a b c);
      as_parts = λ p q r e f g. rw (e, f, g, append-nil c) refl;
    }
