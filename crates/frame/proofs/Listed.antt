-- `frames_of` lists the frames of a stream, each once, in order of rising start, and no two overlap.
use Rattle.std.proofs.Common.{◌≡◌, ℕ, suc, ◌+◌, ◌≤◌, ◌⊎◌, List, [], ◌∷◌, ◌++◌, length, sym, refl, ap, ◌∙◌, inl, inr}
use Rattle.std.proofs.Common.{add-zero, arith}
use mathlib.Core.List.Memᴰ
use mathlib.Core.List.{Memᴰ}
use mathlib.Core.List.{cons≢nil, tail-eq_of_cons-eq}
use mathlib.Core.Option.{Option, none, some}
use Rattle.frame.specs.Wire.{Good, wire}
use Rattle.frame.specs.Frames.{AllFrom, Apart, Lists, Found}
use Rattle.frame.specs.FramesComputed.{here, listed, frames_from, frames_of}
use Rattle.frame.proofs.Here.{FrameHere, here_sound, here_some}
use Rattle.frame.proofs.Skip.{after_header, good_first}

-- a frame of t, where the first byte of t is at place n
record FrameFrom (limit n : ℕ) (t : List ℕ) (f : Found) : Type 0 where
  before : List ℕ
  after : List ℕ
  bytes : t ≡ before ++ (wire f.body ++ after)
  starts : f.start ≡ n + length before
  ends : f.end ≡ n + length before + length (wire f.body)
  good : Good limit f.body

later : (limit n x : ℕ) (xs : List ℕ) (f : Found) → FrameFrom limit (suc n) xs f → FrameFrom limit n (x ∷ xs) f
later limit n x xs f h =
    record {
      before = x ∷ h.before;
      after = h.after;
      bytes = ap (λ (l : List ℕ). x ∷ l) h.bytes;
      starts = omega (arith, h.starts);
      ends = omega (arith, h.ends);
      good = h.good;
    }

sound : (limit n : ℕ) (t : List ℕ) (f : Found) → Memᴰ f (frames_from limit n t) → FrameFrom limit n t f
unfolding frames_from
sound limit n [] f m = absurd (Memᴰ.not-nil m)
sound limit n (x ∷ xs) f m = go (here limit (x ∷ xs)) refl m (λ k. sound limit (suc n) xs f k)
  where
    go : (o : Option (List ℕ)) → here limit (x ∷ xs) ≡ o → Memᴰ f (listed n o (frames_from limit (suc n) xs))
        → (Memᴰ f (frames_from limit (suc n) xs) → FrameFrom limit (suc n) xs f) → FrameFrom limit n (x ∷ xs) f
    go none e m ih = later limit n x xs f (ih m)
    go (some b) e m ih = pick (Memᴰ.cases_cons m)
      where
        pick : (f ≡ record { start = n; end = n + length (wire b); body = b })
            ⊎ Memᴰ f (frames_from limit (suc n) xs) → FrameFrom limit n (x ∷ xs) f
        pick (inr k) = later limit n x xs f (ih k)
        pick (inl q) =
            let h : FrameHere limit (x ∷ xs) b = here_sound limit (x ∷ xs) b e in
            rw q (record {
              before = [];
              after = h.rest;
              bytes = h.bytes;
              starts = omega arith;
              ends = omega arith;
              good = h.good;
            })

complete : (limit n : ℕ) (t before after b : List ℕ) → t ≡ before ++ (wire b ++ after) → Good limit b
    → Memᴰ (record { start = n + length before; end = n + length before + length (wire b); body = b })
    (frames_from limit n t)
unfolding frames_from
complete limit n [] [] after b e g = absurd (cons≢nil (sym e))
complete limit n [] (y ∷ ys) after b e g = absurd (cons≢nil (sym e))
complete limit n (x ∷ xs) [] after b e g =
    rw (here_some limit (x ∷ xs) b (record { rest = after; bytes = e; good = g }), add-zero) (Memᴰ.head refl)
complete limit n (x ∷ xs) (y ∷ ys) after b e g =
    go (here limit (x ∷ xs)) (complete limit (suc n) xs ys after b (tail-eq_of_cons-eq e) g)
  where
    same : n + suc (length ys) ≡ suc n + length ys
    same = omega arith

    go : (o : Option (List ℕ))
        → Memᴰ (record { start = suc n + length ys; end = suc n + length ys + length (wire b); body = b })
        (frames_from limit (suc n) xs)
        → Memᴰ (record { start = n + suc (length ys); end = n + suc (length ys) + length (wire b); body = b })
        (listed n o (frames_from limit (suc n) xs))
    go none m = rw same m
    go (some c) m = rw same (Memᴰ.tail m)

all_later : (m n : ℕ) (l : List Found) → m ≤ n → AllFrom n l → AllFrom m l
all_later m n [] h a = tt
all_later m n (f ∷ l) h a = (omega (arith, a.0), all_later m n l h a.1)

all_from : (limit n : ℕ) (t : List ℕ) → AllFrom n (frames_from limit n t)
unfolding frames_from
all_from limit n [] = tt
all_from limit n (x ∷ xs) =
    go (here limit (x ∷ xs)) (all_later n (suc n) (frames_from limit (suc n) xs) (omega arith)
    (all_from limit (suc n) xs))
  where
    go : (o : Option (List ℕ))
        → AllFrom n (frames_from limit (suc n) xs) → AllFrom n (listed n o (frames_from limit (suc n) xs))
    go none a = a
    go (some b) a = (omega arith, a)

apart : (limit : ℕ) → limit ≤ 65279 → (n : ℕ) (t : List ℕ) → Apart (frames_from limit n t)
unfolding frames_from
apart limit small n [] = tt
apart limit small n (x ∷ xs) = go (here limit (x ∷ xs)) refl (apart limit small (suc n) xs)
  where
    go : (o : Option (List ℕ)) → here limit (x ∷ xs) ≡ o → Apart (frames_from limit (suc n) xs)
        → Apart (listed n o (frames_from limit (suc n) xs))
    go none e a = a
    go (some b) e a =
        let h : FrameHere limit (x ∷ xs) b = here_sound limit (x ∷ xs) b e in
        let q : frames_from limit (suc n) xs ≡ frames_from limit (n + length (wire b)) h.rest
        = ap (λ (l : List ℕ). frames_from limit (suc n) l) (tail-eq_of_cons-eq h.bytes)
        ∙ after_header limit b h.rest n (omega (arith, h.good.true_length))
        (good_first limit b small h.good) in
        (omega arith, (rw q (all_from limit (n + length (wire b)) h.rest)), a)

found_path : (f : Found) {s e : ℕ} → f.start ≡ s → f.end ≡ e → f ≡ record { start = s; end = e; body = f.body }
found_path f p q = λ i. record { start = p i; end = q i; body = f.body }

pub frames_of_lists : (limit : ℕ) → limit ≤ 65279 → (t : List ℕ) → Lists limit t (frames_of limit t)
frames_of_lists limit small t =
    record {
      sound = λ f m. let h = sound limit 0 t f m in
          record {
            before = h.before;
            after = h.after;
            bytes = h.bytes;
            starts = omega (arith, h.starts);
            ends = omega (arith, h.ends);
            good = h.good;
          };
      complete = λ f h.
          let q : f ≡ record {
            start = 0 + length h.before;
            end = 0 + length h.before + length (wire f.body);
            body = f.body;
          }
          = found_path f (omega (arith, h.starts)) (omega (arith, h.ends)) in
          rw q (complete limit 0 t h.before h.after f.body h.bytes h.good);
      apart = apart limit small 0 t;
    }
