-- Frames of a stream, in the order of their starts, from frame's definitions and claims: those before a frame are the
-- frames of the bytes before it, and a frame that begins where it ends is next. Assumes nothing.
use Prim.Native.Nat.{ℕ, ◌≤◌, ◌<◌}
use mathlib.Core.Path.{◌≡◌, refl, sym, ap, ◌∙◌}
use mathlib.Core.Logic.{◌⊎◌, inl, inr}
use mathlib.Core.List.Memᴰ
use mathlib.Core.List.{List, [], ◌∷◌, ◌++◌, append_assoc, Memᴰ}
use mathlib.Core.List.{head-eq_of_cons-eq, tail-eq_of_cons-eq}
use native.Mathlib.Omega.{arith}
use lib.ListN.{length, length-append}
use Rattle.frame.specs.Wire.{wire}
use Rattle.frame.specs.Frames.{Found, IsFrame, AllFrom, Apart, Lists}

-- ---- lists of frames that lie apart

-- a list at a member
pub record Around (f : Found) (l : List Found) : Type 0 where
  pub front : List Found
  pub back : List Found
  pub whole : l ≡ front ++ (f ∷ back)

pub around : (f : Found) (l : List Found) → Memᴰ f l → Around f l
around f [] m = absurd (Memᴰ.not-nil m)
around f (g ∷ l) m = go (Memᴰ.cases_cons m) (λ k. around f l k)
  where
    go : (f ≡ g) ⊎ Memᴰ f l → (Memᴰ f l → Around f l) → Around f (g ∷ l)
    go (inl e) below = record { front = []; back = l; whole = ap (λ (x : Found). x ∷ l) (sym e) }
    go (inr k) below =
        let r = below k in
        record { front = g ∷ r.front; back = r.back; whole = ap (λ (x : List Found). g ∷ x) r.whole }

pub from_there : (m : ℕ) (l : List Found) (f : Found) → AllFrom m l → Memᴰ f l → m ≤ f.start
from_there m [] f a k = absurd (Memᴰ.not-nil k)
from_there m (g ∷ l) f a k = go (Memᴰ.cases_cons k) (λ r. from_there m l f a.1 r)
  where
    go : (f ≡ g) ⊎ Memᴰ f l → (Memᴰ f l → m ≤ f.start) → m ≤ f.start
    go (inl e) below = rw e a.0
    go (inr r) below = below r

pub apart_back : (x y : List Found) → Apart (x ++ y) → Apart y
apart_back [] y a = a
apart_back (g ∷ x) y a = apart_back x y a.2

all_front : (m : ℕ) (x y : List Found) → AllFrom m (x ++ y) → AllFrom m x
all_front m [] y a = tt
all_front m (g ∷ x) y a = (a.0, all_front m x y a.1)

pub apart_front : (x y : List Found) → Apart (x ++ y) → Apart x
apart_front [] y a = tt
apart_front (g ∷ x) y a = (a.0, all_front g.end x y a.1, apart_front x y a.2)

-- a frame in front of another ends before it
pub ends_before : (x y : List Found) (f g : Found) → Apart (x ++ (f ∷ y)) → Memᴰ g x → g.end ≤ f.start
ends_before [] y f g a m = absurd (Memᴰ.not-nil m)
ends_before (h ∷ x) y f g a m = go (Memᴰ.cases_cons m) (λ r. ends_before x y f g a.2 r)
  where
    go : (g ≡ h) ⊎ Memᴰ g x → (Memᴰ g x → g.end ≤ f.start) → g.end ≤ f.start
    go (inl e) below = rw e (from_there h.end (x ++ (f ∷ y)) f a.1 (Memᴰ.append_right x (Memᴰ.head refl)))
    go (inr r) below = below r

-- a frame that begins where another ends comes next
module _ (x y : List Found) (f g : Found) (a : Apart (x ++ (f ∷ y))) (touches : g.start ≡ f.end)
    (some : g.start < g.end) where
  abbrev Next : Type 0
  Next = (z : List Found) × (y ≡ g ∷ z)

  next_in : (v : List Found) → Apart (f ∷ v) → Memᴰ g v → (z : List Found) × (v ≡ g ∷ z)
  next_in [] b m = absurd (Memᴰ.not-nil m)
  next_in (h ∷ v) b m = go (Memᴰ.cases_cons m)
    where
      go : (g ≡ h) ⊎ Memᴰ g v → (z : List Found) × (h ∷ v ≡ g ∷ z)
      go (inl e) = (v, ap (λ (k : Found). k ∷ v) (sym e))
      go (inr r) =
          let later = from_there h.end v g b.2.1 r in
          absurd (omega (arith, later, b.1.0, b.2.0, touches))

  pub next_is : Memᴰ g (x ++ (f ∷ y)) → Next
  next_is m = go (Memᴰ.append_cases x m)
    where
      inside : Apart (f ∷ y)
      inside = apart_back x (f ∷ y) a

      here : (g ≡ f) ⊎ Memᴰ g y → Next
      here (inl e) =
          let s : g.start ≡ f.start = ap (λ (k : Found). k.start) e in
          absurd (omega (arith, s, touches, inside.0))
      here (inr r) = next_in y inside r

      go : Memᴰ g x ⊎ Memᴰ g (f ∷ y) → Next
      go (inl r) =
          let e = ends_before x y f g a r in
          absurd (omega (arith, e, touches, some, inside.0))
      go (inr r) = here (Memᴰ.cases_cons r)

-- ---- frames of a stream

-- where they lie
pub lies : (limit : ℕ) (t : List ℕ) (f : Found) → IsFrame limit t f → (f.start < f.end) × (f.end ≤ length t)
lies limit t f h =
    let whole = ap length h.bytes ∙ length-append h.before (wire f.body ++ h.after) in
    let rest = length-append (wire f.body) h.after in
    (omega (arith, h.starts, h.ends), omega (arith, h.ends, whole, rest))

-- more bytes behind it
pub longer : (limit : ℕ) (t w : List ℕ) (f : Found) → IsFrame limit t f → IsFrame limit (t ++ w) f
longer limit t w f h =
    record {
      before = h.before;
      after = h.after ++ w;
      bytes =
          ap (λ l. l ++ w) h.bytes ∙ append_assoc h.before (wire f.body ++ h.after) w
          ∙ ap (λ l. h.before ++ l) (append_assoc (wire f.body) h.after w);
      starts = h.starts;
      ends = h.ends;
      good = h.good;
    }

-- a front that is not longer than another front is one of it
front_of : (p r s w : List ℕ) → s ++ w ≡ p ++ r → length p ≤ length s → (q : List ℕ) × (s ≡ p ++ q)
front_of [] r s w e h = (s, refl)
front_of (x ∷ p) r [] w e h = absurd (omega (arith, h))
front_of (x ∷ p) r (y ∷ s) w e h =
    let below = front_of p r s w (tail-eq_of_cons-eq e) (omega (arith, h)) in
    (below.0, ap (λ n. n ∷ s) (head-eq_of_cons-eq e) ∙ ap (λ l. x ∷ l) below.1)

-- fewer bytes behind it
pub shorter : (limit : ℕ) (t w : List ℕ) (f : Found) → IsFrame limit (t ++ w) f → f.end ≤ length t → IsFrame limit t f
shorter limit t w f h fits =
    let b = wire f.body in
    let parts = front_of (h.before ++ b) h.after t w
    (h.bytes ∙ sym (append_assoc h.before b h.after))
    (omega (arith, length-append h.before b, h.ends, fits)) in
    record {
      before = h.before;
      after = parts.0;
      bytes = parts.1 ∙ append_assoc h.before b parts.0;
      starts = h.starts;
      ends = h.ends;
      good = h.good;
    }

-- the frames in front of one that begins at a place are those of the bytes before that place
pub front_lists : (limit : ℕ) (t w : List ℕ) (x y : List Found) (f : Found)
    → Lists limit (t ++ w) (x ++ (f ∷ y)) → f.start ≡ length t → Lists limit t x
front_lists limit t w x y f a s =
    record {
      sound = λ g m.
          let e = ends_before x y f g a.apart m in
          shorter limit t w g (a.sound g (Memᴰ.append_left (f ∷ y) m)) (omega (arith, e, s));
      complete = λ g h. place g h (Memᴰ.append_cases x (a.complete g (longer limit t w g h)));
      apart = apart_front x (f ∷ y) a.apart;
    }
  where
    place : (g : Found) → IsFrame limit t g → Memᴰ g x ⊎ Memᴰ g (f ∷ y) → Memᴰ g x
    place g h (inl m) = m
    place g h (inr m) =
        let l = lies limit t g h in
        let inside = apart_back x (f ∷ y) a.apart in
        absurd (behind l inside (Memᴰ.cases_cons m))
      where
        behind : (g.start < g.end) × (g.end ≤ length t) → Apart (f ∷ y) → (g ≡ f) ⊎ Memᴰ g y → ⊥
        behind l inside (inl e) =
            let q : g.start ≡ f.start = ap (λ (k : Found). k.start) e in
            absurd (omega (arith, q, s, l.0, l.1))
        behind l inside (inr r) =
            let q = from_there f.end y g inside.1 r in
            absurd (omega (arith, q, s, l.0, l.1, inside.0))
