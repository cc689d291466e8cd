-- one_list, one_decisions and decided_frames: a stream has one list of frames, and one of decisions.
use Rattle.std.proofs.Common.{◌≡◌, ℕ, ◌+◌, Bool, true, false, cond, eqb, ◌⊎◌, List, [], ◌∷◌, sym, refl, ap, ◌∙◌, inl}
use Rattle.std.proofs.Common.{inr, true≢false, arith, eq-eqb, eqb-true}
use mathlib.Core.List.Memᴰ
use mathlib.Core.List.{Memᴰ}
use Rattle.frame.specs.Frames.{AllFrom, Apart, Lists, Found, found, IsFrame}
use Rattle.frame.specs.FramesComputed.{frames_of}
use Rattle.frame.specs.Decisions.{Decision, DecisionsFrom, Decides, IsDecision}
use Rattle.frame.specs.Decisions.{is_frame_lem, is_short, is_long, is_stuff, is_stuff_late, is_cut, is_sum}
use Rattle.frame.specs.Logs.{frames_in}
use Rattle.frame.specs.Wire.{wire, Good}
use Rattle.frame.specs.StreamCorrect.{OneList, OneDecisions, DecidedFrames}
use Rattle.base.proofs.Tests.{by_test}
use Rattle.base.proofs.Rising.{RisingFrom, rising_earlier, same_members}
use Rattle.frame.proofs.Listed.{frames_of_lists}

-- where a frame starts
abbrev start_of : Found → ℕ
start_of f = f.start

-- frames without overlap rise
apart_rises : (m : ℕ) (l : List Found) → AllFrom m l → Apart l → RisingFrom start_of m l
apart_rises m [] a b = tt
apart_rises m (f ∷ l) a b = (
  a.0,
  rising_earlier start_of (f.start + 1) f.end l (omega (arith, b.0)) (apart_rises f.end l b.1 b.2),
)

all_from_0 : (l : List Found) → AllFrom 0 l
all_from_0 [] = tt
all_from_0 (f ∷ l) = (omega arith, all_from_0 l)

pub lists_unique : (limit : ℕ) (t : List ℕ) (l k : List Found) → Lists limit t l → Lists limit t k → l ≡ k
lists_unique limit t l k a b =
    same_members start_of 0 0 l k (apart_rises 0 l (all_from_0 l) a.apart) (apart_rises 0 k (all_from_0 k) b.apart)
    (λ f m. b.complete f (a.sound f m)) (λ f m. a.complete f (b.sound f m))

pub one_list : OneList
one_list limit small t = (
  frames_of_lists limit small t,
  (λ l a. lists_unique limit t l (frames_of limit t) a (frames_of_lists limit small t)),
)

-- where a decision starts
abbrev decision_start : Decision → ℕ
decision_start l = l.start

-- decisions rise, in the terms of the law
decisions_rise : (m : ℕ) (ls : List Decision) → DecisionsFrom m ls → RisingFrom decision_start m ls
decisions_rise m [] h = tt
decisions_rise m (l ∷ ls) h = (h.0, decisions_rise (l.start + 1) ls h.1)

pub one_decisions : OneDecisions
one_decisions limit t a b p q =
    same_members decision_start 0 0 a b (decisions_rise 0 a p.rising) (decisions_rise 0 b q.rising)
    (λ l k. q.complete l (p.sound l k)) (λ l k. p.complete l (q.sound l k))

-- ---- decided_frames

-- what a decision stands for, as a frame
abbrev frame_of : Decision → Found
frame_of d = found d.start d.end d.body

-- a decision whose frame this is
record Stands (ds : List Decision) (f : Found) : Type 0 where
  decision : Decision
  member : Memᴰ decision ds
  number : decision.number ≡ 1
  same : f ≡ frame_of decision

-- each frame among decisions is one of them
stands : (ds : List Decision) (f : Found) → Memᴰ f (frames_in ds) → Stands ds f
unfolding frames_in
stands [] f m = absurd (Memᴰ.not-nil m)
stands (d ∷ ds) f m = go (eqb d.number 1) refl (λ k. stands ds f k) m
  where
    later : Stands ds f → Stands (d ∷ ds) f
    later w =
        record {
          decision = w.decision;
          member = Memᴰ.tail w.member;
          number = w.number;
          same = w.same;
        }

    pick : d.number ≡ 1 → (Memᴰ f (frames_in ds) → Stands ds f) → (f ≡ frame_of d) ⊎ Memᴰ f (frames_in ds)
        → Stands (d ∷ ds) f
    pick one rest (inl h) = record { decision = d; member = Memᴰ.head refl; number = one; same = h }
    pick one rest (inr k) = later (rest k)

    go : (t : Bool) → eqb d.number 1 ≡ t → (Memᴰ f (frames_in ds) → Stands ds f)
        → Memᴰ f (cond t (frame_of d ∷ frames_in ds) (frames_in ds)) → Stands (d ∷ ds) f
    go true e rest m = pick (eqb-true d.number 1 e) rest (Memᴰ.cases_cons m)
    go false e rest m = later (rest m)

-- and each of them is among the frames
stands_among : (ds : List Decision) (d : Decision) → Memᴰ d ds → d.number ≡ 1
    → Memᴰ (frame_of d) (frames_in ds)
unfolding frames_in
stands_among [] d m one = absurd (Memᴰ.not-nil m)
stands_among (x ∷ ds) d m one =
    go (eqb x.number 1) refl (λ k. stands_among ds d k one) (Memᴰ.cases_cons m)
  where
    go : (t : Bool) → eqb x.number 1 ≡ t → (Memᴰ d ds → Memᴰ (frame_of d) (frames_in ds))
        → (d ≡ x) ⊎ Memᴰ d ds → Memᴰ (frame_of d) (cond t (frame_of x ∷ frames_in ds) (frames_in ds))
    go true e rest (inl h) = Memᴰ.head (ap frame_of h)
    go true e rest (inr k) = Memᴰ.tail (rest k)
    go false e rest (inl h) =
        let there : eqb x.number 1 ≡ true = eq-eqb x.number 1 (sym (ap (λ (y : Decision). y.number) h) ∙ one) in
        absurd (true≢false (sym there ∙ e))
    go false e rest (inr k) = rest k

-- a decision of number 1 is a frame
good_frame : {limit : ℕ} {raw values body : List ℕ} {n : ℕ} → Decides limit raw n values body → n ≡ 1
    → (raw ≡ wire body) × (values ≡ []) × Good limit body
good_frame (is_frame_lem b e v f w g) one = rw f (w, v, g)
good_frame (is_short b e v f w g h) one = absurd (omega arith)
good_frame (is_long b e v f w g h i j) one = absurd (omega arith)
good_frame (is_stuff b x e v f w g) one = absurd (omega arith)
good_frame (is_stuff_late b x e v f w g) one = absurd (omega arith)
good_frame (is_cut b e v f w g) one = absurd (omega arith)
good_frame (is_sum b e v f w g) one = absurd (omega arith)

decided_frame : (limit : ℕ) (t : List ℕ) (d : Decision) → IsDecision limit t d → d.number ≡ 1
    → IsFrame limit t (frame_of d)
decided_frame limit t d i one =
    let g = good_frame i.decides one in
    record {
      before = i.before;
      after = i.after;
      bytes = rw g.0 at i.bytes;
      starts = i.starts;
      ends = rw g.0 at i.ends;
      good = g.2;
    }

frame_decided : (limit : ℕ) (t : List ℕ) (f : Found) → IsFrame limit t f
    → IsDecision limit t (record { number = 1; start = f.start; end = f.end; values = []; body = f.body })
frame_decided limit t f i =
    record {
      before = i.before;
      raw = wire f.body;
      after = i.after;
      bytes = i.bytes;
      starts = i.starts;
      ends = i.ends;
      decides = is_frame_lem f.body refl refl refl refl i.good;
    }

-- frames among decisions rise as those do
frames_rise : (m : ℕ) (ds : List Decision) → DecisionsFrom m ds → RisingFrom start_of m (frames_in ds)
unfolding frames_in
frames_rise m [] h = tt
frames_rise m (d ∷ ds) h =
    by_test (RisingFrom start_of m) (eqb d.number 1) (λ _. (h.0, frames_rise (d.start + 1) ds h.1))
    (λ _. rising_earlier start_of m (d.start + 1) (frames_in ds) (omega (arith, h.0))
    (frames_rise (d.start + 1) ds h.1))

pub decided_frames : DecidedFrames
decided_frames limit small t ds l =
    let all = frames_of_lists limit small t in
    same_members start_of 0 0 (frames_in ds) (frames_of limit t) (frames_rise 0 ds l.rising)
    (apart_rises 0 (frames_of limit t) (all_from_0 (frames_of limit t)) all.apart)
    (λ f m. let w = stands ds f m in
    rw w.same (all.complete (frame_of w.decision)
    (decided_frame limit t w.decision (l.sound w.decision w.member) w.number)))
    (λ f m. stands_among ds (record { number = 1; start = f.start; end = f.end; values = []; body = f.body })
    (l.complete _ (frame_decided limit t f (all.sound f m))) refl)
