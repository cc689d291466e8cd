-- The lines of records, and the bytes of a direction, with one record more. Assumes nothing.
use Prim.Native.Nat.{ℕ}
use mathlib.Core.Path.{◌≡◌, refl, sym, ap, ◌∙◌}
use mathlib.Core.Bool.{Bool, true, false, cond}
use mathlib.Core.List.{List, [], ◌∷◌, ◌++◌, append-nil, append_assoc}
use lib.Dec.{eqb}
use Rattle.frame.specs.Decisions.{Decision}
use Rattle.frame.proofs.Unique.{one_decisions}
use Rattle.listing.specs.Listing.{decision_text, decisions_text}
use Rattle.capture.specs.Format.{direction_of, payload_of}
use Rattle.replay.specs.Lines.{Printed, printed_text, lines_of, prefix_of}
use Rattle.replay.specs.Replays.{heard_of, Adds, AreLines}

-- a test that adds something in front, before others
pub front_first : {A : Type 0} (t : Bool) (x : A) (l m : List A)
    → cond t (x ∷ (l ++ m)) (l ++ m) ≡ cond t (x ∷ l) l ++ m
front_first true x l m = refl
front_first false x l m = refl

-- the bytes of a direction in one record more
pub heard_more : (e : ℕ) (past : List (List ℕ)) (r : List ℕ)
    → heard_of e (past ++ r ∷ []) ≡ heard_of e past ++ cond (eqb (direction_of r) e) (payload_of r) []
unfolding heard_of
heard_more e [] r = go (eqb (direction_of r) e) (payload_of r)
  where
    go : (t : Bool) (p : List ℕ) → cond t (p ++ []) [] ≡ cond t p []
    go true p = append-nil p
    go false p = refl
heard_more e (q ∷ past) r =
    go (eqb (direction_of q) e) (payload_of q) (heard_of e (past ++ r ∷ [])) (heard_of e past)
    (cond (eqb (direction_of r) e) (payload_of r) []) (heard_more e past r)
  where
    go : (t : Bool) (p x y z : List ℕ) → x ≡ y ++ z → cond t (p ++ x) x ≡ cond t (p ++ y) y ++ z
    go true p x y z h = ap (λ (l : List ℕ). p ++ l) h ∙ sym (append_assoc p y z)
    go false p x y z h = h

-- ---- decisions that are added

pub adds_join : {limit : ℕ} {t p q : List ℕ} {new later : List Decision}
    → Adds limit t p new → Adds limit (t ++ p) q later → Adds limit t (p ++ q) (new ++ later)
adds_join {limit} {t} {p} {q} {new} {later} a b =
    let same : b.old ≡ a.old ++ new = one_decisions limit (t ++ p) b.old (a.old ++ new) b.before a.after in
    record {
      old = a.old;
      before = a.before;
      after = rw (append_assoc t p q, same, append_assoc a.old new later) at b.after;
    }

-- ---- lines

pub lines_of_text : (d : ℕ) (ds : List Decision) → printed_text (lines_of d ds) ≡ decisions_text (prefix_of d) ds
unfolding printed_text lines_of decisions_text
lines_of_text d [] = refl
lines_of_text d (x ∷ ds) = ap (λ (l : List ℕ). decision_text (prefix_of d) x ++ l) (lines_of_text d ds)

pub printed_both : (a b : List Printed) → printed_text (a ++ b) ≡ printed_text a ++ printed_text b
unfolding printed_text
printed_both [] b = refl
printed_both (p ∷ a) b =
    ap (λ (l : List ℕ). decision_text (prefix_of p.direction) p.decision ++ l) (printed_both a b)
    ∙ sym (append_assoc (decision_text (prefix_of p.direction) p.decision) (printed_text a) (printed_text b))

-- one record more has the lines that its bytes add
pub lines_more : (limit : ℕ) (past rs : List (List ℕ)) (lines : List Printed) (r : List ℕ) (new : List Decision)
    → AreLines limit past rs lines → Adds limit (heard_of (direction_of r) (past ++ rs)) (payload_of r) new
    → AreLines limit past (rs ++ r ∷ []) (lines ++ lines_of (direction_of r) new)
unfolding AreLines
lines_more limit past [] lines r new a n = (
  new,
  [],
  rw (append-nil past) at n,
  rw a (sym (append-nil (lines_of (direction_of r) new))),
  refl,
)
lines_more limit past (q ∷ rs) lines r new a n =
    let later : List Printed = a.1 in
    let whole : past ++ q ∷ rs ≡ (past ++ q ∷ []) ++ rs = sym (append_assoc past (q ∷ []) rs) in (
      a.0,
      later ++ lines_of (direction_of r) new,
      a.2,
      ap (λ (l : List Printed). l ++ lines_of (direction_of r) new) a.3
          ∙ append_assoc (lines_of (direction_of q) a.0) later (lines_of (direction_of r) new),
      lines_more limit (past ++ q ∷ []) rs later r new a.4 (rw whole at n),
    )
