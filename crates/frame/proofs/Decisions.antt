-- each_decision and finish_correct. Assumes nothing.
use Rattle.std.proofs.Common.{◌≡◌, ℕ, ◌+◌, ◌-◌, ◌^◌, ◌≤◌, false, cond, ◌||◌, eqb, List, [], ◌∷◌, ◌++◌, length, take}
use Rattle.std.proofs.Common.{drop, sym, refl, ap, ◌∙◌, arith, take_at, drop_at}
use mathlib.Core.List.{Memᴰ}
use Rattle.frame.specs.FramesComputed.{unstuff}
use Rattle.base.specs.Rows.{Row, row}
use Rattle.base.specs.Outcomes.{outcome}
use Rattle.frame.specs.Calls.{finish_row_in, fresh_of}
use Rattle.frame.specs.LogsComputed.{log_of, state_after}
use Rattle.frame.specs.Logs.{stream}
use Rattle.frame.specs.Decisions.{Decides, is_frame_lem, is_short, is_long, is_stuff, is_stuff_late, is_cut, is_sum}
use Rattle.frame.specs.Decisions.{Decision, IsDecision, Opens, at_header, in_body, at_ff, IsOpen}
use Rattle.frame.specs.StreamCorrect.{EachDecision, FinishCorrect, FinishesCorrect}
use Rattle.frame.specs.State.{Phase, Idle, Half, Header, Open, Escape, Scan, State}
use Rattle.frame.proofs.Stuffing.{stuffed_form}
use Rattle.frame.proofs.Moves.{held, pending, pending_in, origin, Inv, InvIn}
use Rattle.frame.proofs.Logged.{is_in_range, reached}
use Rattle.frame.proofs.StreamCorrect.{fresh_holds}
use Rattle.frame.proofs.Bodies.{unfinished_of}
use Rattle.frame.proofs.Fold.{after_all, decided_all, after-append, decided-append, folded, kept}
use Rattle.frame.proofs.Deciding.{Deciding, add_decision}
use Rattle.frame.proofs.Reading.{Between, At, decision_path, read_header, read_body, read_ff, reads}

-- ---- a decision is fixed by its number and its stretch

-- the body of the bytes of a decision, if the reader holds it
abbrev body_in : ℕ → List ℕ → List ℕ
body_in n raw = cond (eqb n 1 || eqb n 15) (unstuff false (drop 2 raw)) []

body_in_lem : {limit n : ℕ} {raw values body : List ℕ} → Decides limit raw n values body → body ≡ body_in n raw
body_in_lem (is_frame_lem b n v h e g) = rw (n, e) (h ∙ sym (stuffed_form b).reads_back)
body_in_lem (is_short b n v h e l k) = rw n h
body_in_lem (is_long b n v h e l f five k) = rw n h
body_in_lem (is_stuff b x n v h w k) = rw n h
body_in_lem (is_stuff_late b x n v h w k) = rw n h
body_in_lem (is_cut b n v h e u) = rw n h
body_in_lem (is_sum b n v h e w) = rw (n, e) (h ∙ sym (stuffed_form b).reads_back)

raw_in : {limit : ℕ} {xs : List ℕ} {l : Decision} (w : IsDecision limit xs l)
    → w.raw ≡ take (l.end - l.start) (drop l.start xs)
raw_in {limit} {xs} {l} w =
    let rest : drop l.start xs ≡ w.raw ++ w.after =
    rw w.bytes (drop_at w.before (w.raw ++ w.after) l.start (sym w.starts)) in
    sym (rw rest (take_at w.raw w.after (l.end - l.start) (omega (arith, w.starts, w.ends))))

same_body : {limit : ℕ} {xs : List ℕ} {l k : Decision}
    → IsDecision limit xs l → IsDecision limit xs k → l.number ≡ k.number
    → l.start ≡ k.start → l.end ≡ k.end → l.body ≡ k.body
same_body {limit} {xs} {l} {k} v w n s e =
    let raws : v.raw ≡ w.raw = raw_in v ∙ rw (s, e) (sym (raw_in w)) in
    body_in_lem v.decides ∙ rw (n, raws) (sym (body_in_lem w.decides))

-- ---- each decision

module _ (limit : ℕ) (small : limit ≤ 65279) where
  pub from_fresh : (xs : List ℕ) → Deciding limit (fresh_of limit) [] xs
  from_fresh xs = add_decision limit small xs (fresh_of limit) (fresh_holds limit) [] refl

  complete : (xs : List ℕ) (l : Decision) → IsDecision limit xs l → Memᴰ l (decided_all limit (fresh_of limit) xs)
  complete xs l w =
      let q : State = after_all limit (fresh_of limit) w.before in
      let k = kept limit small w.before (fresh_of limit) (fresh_holds limit) in
      let at : q.scan.consumed ≡ length w.before = omega (arith, k.place) in
      let shown = reads limit small q k.holds w.decides in
      let a : Decision = record {
        number = l.number;
        start = q.scan.consumed;
        end = q.scan.consumed + length w.raw;
        values = l.values;
        body = shown.0;
      } in
      let start : l.start ≡ q.scan.consumed = w.starts ∙ sym at in
      let end : l.end ≡ q.scan.consumed + length w.raw = w.ends ∙ ap (λ (n : ℕ). n + length w.raw) (sym at) in
      let decisions : Memᴰ a (decided_all limit (fresh_of limit) xs) =
      rw (
        w.bytes,
        decided-append limit w.before (w.raw ++ w.after) (fresh_of limit),
        decided-append limit w.raw w.after q,
      )
      (mathlib.Core.List.Memᴰ.append_right (decided_all limit (fresh_of limit) w.before)
      (mathlib.Core.List.Memᴰ.append_left (decided_all limit (after_all limit q w.raw) w.after) shown.1)) in
      let same : l ≡ a =
      decision_path refl start end refl (same_body w ((from_fresh xs).sound a decisions) refl start end) in
      mathlib.Core.List.Memᴰ.cast same decisions

pub each_decision : EachDecision
each_decision limit small calls =
    let s : List ℕ = stream (log_of limit (fresh_of limit) calls) in
    let w : Deciding limit (fresh_of limit) [] s = from_fresh limit small s in
    rw (folded limit calls (fresh_of limit)).decisions
    (record { sound = w.sound; complete = complete limit small s; rising = w.rising })

-- ---- a finish

-- the phases of an open frame
abbrev pub Opened : Phase → Type 0
Opened Idle = ⊥
Opened Half = ⊥
Opened Header = Unit {0}
Opened Open = Unit {0}
Opened Escape = Unit {0}

at_opened : {limit st : ℕ} {b : List ℕ} {r : State} → At limit st b r → Opened r.scan.phase × (r.scan.start ≡ st)
at_opened {r} a = (go r.scan.phase a.between, a.starts)
  where
    go : (f : Phase) → Between f → Opened f
    go Idle n = n
    go Half n = n
    go Header n = tt
    go Open n = tt
    go Escape n = tt

open_row : (f : Phase) (s : Scan) → Opened f → finish_row_in f s ≡ row 16 (s.consumed ∷ s.start ∷ [])
open_row Idle s n = absurd n
open_row Half s n = absurd n
open_row Header s n = refl
open_row Open s n = refl
open_row Escape s n = refl

clean_row : (f : Phase) (s : Scan) → (Opened f → ⊥) → finish_row_in f s ≡ row 2 (s.consumed ∷ [])
clean_row Idle s n = refl
clean_row Half s n = refl
clean_row Header s n = absurd (n tt)
clean_row Open s n = absurd (n tt)
clean_row Escape s n = absurd (n tt)

-- the pending bytes of an open frame
pub pending_opens : (limit : ℕ) (f : Phase) (s : Scan) (b : List ℕ)
    → InvIn limit f s b → Opened f → Opens limit (pending_in f b)
pending_opens limit Idle s b i n = absurd n
pending_opens limit Half s b i n = absurd n
pending_opens limit Header s b i n = at_header refl
pending_opens limit Open s b i n = in_body b refl (unfinished_of i.part i.some_byte)
pending_opens limit Escape s b i n = at_ff b refl (unfinished_of i.part i.some_byte)

module _ (limit : ℕ) (small : limit ≤ 65279) where
  opens_after : (r : State) → Inv limit r → {raw : List ℕ} → Opens limit raw
      → Opened (after_all limit r raw).scan.phase × ((after_all limit r raw).scan.start ≡ r.scan.consumed)
  opens_after r i (at_header e) = rw e (at_opened (read_header limit small r i))
  opens_after r i (in_body b e u) = rw e (at_opened (read_body limit small r i b u))
  opens_after r i (at_ff b e u) = let w = read_ff limit small r i b u in rw e (rw w.0 tt, w.1)

  shown : (xs : List ℕ) → (after_all limit (fresh_of limit) xs).scan.consumed ≤ 2 ^ 62
      → FinishCorrect limit xs (after_all limit (fresh_of limit) xs)
  shown xs longest =
      let q : State = after_all limit (fresh_of limit) xs in
      let k = kept limit small xs (fresh_of limit) (fresh_holds limit) in
      let w : Deciding limit (fresh_of limit) [] xs = from_fresh limit small xs in
      let at : q.scan.consumed ≡ length xs = omega (arith, k.place) in
      record {
        left_open = λ start o. rw (is_in_range limit small q k.holds longest)
            (ap (λ (a : Row). outcome a q) (open_is xs start o at));
        left_clean = λ none. rw (is_in_range limit small q k.holds longest) (ap (λ (a : Row). outcome a q)
            (clean_row q.scan.phase q.scan (λ n. none (origin q) (record {
              before = w.front;
              raw = pending q;
              bytes = w.bytes;
              starts = sym w.place;
              opens = pending_opens limit q.scan.phase q.scan (held q) k.holds.phase n;
            })) ∙ ap (λ (n : ℕ). row 2 (n ∷ [])) at));
      }
    where
      open_is : (xs : List ℕ) (start : ℕ)
          → IsOpen limit xs start → (after_all limit (fresh_of limit) xs).scan.consumed ≡ length xs
          → finish_row_in (after_all limit (fresh_of limit) xs).scan.phase (after_all limit (fresh_of limit) xs).scan
          ≡ row 16 (length xs ∷ start ∷ [])
      open_is xs start o at =
          let q : State = after_all limit (fresh_of limit) xs in
          let p : State = after_all limit (fresh_of limit) o.before in
          let k = kept limit small o.before (fresh_of limit) (fresh_holds limit) in
          let there : q ≡ after_all limit p o.raw = ap (λ (l : List ℕ). after_all limit (fresh_of limit) l) o.bytes
          ∙ after-append limit o.before o.raw (fresh_of limit) in
          let opened : Opened q.scan.phase × (q.scan.start ≡ p.scan.consumed) =
          rw there (opens_after p k.holds o.opens) in
          let from : q.scan.start ≡ start = omega (arith, opened.1, k.place, o.starts) in
          open_row q.scan.phase q.scan opened.0 ∙ rw (at, from)

pub finish_correct : FinishesCorrect
finish_correct limit small calls =
    let s : List ℕ = stream (log_of limit (fresh_of limit) calls) in
    let e : state_after limit (fresh_of limit) calls ≡ after_all limit (fresh_of limit) s =
    (folded limit calls (fresh_of limit)).reader in
    let r = reached limit small calls (fresh_of limit) (fresh_holds limit) (omega arith) in
    rw e (shown limit small s (rw e at r.longest))
