-- The history of every list of calls of a link that began fresh, and the accepted offer of each wait. Assumes nothing.
use Rattle.std.proofs.Common.{◌≡◌, ℕ, ◌+◌, ◌<◌, Bool, true, false, cond, ◌⊎◌, None, List, [], ◌∷◌, ◌++◌, length, sym}
use Rattle.std.proofs.Common.{refl, ap, subst, inl, inr, true≢false, zero-add, arith}
use Rattle.link.specs.Calls.{link_of}
use Rattle.link.specs.Logs.{Entry, accepted, ended, command_in, clock_in, number_in, numbers_used, waits_after}
use Rattle.link.specs.Logs.{none_ends, due_ticks}
use Rattle.link.specs.History.{OpenWait, History}
use Rattle.link.specs.Histories.{LinkHistory, WaitFound}
use Rattle.link.proofs.Numbers.{number_first}
use Rattle.link.proofs.Moves.{wait_after, only_repeated, not_accepted}
use Rattle.link.proofs.Waits.{Follows, followed, numbered, Standing, stands, Waited, waited}

module _ (first max : ℕ) (log : List Entry) (f : Follows first max 0 None log) where
  -- what stands after the front of the log
  at : (before rest : List Entry) → log ≡ before ++ rest → Standing first max 0 false before rest
  at before rest e = stands first max 0 None false before rest (λ _. refl) (subst (Follows first max 0 None) e f)

  -- what waits after an accepted offer, until its wait ends
  accepted_at :
      (before : List Entry) (a : Entry) (during rest : List Entry)
      → log ≡ before ++ (a ∷ (during ++ rest)) → accepted a ≡ true → none_ends during ≡ true
      → Waited first max (0 + length (numbers_used before) + 1) (command_in a.call) (number_in a)
      (clock_in a.call) 0 during rest
  accepted_at before a during rest e p q =
      let b = (at before _ e).follows in
      waited first max _ _ _ _ _ during rest (simp p at b.0.holds) (simp p at b.1) q

  -- what an entry leaves waiting
  left : (before : List Entry) (e : Entry) (after : List Entry)
      → (p : log ≡ before ++ (e ∷ after)) → e.after.waiting ≡ wait_after e (at before (e ∷ after) p).wait
  left before e after p = ap (λ l. l.waiting) (at before (e ∷ after) p).follows.0.after

  -- while the wait lasts, no more ticks are due than repeats are allowed
  ended_by :
      (before : List Entry) (a : Entry) (during rest : List Entry)
      → log ≡ before ++ (a ∷ (during ++ rest)) → accepted a ≡ true
      → max < due_ticks (clock_in a.call) during → (t : Bool) → none_ends during ≡ t → t ≡ false
  ended_by before a during rest e p d true q =
      let w = accepted_at before a during rest e p q in absurd (omega (arith, w.few, w.each))
  ended_by before a during rest e p d false q = refl

  history : History first max log
  history =
      record {
        numbers = numbered first max 0 None log f;
        idle = λ before e after p q. let b = at before _ p in rw (b.idle q, zero-add) at b.follows.0.row;
        waiting = λ before a during e after p q n. rw zero-add at (accepted_at before a during
            (e ∷ after) p q n).follows.0.row;
        waits = λ before a during after p q n.
            let w = accepted_at before a during after p q n in record {
              few = omega (arith, w.few);
              each = w.each;
              alone = w.alone;
            };
        ends = λ before a during after p q d. ended_by before a during after p q d (none_ends during) refl;
        begun = λ before e after p a. simp a at (left before e after p);
        resent = λ before a during e after p q n r.
            let only = only_repeated e.call e.row r in
            simp (
              only.0,
              only.1,
              r,
              zero-add,
            ) at (ap (λ l. l.waiting) (accepted_at before a during (e ∷ after) p q n).follows.0.after);
        freed = λ before e after p d. simp (not_accepted e.call e.row d, d) at (left before e after p);
        unchanged = λ before e after p. (at before _ p).follows.0.unchanged;
        never_state = λ before e after p. (at before _ p).follows.0.never;
      }

-- a fresh link is idle and has used no number
pub link_history : LinkHistory
link_history first max small calls =
    history first max _ (followed first max small calls 0 None
    (ap (λ (n : ℕ). link_of n None) (sym (number_first first))) tt)

-- ---- where a command waits after a log, its accepted offer is there

-- one entry more before it
one_before : (e : Entry) {es : List Entry} → OpenWait es → OpenWait (e ∷ es)
one_before e o =
    record {
      before = e ∷ o.before;
      offer = o.offer;
      during = o.during;
      whole = ap (λ l. e ∷ l) o.whole;
      accepts = o.accepts;
      continues = o.continues;
    }

-- a command that waits after entries waited before them, and none ends its wait, or one of them accepted it
abbrev Found : Bool → List Entry → Type 0
Found t es = ((t ≡ true) × (none_ends es ≡ true)) ⊎ OpenWait es

-- so with one entry more, which accepts, ends, or does neither
found_at : (e : Entry) (es : List Entry) (t a d : Bool)
    → accepted e ≡ a → ended e ≡ d → Found (cond a true (cond d false t)) es → Found t (e ∷ es)
unfolding none_ends
found_at e es t a d p q (inr o) = inr (one_before e o)
found_at e es t true d p q (inl n) =
    inr (record { before = []; offer = e; during = es; whole = refl; accepts = p; continues = n.1 })
found_at e es t false true p q (inl n) = absurd (true≢false (sym n.0))
found_at e es t false false p q (inl n) = inl (n.0, rw q n.1)

found : (t : Bool) (es : List Entry) → waits_after t es ≡ true → Found t es
unfolding waits_after none_ends
found t [] h = inl (h, refl)
found t (e ∷ es) h =
    found_at e es t (accepted e) (ended e) refl refl (found (cond (accepted e) true (cond (ended e) false t)) es h)

-- nothing waits before a whole log
accepted_in_lem : {es : List Entry} → Found false es → OpenWait es
accepted_in_lem (inl n) = absurd (true≢false (sym n.0))
accepted_in_lem (inr o) = o

pub wait_found : WaitFound
wait_found log h = accepted_in_lem (found false log h)
