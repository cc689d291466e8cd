-- What each call answers, and exactly when. Assumes nothing.
use Prim.Native.Nat.{ℕ, zero, suc, ◌+◌, ◌^◌, ◌≤◌, ◌<◌}
use mathlib.Core.Path.{◌≡◌, refl, sym, ap, ◌∙◌}
use mathlib.Core.Logic.{◌≢◌, inl, inr}
use mathlib.Core.List.{List, [], ◌∷◌, ◌++◌}
use native.Mathlib.Omega.{arith}
use borrow.Author.Tests.{lt-ltb, le-ltb, lt-leb, ne_eqb, eq-eqb}
use lib.ListN.{length, get_or, length-append, get_or-append, get_or-eq_default}
use mathlib.Core.Bool.{cond}
use Rattle.std.specs.Prelude.{Result, Ok, Err}
use lib.Dec.{eqb, ltb}
use Rattle.base.specs.Rows.{Row, row}
use Rattle.base.specs.Outcomes.{Outcome, outcome, Output, output, placed}
use Rattle.base.proofs.Tests.{either_way}
use Rattle.base.proofs.Asking.{asks_never, asks_either, asks_placed}
use Rattle.base.proofs.Rows.{injective_by, under, value}
use Rattle.capture.specs.Format.{mark, head, direction_of, milliseconds_of, size_of, IsRecord, record_bytes}
use Rattle.capture.specs.Captures.{Begins}
use Rattle.capture.specs.Reading.{next_of, end_in, end_of}
use Rattle.capture.specs.Windows.{count_of}
use Rattle.capture.specs.Table.{taken_number, next_row_of, end_row_of}
use Rattle.capture.specs.EachCall.{RowsInjective, OutOfRange, CursorRanges, CountsWithin, EachNextAlways}
use Rattle.capture.specs.EachCall.{EachFinishAlways, MoreLater, WritesExactly, AllAnswerRows, WindowEnough}
use Rattle.capture.specs.EachCall.{CursorKept, HeadAsked, RecordAsked, of_record}
use Rattle.capture.specs.declared.reading.Ending.{Ending}
use Rattle.capture.specs.declared.reading.Ending.TheVariants as end
use Rattle.capture.specs.declared.reading.NextError.{NextError}
use Rattle.capture.specs.declared.reading.NextError.TheVariants as error
use Rattle.capture.specs.declared.reading.Refusal.{Refusal}
use Rattle.capture.specs.declared.reading.Refusal.TheVariants as refusal
use Rattle.capture.specs.declared.reading.Taken.{Taken}
use Rattle.capture.specs.declared.reading.Taken.TheVariants as taken
use Rattle.capture.specs.declared.record.Direction.{Direction}
use Rattle.capture.specs.declared.record.Direction.TheVariants as direction
use Rattle.capture.proofs.Agreeing.{Differs, differs_later, same_later}
use Rattle.capture.proofs.Records.{first_there, fields_later, fields_begun, size_begun, room_begun}
use Rattle.capture.proofs.Records.{none_lacks, none_begins}
use Rattle.capture.proofs.Heads.{mark_at, mark_whole}
use Rattle.capture.proofs.NextCases.{outside, inside, next_first, next_later, head_cases, record_cases}
use Rattle.capture.proofs.NextCases.{next_cases, later_cases}
use Rattle.capture.proofs.Answers.{mark_differs, version_differs, head_few, head_whole, direction_wrong}
use Rattle.capture.proofs.Answers.{record_few, record_whole}

-- ---- rows_injective

abbrev direction_from : ℕ → Direction
direction_from zero = direction.FromModule
direction_from (suc n) = direction.FromBox

abbrev refusal_from : Row → Refusal
refusal_from r = under r 51 refusal.Mark (under r 52 refusal.Version (under r 53 refusal.Direction refusal.Ended))

abbrev error_from : Row → NextError
error_from r = under r 17 error.State (under r 18 error.Used (error.Refused (refusal_from r) (value r 0)))

abbrev next_from : Row → Result Taken NextError
next_from r =
    under r 0 (cond (eqb (value r 0) 0) (Ok taken.Lacking) (Ok taken.Head))
    (under r 1 (Ok (of_record (value r 0) (direction_from (value r 1)) (value r 2))) (Err (error_from r)))

record_back : (count : ℕ) (d : Direction) (time : ℕ)
    → next_from (next_row_of (Ok (of_record count d time))) ≡ Ok (of_record count d time)
record_back count direction.FromModule time = refl
record_back count direction.FromBox time = refl

next_back : (a : Result Taken NextError) → next_from (next_row_of a) ≡ a
next_back (Ok taken.Lacking) = refl
next_back (Ok taken.Head) = refl
next_back (Ok (taken.Record r)) = record_back r.count r.direction r.milliseconds
next_back (Err (error.Refused refusal.Mark place)) = refl
next_back (Err (error.Refused refusal.Version place)) = refl
next_back (Err (error.Refused refusal.Direction place)) = refl
next_back (Err (error.Refused refusal.Ended place)) = refl
next_back (Err error.State) = refl
next_back (Err error.Used) = refl

abbrev end_from : Row → Result Ending NextError
end_from r = under r 0 (Ok end.More) (under r 2 (Ok (end.Whole (value r 0))) (Err (error_from r)))

end_back : (a : Result Ending NextError) → end_from (end_row_of a) ≡ a
end_back (Ok end.More) = refl
end_back (Ok (end.Whole place)) = refl
end_back (Err (error.Refused refusal.Mark place)) = refl
end_back (Err (error.Refused refusal.Version place)) = refl
end_back (Err (error.Refused refusal.Direction place)) = refl
end_back (Err (error.Refused refusal.Ended place)) = refl
end_back (Err error.State) = refl
end_back (Err error.Used) = refl

pub rows_injective : RowsInjective
rows_injective =
    record { nexts = injective_by next_row_of next_from next_back; ends = injective_by end_row_of end_from end_back }

-- ---- cursor_ranges

pub cursor_ranges : CursorRanges
cursor_ranges place b =
    let Only : Outcome ℕ → Type 0 = λ (o : Outcome ℕ). o.row.number ≡ 17 → OutOfRange place in
    let Used : Outcome ℕ → Type 0 = λ (o : Outcome ℕ). o.row.number ≡ 18 → 2 ^ 62 < place + length b in
    record {
      state = λ o. rw (outside place o);
      state_only =
          next_cases b Only place (λ o e. o) (λ k h e. absurd (omega arith))
          (λ z h. head_cases b Only (λ d e. absurd (omega arith)) (λ s d e. absurd (omega arith))
          (λ s k e. absurd (omega arith)) (λ s k e. absurd (omega arith)))
          (λ low h. record_cases b Only place (λ two e. absurd (omega arith)) (λ one k e. absurd (omega arith))
          (λ one k e. absurd (omega arith)));
      used = λ k h. rw (inside place k, lt-leb (place + length b) (2 ^ 62) h);
      used_only =
          next_cases b Used place (λ o e. absurd (omega arith)) (λ k h e. h)
          (λ z h. head_cases b Used (λ d e. absurd (omega arith)) (λ s d e. absurd (omega arith))
          (λ s k e. absurd (omega arith)) (λ s k e. absurd (omega arith)))
          (λ low h. record_cases b Used place (λ two e. absurd (omega arith)) (λ one k e. absurd (omega arith))
          (λ one k e. absurd (omega arith)));
      end_state = λ o. rw (outside place o);
      end_used = λ k h. rw (inside place k, lt-leb (place + length b) (2 ^ 62) h);
    }

-- ---- count_within

pub count_within : CountsWithin
count_within place b =
    let Within : Outcome ℕ → Type 0 = λ (o : Outcome ℕ). count_of o.row ≤ length b in
    let Moves : Outcome ℕ → Type 0 = λ (o : Outcome ℕ). o.state ≡ place + count_of o.row in
    record {
      within =
          next_cases b Within place (λ o. omega arith) (λ k h. omega arith)
          (λ z h. head_cases b Within (λ d. omega arith) (λ s d. omega arith) (λ s k. omega arith) (λ s k. k))
          (λ low h. record_cases b Within place (λ two. omega arith) (λ one k. omega arith) (λ one k. k));
      moves =
          next_cases b Moves place (λ o. omega arith) (λ k h. omega arith)
          (λ z h. head_cases b Moves (λ d. omega arith) (λ s d. omega arith) (λ s k. omega arith) (λ s k. omega arith))
          (λ low h. record_cases b Moves place (λ two. omega arith) (λ one k. omega arith) (λ one k. omega arith));
    }

-- ---- each_next

module _ (place : ℕ) (b : List ℕ) (fits : place + length b ≤ 2 ^ 62) where
  -- a byte that is not the head's
  differs_at : (w : List ℕ) (i : ℕ) → i < length w → i < length b → get_or b i 0 ≢ get_or w i 0 → Differs w b
  differs_at w i h k other = record { at = i; wanted = h; there = k; other = other }

  mark_refused : place ≡ 0 → (i : ℕ) → i < length b → i < 3 → get_or b i 0 ≢ get_or head i 0
      → next_of place b ≡ outcome (row 51 (0 ∷ [])) 0
  mark_refused e i k h other =
      next_first place b fits e ∙ mark_differs b (differs_at mark i h k (λ q. other (q ∙ sym (mark_at i h))))

  version_refused : place ≡ 0 → ((i : ℕ) → i < 3 → get_or b i 0 ≡ get_or head i 0)
      → (i : ℕ) → i < length b → 3 ≤ i → i < 5 → get_or b i 0 ≢ get_or head i 0
      → next_of place b ≡ outcome (row 52 (3 ∷ [])) 0
  version_refused e same i k low h other =
      next_first place b fits e
      ∙ version_differs b (λ j m n. same j m ∙ mark_at j m) (differs_at head i h k other)

  record_taken : 5 ≤ place → (r : List ℕ) → IsRecord r → Begins r b
      → next_of place b ≡ outcome (row 1 (length r ∷ direction_of r ∷ milliseconds_of r ∷ [])) (place + length r)
  record_taken low r is begins =
      let f = fields_begun r b is begins in
      let one : direction_of b ≤ 1 = omega (arith, f.direction, is.direction) in
      next_later place b fits low ∙ record_whole place b one (room_begun r b is begins)
      ∙ rw (size_begun r b is begins, f.direction, f.milliseconds)

pub each_next : EachNextAlways
each_next place b k fits =
    record {
      head_taken = λ e s h. next_first place b fits e ∙ head_whole b (λ i m n. s i n m) h;
      head_lacks = λ e s h. next_first place b fits e ∙ head_few b (λ i m n. s i n m) h;
      mark_refused = mark_refused place b fits;
      version_refused = version_refused place b fits;
      direction_refused = λ low some two. next_later place b fits low ∙ direction_wrong place b two;
      record_taken = record_taken place b fits;
      record_lacks = λ low one none. next_later place b fits low ∙ record_few place b one (none_lacks b one none);
    }

-- ---- each_finish

module _ (place : ℕ) (b : List ℕ) where
  end_of_lem : {o : Outcome ℕ} → next_of place b ≡ o → end_of place b ≡ end_in o.row place b
  end_of_lem e = ap (λ (o : Outcome ℕ). end_in o.row place b) e

  end_refused : (r : Row) → 50 < r.number → end_in r place b ≡ r
  end_refused r h = rw (ne_eqb r.number 0 (λ e. omega arith), ne_eqb r.number 1 (λ e. omega arith))

  end_taking : (r : Row) → 1 ≤ count_of r → end_in r place b ≡ row 0 (0 ∷ [])
  end_taking r h =
      either_way (eqb r.number 0)
      (λ t.
      let some : 1 ≤ value r 0 = rw t at h in
      rw (t, ne_eqb (value r 0) 0 (λ e. omega arith)))
      (λ t. either_way (eqb r.number 1) (λ u. rw (t, u))
      (λ u. let none : 1 ≤ 0 = rw (t, u) at h in absurd (omega arith)))

pub each_finish : EachFinishAlways
each_finish place b k fits =
    let next = each_next place b k fits in
    record {
      whole = λ low none.
          let first : get_or b 0 0 ≡ 0 = get_or-eq_default b 0 (omega arith) in
          end_of_lem place b (next.record_lacks low (omega arith) (none_begins b (omega arith)))
          ∙ rw (ne_eqb place 0 (λ e. omega arith), eq-eqb (length b) 0 none);
      mark_lacks = λ e s h.
          end_of_lem place b (next.head_lacks e s (omega arith)) ∙ rw (eq-eqb place 0 e, lt-ltb (length b) 3 h);
      version_lacks = λ e s low high.
          end_of_lem place b (next.head_lacks e s high) ∙ rw (eq-eqb place 0 e, le-ltb (length b) 3 low);
      ended = λ low some one none.
          end_of_lem place b (next.record_lacks low one none)
          ∙ rw (ne_eqb place 0 (λ e. omega arith), ne_eqb (length b) 0 (λ e. omega arith));
      refused = end_refused place b (next_of place b).row;
      to_take = end_taking place b (next_of place b).row;
    }

-- ---- more_later

pub more_later : MoreLater
more_later place b more fits =
    let size : length (b ++ more) ≡ length b + length more = length-append b more in
    let Stays : Outcome ℕ → Type 0 =
    λ (o : Outcome ℕ). (o.row ≡ row 0 (0 ∷ []) → ⊥) → next_of place (b ++ more) ≡ o in
    next_cases b Stays place (λ o k. rw (outside place o)) (λ o h k. absurd (omega arith))
    (λ e h.
    let first = next_first place (b ++ more) fits e in
    head_cases b Stays (λ d k. first ∙ mark_differs (b ++ more) (differs_later mark b more d))
    (λ s d k.
    let all : 3 ≤ length b = omega (arith, mark_whole b s d, d.there) in
    first ∙ version_differs (b ++ more) (same_later mark b more s all) (differs_later head b more d))
    (λ s few k. absurd (k refl))
    (λ s all k. first ∙ head_whole (b ++ more) (same_later head b more s all) (omega arith)))
    (λ low h.
    let later = next_later place (b ++ more) fits low in
    record_cases b Stays place
    (λ two k.
    let there : 1 ≤ length b = first_there b (omega arith) in
    let same : direction_of (b ++ more) ≡ direction_of b = get_or-append b more 0 0 there in
    later ∙ direction_wrong place (b ++ more) (omega arith))
    (λ one few k. absurd (k refl))
    (λ one all k.
    let f = fields_later b more (omega arith) in
    later ∙ record_whole place (b ++ more) (rw f.direction one) (omega (arith, f.size))
    ∙ rw (f.direction, f.milliseconds, f.size)))

-- ---- write_exactly

pub write_exactly : WritesExactly
write_exactly d t p out =
    let r : List ℕ = record_bytes d t p in
    let size : 7 + length p ≡ length r = omega arith in
    record {
      head_fits = λ h. rw (le-ltb (length out) 5 h);
      head_room = λ h. rw (lt-ltb (length out) 5 h);
      payload = λ h. rw (lt-ltb 65535 (length p) h);
      room = λ h k. rw (size, le-ltb 65535 (length p) h, lt-ltb (length out) (length r) (omega arith));
      fits = λ h k. rw (size, le-ltb 65535 (length p) h, le-ltb (length out) (length r) (omega arith));
    }

-- ---- head_asked and record_asked: PAYLOAD does not depend on the output; the rest is placed

pub head_asked : HeadAsked
head_asked = asks_placed head

pub record_asked : RecordAsked
record_asked d t p =
    let bytes : List ℕ = record_bytes d t p in
    asks_either (λ (w : Output). w.row) (ltb 65535 (length p)) (λ out. output (row 21 (0 ∷ [])) out)
    (λ out. placed bytes out) (asks_never (row 21 (0 ∷ [])) (λ e. omega arith)) (asks_placed bytes)

-- ---- answer_rows

count_said : (t : Taken) → taken_number t ≡ count_of (next_row_of (Ok t))
count_said taken.Lacking = refl
count_said taken.Head = refl
count_said (taken.Record r) = refl

pub answer_rows : AllAnswerRows
answer_rows count place r c =
    record {
      lacking = refl;
      head = refl;
      module_record = λ time. refl;
      box_record = λ time. refl;
      refused = λ r. refl;
      state = refl;
      used = refl;
      taken_row = refl;
      taken_place = refl;
      taken_count = count_said;
      end_more = refl;
      end_whole = refl;
      end_refused = λ r. refl;
      end_state = refl;
      end_used = refl;
    }

-- ---- window_enough

pub window_enough : WindowEnough
window_enough place b low fits bytes enough =
    later_cases b (λ (y : Outcome ℕ). y.row ≡ row 0 (0 ∷ []) → ⊥) place low fits
    (λ h e. omega (arith, ap (λ (r : Row). r.number) e))
    (λ h k e. omega (arith, bytes 5, bytes 6))
    (λ h k e. omega (arith, ap (λ (r : Row). r.number) e))

-- ---- cursor_kept

pub cursor_kept : CursorKept
cursor_kept place b k =
    next_cases b P place (λ o. absurd (k o)) (λ o h. k)
    (λ z h. head_cases b P (λ d. low 0 (omega arith)) (λ m d. low 0 (omega arith)) (λ m l. low 0 (omega arith))
    (λ m l. high 5 (omega arith) (omega arith)))
    (λ l h. record_cases b P place (λ d. k) (λ d f. k) (λ d f. high (place + size_of b) (omega arith) (omega arith)))
  where
    P : Outcome ℕ → Type 0
    P y = OutOfRange y.state → ⊥

    low : (n : ℕ) → n ≡ 0 → OutOfRange n → ⊥
    low n z (inl h) = omega arith
    low n z (inr h) = omega arith

    high : (n : ℕ) → 5 ≤ n → n ≤ 2 ^ 62 → OutOfRange n → ⊥
    high n f g (inl h) = omega arith
    high n f g (inr h) = omega arith
