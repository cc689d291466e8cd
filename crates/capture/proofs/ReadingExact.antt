-- windows_read, one_reading and stops_exactly. Assumes nothing.
use Prim.Native.Nat.{ℕ, ◌+◌, ◌^◌, ◌≤◌, ◌<◌}
use mathlib.Core.Path.{◌≡◌, refl, sym, ap, ◌∙◌}
use mathlib.Core.Logic.{◌≢◌, ◌⊎◌, inl, inr}
use mathlib.Core.List.{List, [], ◌∷◌, ◌++◌, append_assoc}
use native.Mathlib.Nat.{add-zero}
use native.Mathlib.Omega.{arith}
use borrow.Author.Tests.{ltb-true, ltb-false}
use lib.ListN.{length, get_or, take, drop, length-append, length-drop}
use lib.Seq.{get_or-append-add, take-append-le, take-length}
use lib.Dec.{ltb}
use Rattle.base.specs.Rows.{Row, row}
use Rattle.base.specs.Outcomes.{Outcome}
use Rattle.base.proofs.Tests.{by_test}
use Rattle.frame.specs.Offers.{joined}
use Rattle.capture.specs.Format.{mark, head, direction_of}
use Rattle.capture.specs.Captures.{Begins, AllRecords, Stops, Reads, no_mark, no_version, with_head}
use Rattle.capture.specs.Reading.{lacking_of, end_in, end_of}
use Rattle.capture.specs.Windows.{count_of, add_record, records_by, place_by, left_by, AreWindows, Closes}
use Rattle.capture.specs.ReadingExact.{WindowsRead, Reading, OneReadingAlways, HasMark, HasHead}
use Rattle.capture.specs.ReadingExact.{StopsExactly, StopsExactlyAlways}
use Rattle.capture.proofs.Agreeing.{Same, same_later, not_begun}
use Rattle.capture.proofs.Heads.{same_mark, mark_whole, mark_begun, head_begun, version_behind, short_mark}
use Rattle.capture.proofs.Heads.{short_head, version_lacks, begin_cases, mark_of, has_mark, head_of, has_head}
use Rattle.capture.proofs.NextCases.{first_cases}
use Rattle.capture.proofs.OneSplit.{some_split, one_split, StopExactly, stop_exactly}
use Rattle.capture.proofs.Splits.{Split, From, one_value, all_left, from_later}

-- ---- a capture whose head is not taken

module _ (capture : List ℕ) (fits : length capture ≤ 2 ^ 62) (number at : ℕ) (some : number ≢ 0) where
  -- a mark, and no head
  marked : Same mark capture → 3 ≤ length capture → (Begins head capture → ⊥) → (number ≡ 52) × (at ≡ 3)
      → Reads capture [] number at
  marked s h none (n, p) =
      let e : capture ≡ mark ++ drop 3 capture = mark_begun capture s h in
      no_version (drop 3 capture) refl n p e (λ v. none (version_behind capture (drop 3 capture) e v))

  lacks_head : Same head capture → length capture < 5
      → lacking_of 0 capture ≡ row number (at ∷ []) → Reads capture [] number at
  lacks_head s h =
      by_test (λ (r : Row). r ≡ row number (at ∷ []) → Reads capture [] number at) (ltb (length capture) 3)
      (λ t e.
      let q = one_value e in no_mark refl q.0 q.1 (short_mark capture (ltb-true (length capture) 3 t)))
      (λ t e. marked (same_mark capture s) (ltb-false (length capture) 3 t) (short_head capture h) (one_value e))

  closed_first : (w : List ℕ)
      → Closes 0 capture w → end_of 0 w ≡ row number (at ∷ []) → Reads capture [] number at
  closed_first w c =
      let size : length capture ≡ length w + length c.rest = ap length c.front ∙ length-append w c.rest in
      first_cases w
      (λ (o : Outcome ℕ).
      (c.rest ≡ []) ⊎ (50 < o.row.number) → end_in o.row 0 w ≡ row number (at ∷ [])
      → Reads capture [] number at) (omega arith)
      (λ other d e.
      let q = one_value e in
      no_mark refl q.0 q.1 (λ begins. not_begun mark w c.rest other (rw c.front at begins)))
      (λ same other d e.
      let all : 3 ≤ length w = omega (arith, mark_whole w same other, other.there) in
      marked (rw c.front (same_later mark w c.rest same all)) (omega arith)
      (λ begins. not_begun head w c.rest other (rw c.front at begins)) (one_value e))
      (λ same few d e.
      let q : capture ≡ w = all_left c.front d (omega arith) in
      lacks_head (rw q same) (rw q few) (rw q e))
      (λ same room d e. absurd (some (one_value e).0))
      c.decided

-- ---- and one whose head is taken

behind_head : (capture : List ℕ) {records : List (List ℕ)} {number at : ℕ}
    → capture ≡ head ++ drop 5 capture → From 5 (drop 5 capture) records number at → Reads capture records number at
behind_head capture e f =
    with_head f.split.rest (e ∙ ap (λ (l : List ℕ). head ++ l) f.split.bytes) f.stop f.split.all
    f.split.stops

module _ (capture : List ℕ) (fits : length capture ≤ 2 ^ 62) (w : List ℕ) (number at : ℕ) (some : number ≢ 0) where
  from_first : (windows : List (List ℕ)) → AreWindows 0 capture windows
      → Closes (place_by 0 windows) (left_by 0 capture windows) w → end_of (place_by 0 windows) w ≡ row number (at ∷ [])
      → Reads capture (records_by 0 windows) number at
  unfolding records_by place_by left_by AreWindows
  from_first [] a c e = closed_first capture fits number at some w c e
  from_first (v ∷ windows) ((rest, front), a) c e =
      let size : length capture ≡ length v + length rest = ap length front ∙ length-append v rest in
      first_cases v
      (λ (o : Outcome ℕ).
      AreWindows o.state (drop (count_of o.row) capture) windows
      → Closes (place_by o.state windows) (left_by o.state (drop (count_of o.row) capture) windows) w
      → end_of (place_by o.state windows) w ≡ row number (at ∷ [])
      → Reads capture (add_record o.row v (records_by o.state windows)) number at) (omega arith)
      (λ other a c e. from_first windows a c e)
      (λ same other a c e. from_first windows a c e)
      (λ same few a c e. from_first windows a c e)
      (λ same room a c e.
      behind_head capture (head_begun capture (rw front (same_later head v rest same room)) (omega arith))
      (from_later windows 5 (drop 5 capture) (omega arith) (rw length-drop (omega arith)) a w c number at e some))
      a c e

pub windows_read : WindowsRead
windows_read capture fits windows a w c number place e some =
    from_first capture fits w number place some windows a c e

-- ---- one_reading

-- what is behind the head
split_behind : {capture : List ℕ} {number : ℕ} {rest : List ℕ} (records : List (List ℕ))
    → capture ≡ head ++ (joined records ++ rest) → AllRecords records → Stops rest number
    → Split (drop 5 capture) records number
split_behind {rest} records e all stops =
    record { rest = rest; bytes = ap (λ (l : List ℕ). drop 5 l) e; all = all; stops = stops }

pub same_reading : {capture : List ℕ} {rs ks : List (List ℕ)} {n m p q : ℕ}
    → Reads capture rs n p → Reads capture ks m q → (rs ≡ ks) × (n ≡ m) × (p ≡ q)
same_reading (no_mark r n p k) (no_mark r' n' p' k') = (r ∙ sym r', n ∙ sym n', p ∙ sym p')
same_reading (no_mark r n p k) (no_version rest r' n' p' e k') = absurd (k (rest, e))
same_reading (no_mark r n p k) (with_head rest e p' all s) = absurd (k (_, e))
same_reading (no_version rest r n p e k) (no_mark r' n' p' k') = absurd (k' (rest, e))
same_reading (no_version rest r n p e k) (no_version rest' r' n' p' e' k') = (r ∙ sym r', n ∙ sym n', p ∙ sym p')
same_reading {capture} (no_version rest r n p e k) (with_head rest' e' p' all s) =
    absurd (version_lacks capture rest e k (_, e'))
same_reading (with_head rest e p all s) (no_mark r' n' p' k') = absurd (k' (_, e))
same_reading {capture} (with_head rest e p all s) (no_version rest' r' n' p' e' k') =
    absurd (version_lacks capture rest' e' k' (_, e))
same_reading {rs} {ks} (with_head rest e p all s) (with_head rest' e' p' all' s') =
    let same = one_split rs ks (split_behind rs e all s) (split_behind ks e' all' s') in
    (same.0, same.1, p ∙ ap (λ (l : List (List ℕ)). 5 + length (joined l)) same.0 ∙ sym p')

reading_of : (capture : List ℕ) → Reading capture
reading_of capture =
    begin_cases capture
    (λ none. record { records = []; number = 51; place = 0; reads = no_mark refl refl refl none })
    (λ rest e none. record { records = []; number = 52; place = 3; reads = no_version rest refl refl refl e none })
    (λ e.
    let s = some_split (drop 5 capture) in
    record {
      records = s.records;
      number = s.number;
      place = 5 + length (joined s.records);
      reads = behind_head capture e (record { split = s.split; stop = refl });
    })

pub one_reading : OneReadingAlways
one_reading capture =
    record {
      some = reading_of capture;
      same = λ a b.
          let e = same_reading a.reads b.reads in record { records = e.0; number = e.1; place = e.2 };
    }

-- ---- stops_exactly

-- a mark or a head that lacks
module _ (c : List ℕ) (records : List (List ℕ)) (number place : ℕ) where
  -- none was taken
  no_records : records ≡ [] → AllRecords records
  no_records r = rw r tt

  exact_no_mark : records ≡ [] → number ≡ 51 → place ≡ 0 → (Begins mark c → ⊥) → StopsExactly c records number place
  exact_no_mark r n p none =
      let never : HasMark c → ⊥ = λ m. none (mark_of c m) in
      record {
        no_mark = λ k. (n, p);
        no_mark_only = λ e. never;
        no_version = λ m k. absurd (never m);
        no_version_only = λ e. absurd (omega arith);
        none_taken = λ k. r;
        record_bytes = λ h. absurd (never h.mark);
        each_record = no_records r;
        after_records = λ h. absurd (never h.mark);
        direction = λ h k d. absurd (never h.mark);
        direction_only = λ e. absurd (omega arith);
        ended = λ h k d. absurd (never h.mark);
        ended_only = λ e. absurd (omega arith);
        ended_lacks = λ e. absurd (omega arith);
        whole = λ h e. absurd (never h.mark);
        whole_only = λ e. absurd (omega arith);
      }

  exact_no_version : records ≡ [] → number ≡ 52 → place ≡ 3 → HasMark c → (HasHead c → ⊥)
      → StopsExactly c records number place
  exact_no_version r n p m never =
      record {
        no_mark = λ k. absurd (k m);
        no_mark_only = λ e k. omega arith;
        no_version = λ m k. (n, p);
        no_version_only = λ e. (m, never);
        none_taken = λ k. r;
        record_bytes = λ h. absurd (never h);
        each_record = no_records r;
        after_records = λ h. absurd (never h);
        direction = λ h k d. absurd (never h);
        direction_only = λ e. absurd (omega arith);
        ended = λ h k d. absurd (never h);
        ended_only = λ e. absurd (omega arith);
        ended_lacks = λ e. absurd (omega arith);
        whole = λ h e. absurd (never h);
        whole_only = λ e. absurd (omega arith);
      }

-- behind a head
module _ (c : List ℕ) (records : List (List ℕ)) (number place : ℕ) (rest : List ℕ)
    (e : c ≡ head ++ (joined records ++ rest)) (p : place ≡ 5 + length (joined records)) (all : AllRecords records)
    (x : StopExactly rest number) where
  behind : c ≡ (head ++ joined records) ++ rest
  behind = e ∙ sym (append_assoc head (joined records) rest)

  size_behind : length c ≡ place + length rest
  size_behind = omega (arith, ap length behind, length-append (head ++ joined records) rest)

  byte_behind : (i : ℕ) → get_or c (place + i) 0 ≡ get_or rest i 0
  byte_behind i =
      let q : place ≡ length (head ++ joined records) = omega arith in
      rw (behind, q) (get_or-append-add (head ++ joined records) rest i 0)

  first_behind : get_or c place 0 ≡ direction_of rest
  first_behind = rw add-zero at (byte_behind 0)

  exact_head : StopsExactly c records number place
  exact_head =
      let there : HasHead c = has_head c (joined records ++ rest, e) in
      let size = size_behind in
      let first = first_behind in
      record {
        no_mark = λ k. absurd (k there.mark);
        no_mark_only = λ q m. x.behind (inl q);
        no_version = λ m k. absurd (k there);
        no_version_only = λ q. absurd (x.behind (inr q));
        none_taken = λ k. absurd (k there);
        record_bytes = λ h. ap (λ (l : List ℕ). take (length (joined records)) (drop 5 l)) e
            ∙ (take-append-le (length (joined records)) (joined records) rest (omega arith)
            ∙ take-length (joined records));
        each_record = all;
        after_records = λ h. p;
        direction = λ h k two. x.direction (omega arith) (omega arith);
        direction_only = λ q.
            let d = x.direction_only q in
            (there, omega (arith, d.0), omega (arith, d.1));
        ended = λ h k one. x.ended (omega arith) (omega arith);
        ended_only = λ q.
            let d = x.ended_only q in
            (there, omega (arith, d.0), omega (arith, d.1));
        ended_lacks = λ q. omega (arith, (x.ended_only q).2, byte_behind 5, byte_behind 6);
        whole = λ h q. x.whole (omega arith);
        whole_only = λ q. (there, omega (arith, x.whole_only q));
      }

pub stops_exactly : StopsExactlyAlways
stops_exactly c records number place (no_mark r n p none) = exact_no_mark c records number place r n p none
stops_exactly c records number place (no_version rest r n p e none) =
    exact_no_version c records number place r n p (has_mark c (rest, e))
    (λ h. version_lacks c rest e none (head_of c h))
stops_exactly c records number place (with_head rest e p all s) =
    exact_head c records number place rest e p all (stop_exactly s)
