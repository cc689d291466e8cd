-- round_trip, read_anywhere and made_good: calls that consume a written frame end in FRAME at its last byte.
-- Assumes nothing.
use Rattle.std.proofs.Common.{◌≡◌, ℕ, ◌+◌, ◌-◌, ◌<◌, ◌≤◌, Bool, true, false, cond, eqb, List, [], ◌∷◌, ◌++◌}
use Rattle.std.proofs.Common.{length, get_or, take, drop, sym, refl, ap, ◌∙◌, append-nil, add-zero, arith}
use Rattle.std.proofs.Common.{length-append, length-drop, take-append-drop, length-take-le, get_or-take, take_at}
use Rattle.std.proofs.Common.{eqb-true}
use mathlib.Core.List.{Memᴰ, head-eq_of_cons-eq}
use mathlib.Core.List.{cons≢nil}
use lib.Seq.{get_or_at, take-append-le, drop-append-le}
use Rattle.frame.specs.Wire.{stuff, wire, length_of, command_of, number_of, flags_of, payload_of, unsummed, body_of}
use Rattle.frame.specs.Wire.{Good}
use Rattle.base.specs.Sums.{checksum}
use Rattle.frame.specs.Frames.{Found, front_body}
use Rattle.frame.specs.FramesComputed.{frames_from}
use Rattle.base.specs.Rows.{row}
use Rattle.frame.specs.Calls.{fresh_of}
use Rattle.frame.specs.Logs.{Entry, consumed_in, offered, stream, delivered, decided}
use Rattle.frame.specs.LogsComputed.{log_of, state_after}
use Rattle.frame.specs.Accounts.{Account, Accounts}
use Rattle.frame.specs.BodyLayout.{MadeGood}
use Rattle.frame.specs.RoundTrip.{ReadBack, RoundTrip, ReadAnywhere}
use Rattle.frame.specs.State.{State}
use Rattle.frame.proofs.Skip.{good_first, take-wire}
use Rattle.frame.proofs.Moves.{Inv, origin, pending, settles}
use Rattle.frame.proofs.Logged.{Logged, logged, reached}
use Rattle.frame.proofs.Accounts.{frame_consumes}
use Rattle.frame.proofs.StreamCorrect.{fresh_holds, stream_correct}
use Rattle.base.proofs.Lists.{no_bytes}

-- ---- a body made of its four values

module _ (command number flags : ℕ) (payload : List ℕ) where
  abbrev made : List ℕ
  made = body_of command number flags payload

  length_made : length_of made ≡ length payload + 5
  unfolding body_of
  length_made = omega arith

  good_made : (limit : ℕ) → length payload + 5 ≤ limit → Good limit made
  unfolding body_of
  good_made limit fits =
      let u : List ℕ = unsummed command number flags payload in
      let l : length_of made ≡ length payload + 5 = length_made in
      let n : length u ≡ length_of made + 1 = omega arith in
      record {
        true_length = omega (arith, length-append u (checksum u ∷ []));
        shortest = omega arith;
        longest = omega arith;
        sum_holds = get_or_at u (checksum u) [] 0 (length_of made + 1) n
            ∙ ap checksum (sym (take_at u (checksum u ∷ []) (length_of made + 1) n));
      }

  command_made : command_of made ≡ command
  unfolding body_of
  command_made = refl

  number_made : number_of made ≡ number
  unfolding body_of
  number_made = refl

  flags_made : flags_of made ≡ flags
  unfolding body_of
  flags_made = omega arith

  payload_made : payload_of made ≡ payload
  unfolding body_of
  payload_made =
      let l : length_of made - 5 ≡ length payload = omega (arith, length_made) in
      take_at payload (checksum (unsummed command number flags payload) ∷ []) (length_of made - 5) (sym l)

pub made_good : MadeGood
made_good limit command number flags payload fits =
    record {
      good = good_made command number flags payload limit fits;
      command_is = command_made command number flags payload;
      number_is = number_made command number flags payload;
      flags_are = flags_made command number flags payload;
      payload_is = payload_made command number flags payload;
    }

-- ---- a body that is held: its fields are those of the bytes held

module _ (u b : List ℕ) (e : front_body u ≡ b) where
  at : (i : ℕ) → i < length_of u + 2 → get_or u i 0 ≡ get_or b i 0
  at i h = sym (get_or-take (length_of u + 2) u i 0 h) ∙ ap (λ (l : List ℕ). get_or l i 0) e

  same_length : length_of u ≡ length_of b
  same_length = omega (arith, at 0 (omega arith), at 1 (omega arith))

  same_payload : length b ≡ length_of b + 2 → 4 ≤ length_of b → payload_of u ≡ payload_of b
  same_payload n k =
      let rest : List ℕ = drop (length_of u + 2) u in
      let parts : u ≡ b ++ rest = sym (take-append-drop (length_of u + 2) u) ∙ ap (λ (l : List ℕ). l ++ rest) e in
      ap (λ (l : List ℕ). take (length_of u - 5) (drop 6 l)) parts
      ∙ ap (λ (l : List ℕ). take (length_of u - 5) l) (drop-append-le 6 b rest (omega arith))
      ∙ take-append-le (length_of u - 5) (drop 6 b) rest (omega (arith, same_length, length-drop 6 b))
      ∙ ap (λ (j : ℕ). take (j - 5) (drop 6 b)) same_length

-- ---- the call that delivers the only frame of a log

abbrev found_in : Entry → Found
found_in e =
    record { start = get_or e.row.values 1 0; end = get_or e.row.values 2 0; body = front_body e.after.body }

record Single (log : List Entry) (f : Found) : Type 0 where
  early : List Entry
  last : Entry
  late : List Entry
  parts : log ≡ early ++ last ∷ late
  number : last.row.number ≡ 1
  found : found_in last ≡ f

single : (log : List Entry) (f : Found) → delivered log ≡ f ∷ [] → Single log f
unfolding delivered
single [] f e = absurd (cons≢nil (sym e))
single (a ∷ l) f e = go (eqb a.row.number 1) refl e (λ k. single l f k)
  where
    go : (t : Bool) → eqb a.row.number 1 ≡ t → cond t (found_in a ∷ delivered l) (delivered l) ≡ f ∷ []
        → (delivered l ≡ f ∷ [] → Single l f) → Single (a ∷ l) f
    go true q e ih =
        record {
          early = [];
          last = a;
          late = l;
          parts = refl;
          number = eqb-true a.row.number 1 q;
          found = head-eq_of_cons-eq e;
        }
    go false q e ih =
        let s : Single l f = ih e in
        record {
          early = a ∷ s.early;
          last = s.last;
          late = s.late;
          parts = ap (λ (k : List Entry). a ∷ k) s.parts;
          number = s.number;
          found = s.found;
        }

-- the counts of the early, the last and the late calls of a log
record Split (n : ℕ) (early : List Entry) (last : Entry) (late : List Entry) : Type 0 where
  account : Account (n + length (stream early)) last
  size : length (stream (early ++ last ∷ late)) ≡ length (stream early) + (consumed_in last + length (stream late))
  member : Memᴰ last (early ++ last ∷ late)

split : (early : List Entry) (last : Entry) (late : List Entry) (n : ℕ)
    → Accounts n (early ++ last ∷ late) → Split n early last late
unfolding Accounts stream
split [] last late n a =
    let consumed : length (take (consumed_in last) (offered last.call)) ≡ consumed_in last =
    length-take-le (consumed_in last) (offered last.call) a.0.within in
    record {
      account = rw add-zero a.0;
      size = omega (arith, length-append (take (consumed_in last) (offered last.call)) (stream late));
      member = Memᴰ.head refl;
    }
split (e ∷ early) last late n a =
    let s : Split (n + consumed_in e) early last late = split early last late (n + consumed_in e) a.1 in
    let c : ℕ = consumed_in e in
    let f : List ℕ = take c (offered e.call) in
    let consumed : length f ≡ c = length-take-le c (offered e.call) a.0.within in
    let all : length (f ++ stream early) ≡ c + length (stream early) =
    length-append f (stream early) ∙ ap (λ (k : ℕ). k + length (stream early)) consumed in
    let place : n + c + length (stream early) ≡ n + length (f ++ stream early) = omega arith in
    record {
      account = rw place at s.account;
      size = omega (arith, length-append f (stream (early ++ last ∷ late)), s.size);
      member = Memᴰ.tail s.member;
    }

member_of : {l k : List Entry} {e : Entry} → l ≡ k → Memᴰ e k → Memᴰ e l
member_of q m = rw q m

-- ---- the round trip

module _ (limit : ℕ) (small : limit ≤ 65279) (command number flags : ℕ) (payload : List ℕ)
    (fits : length payload + 5 ≤ limit) where
  abbrev body : List ℕ
  body = body_of command number flags payload

  abbrev whole : ℕ → Found
  whole n = record { start = n; end = n + length (wire body); body = body }

  one_frame : (r : State)
      → Inv limit r → frames_from limit (origin r) (pending r ++ wire body) ≡ whole r.scan.consumed ∷ []
  unfolding frames_from
  one_frame r i =
      let g : Good limit body = good_made command number flags payload limit fits in
      let n : ℕ = r.scan.consumed in
      settles limit small r i (stuff body) ∙ ap (λ (l : List ℕ). frames_from limit n l) (sym (append-nil (wire body)))
      ∙ take-wire limit body [] n (omega (arith, g.true_length)) (good_first limit body small g) g

  read_back : (r : State) (log : List Entry) (n : ℕ) → r.scan.consumed ≡ n → Inv limit r → Logged limit r log
      → stream log ≡ wire body → ReadBack n command number flags payload log
  read_back r log n at_n i ok all =
      let g : Good limit body = good_made command number flags payload limit fits in
      let s : Single log (whole r.scan.consumed) = single log (whole r.scan.consumed)
      (ok.frames ∙ ap (λ (l : List ℕ). frames_from limit (origin r) (pending r ++ l)) all ∙ one_frame r i) in
      let e : Entry = s.last in
      let w : Split r.scan.consumed s.early e s.late =
      split s.early e s.late r.scan.consumed (rw s.parts at ok.accounts) in
      let start : get_or e.row.values 1 0 ≡ r.scan.consumed = ap (λ (f : Found). f.start) s.found in
      let end : get_or e.row.values 2 0 ≡ r.scan.consumed + length (wire body) =
      ap (λ (f : Found). f.end) s.found in
      let held : front_body e.after.body ≡ body = ap (λ (f : Found). f.body) s.found in
      let is_decided : decided e.row.number ≡ true = rw s.number in
      let size : length (wire body) ≡ length (stream s.early) + (consumed_in e + length (stream s.late)) =
      sym (ap length all) ∙ ap (λ (l : List Entry). length (stream l)) s.parts ∙ w.size in
      let five : length_of body ≡ length payload + 5 = length_made command number flags payload in
      let same : length_of e.after.body ≡ length_of body = same_length e.after.body body held in
      let second : get_or e.after.body 2 0 ≡ get_or body 2 0 = at e.after.body body held 2 (omega arith) in
      let third : get_or e.after.body 3 0 ≡ get_or body 3 0 = at e.after.body body held 3 (omega arith) in
      record {
        early = s.early;
        last = e;
        late = s.late;
        parts = s.parts;
        nothing_later = no_bytes (stream s.late) (omega (arith, w.account.ends is_decided));
        some_consumed = frame_consumes w.account s.number;
        frame = ok.shapes e (member_of s.parts w.member) s.number
            ∙ frame_row (start ∙ at_n) (end ∙ ap (λ (k : ℕ). k + length (wire body)) at_n);
        body = held;
        command_is = omega (arith, second, third, command_made command number flags payload);
        number_is = omega (arith, second, third, number_made command number flags payload);
        flags_are = omega (
          arith,
          at e.after.body body held 4 (omega arith),
          at e.after.body body held 5 (omega arith),
          flags_made command number flags payload,
        );
        payload_is = same_payload e.after.body body held g.true_length (omega arith)
            ∙ payload_made command number flags payload;
      }
    where
      frame_row : {c a a' b b' : ℕ} → a ≡ a' → b ≡ b' → row 1 (c ∷ a ∷ b ∷ []) ≡ row 1 (c ∷ a' ∷ b' ∷ [])
      frame_row p q = cc

pub round_trip : RoundTrip
round_trip limit small command number flags payload fits earlier later all =
    let r = reached limit small earlier (fresh_of limit) (fresh_holds limit) (omega arith) in
    let q : State = state_after limit (fresh_of limit) earlier in
    read_back limit small command number flags payload fits q (log_of limit q later)
    (length (stream (log_of limit (fresh_of limit) earlier))) (omega (arith, r.place)) r.holds
    (logged limit small later q r.holds r.longest) all

pub read_anywhere : ReadAnywhere
read_anywhere limit small command number flags payload fits calls before after e =
    (stream_correct limit small calls).lists.complete _
    (record {
      before = before;
      after = after;
      bytes = e;
      starts = refl;
      ends = refl;
      good = good_made command number flags payload limit fits;
    })
