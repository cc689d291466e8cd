-- The claims of Broken: each_decision at the bytes of each refused frame, and one byte of any reader. Assumes nothing.
use Rattle.std.proofs.Common.{◌≡◌, ℕ, ◌+◌, ◌<◌, ◌≤◌, false, ltb, ◌≢◌, ◌⊎◌, List, [], ◌∷◌, ◌++◌, length, get_or, sym}
use Rattle.std.proofs.Common.{refl, ap, ◌∙◌, inl, inr, append_assoc, arith, length-append, ltb-false, le-ltb, lt-ltb}
use Rattle.std.proofs.Common.{ne_eqb}
use Rattle.base.proofs.Tests.{either_way}
use Rattle.frame.specs.Broken.{stream_of, Answers, EachLength, EachBreak, EachCut, EachSum, Says, StandsFor}
use Rattle.frame.specs.Broken.{for_frame, for_short, for_long, for_stuff, for_stuff_late, for_cut, for_sum}
use Rattle.frame.specs.Broken.{AllStandFor, BreaksExactly, SumsExactly, WorkedBreaks}
use Rattle.frame.specs.Calls.{run_of, zeros}
use Rattle.frame.specs.Decisions.{Breaks, WrongSum, Decides, is_frame_lem, is_short, is_long, is_stuff, is_stuff_late}
use Rattle.frame.specs.Decisions.{is_cut, is_sum, Decision, IsDecision}
use Rattle.frame.specs.Logs.{Call}
use Rattle.frame.specs.Rules.{body_byte_of, completed_of, advance_of}
use Rattle.frame.specs.State.{Header, Open, Scan}
use Rattle.frame.specs.Wire.{wire, length_of, head_size, found_sum, computed_sum, widest}
use Rattle.frame.proofs.BodyLayout.{body_layout}
use Rattle.frame.proofs.Decisions.{each_decision}
use Rattle.frame.proofs.Stored.{feed_run}

-- ---- over a stream

-- what the bytes `raw` of the stream decide is answered
module _ (limit : ℕ) (small : limit ≤ widest) (calls : List Call) (before raw after : List ℕ)
    (bytes : stream_of limit calls ≡ before ++ (raw ++ after)) where
  answered : {number end : ℕ} {values body : List ℕ} → end ≡ length before + length raw
      → Decides limit raw number values body → Answers limit calls number (length before) end values body
  answered e d =
      (each_decision limit small calls).complete _
      (record { before = before; raw = raw; after = after; bytes = bytes; starts = refl; ends = e; decides = d })

-- the bytes of a frame that an FF and a byte x end
regroup : (before b after : List ℕ) (x : ℕ)
    → before ++ ((wire b ++ 255 ∷ x ∷ []) ++ after) ≡ before ++ (wire b ++ 255 ∷ x ∷ after)
regroup before b after x = ap (λ (t : List ℕ). before ++ t) (append_assoc (wire b) (255 ∷ x ∷ []) after)

end_at : (before b : List ℕ) (x : ℕ)
    → length before + length (wire b) + 2 ≡ length before + length (wire b ++ 255 ∷ x ∷ [])
end_at before b x = omega (arith, length-append (wire b) (255 ∷ x ∷ []))

pub each_length : EachLength
each_length limit small calls before after b0 b1 bytes =
    let b : List ℕ = b0 ∷ b1 ∷ [] in
    record {
      short = λ low. answered limit small calls before (wire b) after bytes refl
          (is_short b refl refl refl refl refl low);
      long = λ first five high. answered limit small calls before (wire b) after bytes refl
          (is_long b refl refl refl refl refl first five high);
    }

pub each_break : EachBreak
each_break limit small calls before b after x bytes unfinished k n =
    let raw : List ℕ = wire b ++ 255 ∷ x ∷ [] in
    let whole : stream_of limit calls ≡ before ++ (raw ++ after) = bytes ∙ sym (regroup before b after x) in
    let broken : Breaks limit raw b x =
    record { bytes = refl; unfinished = unfinished; not_stuffed = k; not_header = n } in
    record {
      early = λ few. answered limit small calls before raw after whole (end_at before b x)
          (is_stuff b x refl refl refl broken (omega arith));
      late = λ many. answered limit small calls before raw after whole (end_at before b x)
          (is_stuff_late b x refl refl refl broken many);
      at_sum = λ two all. answered limit small calls before raw after whole (end_at before b x)
          (is_stuff_late b x refl refl refl broken (omega (arith, (unfinished.bounds two).0)));
    }

pub each_cut : EachCut
each_cut limit small calls before b after bytes unfinished =
    answered limit small calls before (wire b ++ 255 ∷ 255 ∷ []) after (bytes ∙ sym (regroup before b after 255))
    (end_at before b 255) (is_cut b refl refl refl refl unfinished)

pub each_sum : EachSum
each_sum limit small calls before after p b0 b1 b2 b3 b4 b5 s bytes true_length longest wrong =
    let b : List ℕ = b0 ∷ b1 ∷ b2 ∷ b3 ∷ b4 ∷ b5 ∷ (p ++ s ∷ []) in
    let sums = (body_layout b0 b1 b2 b3 b4 b5 s p []).sums_at true_length in
    let sum : WrongSum limit b = record {
      true_length = omega (arith, length-append p (s ∷ []));
      shortest = omega arith;
      longest = omega arith;
      sum_fails = λ e. wrong (sym sums.0 ∙ e ∙ sums.1);
    } in
    answered limit small calls before (wire b) after bytes refl
    (is_sum b refl (rw (sums.0, sums.1)) refl refl sum)

module _ (limit : ℕ) (t : List ℕ) (l : Decision) (d : IsDecision limit t l) where
  says : {values body : List ℕ} (raw : List ℕ) → d.raw ≡ raw → l.values ≡ values → l.body ≡ body
      → Says t l raw values body
  says raw e values body =
      record {
        stretch = record {
          before = d.before;
          after = d.after;
          bytes = rw e at d.bytes;
          starts = d.starts;
          ends = rw e at d.ends;
        };
        values_are = values;
        body_is = body;
      }

  -- two length bytes are a body of length 2
  two_bytes : (P : List ℕ → Type 0) → ((b0 b1 : ℕ) → P (b0 ∷ b1 ∷ [])) → (b : List ℕ) → length b ≡ 2 → P b
  two_bytes P f [] e = absurd (omega arith)
  two_bytes P f (b0 ∷ []) e = absurd (omega arith)
  two_bytes P f (b0 ∷ b1 ∷ []) e = f b0 b1
  two_bytes P f (b0 ∷ b1 ∷ b2 ∷ b) e = absurd (omega arith)

  abbrev Stands : Type 0
  Stands = StandsFor limit t l

  stands : Decides limit d.raw l.number l.values l.body → Stands
  stands (is_frame_lem b n v h e g) = for_frame b n g (says (wire b) e v h)
  stands (is_short b n v h e two low) =
      two_bytes (λ (b : List ℕ). length_of b < 5 → d.raw ≡ wire b → Stands)
      (λ b0 b1 low e. for_short b0 b1 n low (says (wire (b0 ∷ b1 ∷ [])) e v h)) b two low e
  stands (is_long b n v h e two first five high) =
      two_bytes (λ (b : List ℕ). get_or b 0 0 ≢ 255 → 5 ≤ length_of b → limit < length_of b → d.raw ≡ wire b → Stands)
      (λ b0 b1 first five high e. for_long b0 b1 n first five high (says (wire (b0 ∷ b1 ∷ [])) e v h))
      b two first five high e
  stands (is_stuff b x n v h w few) =
      for_stuff b x n (omega arith) w.unfinished w.not_stuffed w.not_header
      (says (wire b ++ 255 ∷ x ∷ []) w.bytes v h)
  stands (is_stuff_late b x n v h w many) =
      for_stuff_late b x n many w.unfinished w.not_stuffed w.not_header
      (says (wire b ++ 255 ∷ x ∷ []) w.bytes v h)
  stands (is_cut b n v h e u) = for_cut b n u (says (wire b ++ 255 ∷ 255 ∷ []) e v h)
  stands (is_sum b n v h e w) =
      for_sum b (found_sum b) (computed_sum b) n w.true_length w.shortest w.longest refl refl w.sum_fails
      (says (wire b) e v h)

pub stands_for : AllStandFor
stands_for limit small calls l m =
    let d : IsDecision limit (stream_of limit calls) l = (each_decision limit small calls).sound l m in
    stands limit (stream_of limit calls) l d d.decides

-- ---- one byte of any reader

pub break_exactly : BreaksExactly
unfolding run_of
break_exactly limit r x bytes waits inside room k n =
    let run = feed_run limit r (x ∷ bytes) inside room in
    record {
      early = λ few. run ∙ rw (ne_eqb x 255 n, waits, ne_eqb x 85 k, lt-ltb r.scan.filled head_size (omega arith));
      late = λ many. run ∙ rw (ne_eqb x 255 n, waits, ne_eqb x 85 k, le-ltb r.scan.filled head_size many);
    }

-- a body byte that is the last one
last_byte : (limit : ℕ) (s : Scan) (v : ℕ) → 2 ≤ s.filled → (s.length < s.filled) ⊎ (limit < s.filled)
    → body_byte_of limit s v ≡ completed_of s v
last_byte limit s v two full = rw (ne_eqb s.filled 0 (λ e. omega arith), ne_eqb s.filled 1 (λ e. omega arith))
    (either_way (ltb s.length s.filled) (λ t. rw t) (λ t. rw (t, lt-ltb limit s.filled (most t full))))
  where
    most : ltb s.length s.filled ≡ false → (s.length < s.filled) ⊎ (limit < s.filled) → limit < s.filled
    most t (inl known) = absurd (omega (arith, ltb-false s.length s.filled t))
    most t (inr high) = high

-- a byte other than FF in these phases is a body byte
plain_byte : (limit : ℕ) (s : Scan) (x : ℕ) → (s.phase ≡ Header) ⊎ (s.phase ≡ Open) → x ≢ 255
    → advance_of limit s x ≡ body_byte_of limit s x
plain_byte limit s x (inl p) k = rw (ne_eqb x 255 k, p)
plain_byte limit s x (inr p) k = rw (ne_eqb x 255 k, p)

pub sum_exactly : SumsExactly
unfolding run_of
sum_exactly limit r x bytes two full inside room =
    let run = feed_run limit r (x ∷ bytes) inside room in
    let s : Scan = r.scan in
    record {
      plain = λ phase k wrong. run
          ∙ rw (plain_byte limit s x phase k, last_byte limit s x two full, ne_eqb x s.sum wrong);
      stuffed = λ waits is wrong. run
          ∙ rw (is, waits, last_byte limit s 255 two full, ne_eqb 255 s.sum wrong);
    }

pub worked_breaks : WorkedBreaks
unfolding zeros run_of
worked_breaks =
    record {
      five = refl;
      at_sum = refl;
      stuffed_five = refl;
      example_9 = refl;
      example_10 = refl;
      after_1 = refl;
      after_2 = refl;
      after_3 = refl;
      after_4 = refl;
      after_5 = refl;
      after_6 = refl;
      after_7 = refl;
      after_8 = refl;
      after_noise = refl;
      cut = refl;
      stuffed_six = refl;
    }
