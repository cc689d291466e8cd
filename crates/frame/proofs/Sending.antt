-- sent_whole: a sender that offers its bytes, in any pieces, until they are consumed has all of them consumed; and
-- sent_again, from stream_correct. Assumes nothing.
use Rattle.std.proofs.Common.{◌≡◌, ℕ, zero, suc, ◌+◌, ◌^◌, ◌≤◌, List, [], ◌∷◌, ◌++◌, length, take, drop, sym, refl, ap}
use Rattle.std.proofs.Common.{◌∙◌, append_assoc, arith, length-append, length-drop, take-append-drop}
use Rattle.frame.specs.Table.{count_of}
use Rattle.base.specs.Outcomes.{Outcome}
use Rattle.frame.specs.Calls.{fresh_of, feed_of}
use Rattle.frame.specs.Logs.{Call, feed, Entry, consumed_in, offered, stream}
use Rattle.frame.specs.LogsComputed.{call_of, entry_of, log_of, state_after, offer, send}
use Rattle.frame.specs.Offers.{joined}
use Rattle.frame.specs.Sending.{SentAgain, SentWhole}
use Rattle.frame.specs.State.{State}
use Rattle.frame.proofs.EachCall.{within, progress}
use Rattle.frame.proofs.Moves.{Inv}
use Rattle.frame.proofs.Logged.{Called, called, is_in_range, Reached, reached}
use Rattle.frame.proofs.StreamCorrect.{fresh_holds, stream_correct}
use Rattle.base.proofs.Lists.{no_bytes}

stream-append : (a b : List Entry) → stream (a ++ b) ≡ stream a ++ stream b
unfolding stream
stream-append [] b = refl
stream-append (e ∷ a) b =
    let f : List ℕ = take (consumed_in e) (offered e.call) in
    ap (λ (l : List ℕ). f ++ l) (stream-append a b) ∙ sym (append_assoc f (stream a) (stream b))

log_append : (limit : ℕ) (a b : List Call) (r : State)
    → log_of limit r (a ++ b) ≡ log_of limit r a ++ log_of limit (state_after limit r a) b
unfolding log_of state_after
log_append limit [] b r = refl
log_append limit (c ∷ a) b r =
    ap (λ (l : List Entry). entry_of r c (call_of limit r c) ∷ l) (log_append limit a b (call_of limit r c).state)

-- what is left where a byte was consumed, if there was one
fewer : (n c : ℕ) (bs : List ℕ) → (1 ≤ length bs → 1 ≤ c) → length bs ≤ suc n → length (drop c bs) ≤ n
fewer n c [] some few = let none : List ℕ = [] in omega (arith, length-drop c none)
fewer n c (x ∷ xs) some few = omega (arith, length-drop c (x ∷ xs), some (omega arith))

module _ (limit : ℕ) (small : limit ≤ 65279) where
  offered_whole : (n : ℕ) (bs : List ℕ) (r : State)
      → Inv limit r → r.scan.consumed + length bs ≤ 2 ^ 62 → length bs ≤ n
      → stream (log_of limit r (offer limit n r bs)) ≡ bs
  unfolding log_of stream offer
  offered_whole zero bs r i room few = sym (no_bytes bs (omega arith))
  offered_whole (suc n) bs r i room few =
      let longest : r.scan.consumed ≤ 2 ^ 62 = omega arith in
      let y : Outcome State = feed_of limit r bs in
      let c : ℕ = count_of y.row in
      let ok : Called limit r (feed bs) y = called limit small r i longest (feed bs) in
      let left : length (drop c bs) ≤ n =
      fewer n c bs (λ h. progress limit r bs (is_in_range limit small r i longest) room h) few in
      let fits : y.state.scan.consumed + length (drop c bs) ≤ 2 ^ 62 =
      omega (arith, ok.place, length-drop c bs, within limit r bs) in
      ap (λ (l : List ℕ). take c bs ++ l) (offered_whole n (drop c bs) y.state ok.holds fits left)
      ∙ take-append-drop c bs

  sent_pieces : (ps : List (List ℕ)) (r : State) → Inv limit r → r.scan.consumed + length (joined ps) ≤ 2 ^ 62
      → stream (log_of limit r (send limit r ps)) ≡ joined ps
  unfolding log_of stream send joined
  sent_pieces [] r i room = refl
  sent_pieces (p ∷ ps) r i room =
      let all : length (p ++ joined ps) ≡ length p + length (joined ps) = length-append p (joined ps) in
      let cs : List Call = offer limit (length p) r p in
      let whole : stream (log_of limit r cs) ≡ p = offered_whole (length p) p r i (omega arith) (omega arith) in
      let q : Reached limit small r (state_after limit r cs) (log_of limit r cs) =
      reached limit small cs r i (omega arith) in
      let rest : stream (log_of limit (state_after limit r cs) (send limit (state_after limit r cs) ps)) ≡ joined ps
      = sent_pieces ps (state_after limit r cs) q.holds (omega (arith, q.place, ap length whole)) in
      let late : List Entry = log_of limit (state_after limit r cs) (send limit (state_after limit r cs) ps) in
      ap (λ (l : List Entry). stream l) (log_append limit cs (send limit (state_after limit r cs) ps) r)
      ∙ stream-append (log_of limit r cs) late ∙ ap (λ (l : List ℕ). l ++ stream late) whole
      ∙ ap (λ (l : List ℕ). p ++ l) rest

pub sent_whole : SentWhole
sent_whole limit small earlier pieces room =
    let q = reached limit small earlier (fresh_of limit) (fresh_holds limit) (omega arith) in
    sent_pieces limit small pieces (state_after limit (fresh_of limit) earlier) q.holds (omega (arith, q.place))

pub sent_again : SentAgain
sent_again limit small calls = (stream_correct limit small calls).again
