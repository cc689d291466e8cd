-- Where the data left always comes first in the next offer, the stream is the front of the bytes sent, and all of
-- them once as many are consumed. Assumes nothing.
use Rattle.std.proofs.Common.{◌≡◌, ℕ, ◌+◌, List, [], ◌∷◌, ◌++◌, length, take, drop, sym, refl, ap, ◌∙◌, append_assoc}
use Rattle.std.proofs.Common.{append-nil, arith, length-append, take-append-drop}
use lib.Seq.{take-append-le}
use Rattle.frame.specs.Logs.{Entry, consumed_in, offered, stream}
use Rattle.frame.specs.Accounts.{Accounts}
use Rattle.frame.specs.Offers.{OffersFront, Front}
use Rattle.base.proofs.Lists.{no_bytes}

front : (n : ℕ) (log : List Entry) (sent : List ℕ)
    → Accounts n log → OffersFront sent log → (rest : List ℕ) × (sent ≡ stream log ++ rest)
unfolding OffersFront Accounts stream
front n [] sent a f = (sent, refl)
front n (e ∷ es) sent a f =
    let c : ℕ = consumed_in e in
    let ih = front (n + c) es (drop c sent) a.1 f.1 in
    let t : take c sent ≡ take c (offered e.call) =
    ap (λ (l : List ℕ). take c l) f.0.1 ∙ take-append-le c (offered e.call) f.0.0 a.0.within in (
      ih.0,
      sym (take-append-drop c sent) ∙ ap (λ (l : List ℕ). l ++ drop c sent) t
          ∙ ap (λ (l : List ℕ). take c (offered e.call) ++ l) ih.1
          ∙ sym (append_assoc (take c (offered e.call)) (stream es) ih.0),
    )

pub fronted : (n : ℕ) (log : List Entry) (sent : List ℕ) → Accounts n log → OffersFront sent log → Front sent log
fronted n log sent a f =
    let r = front n log sent a f in
    let k : length sent ≡ length (stream log) + length r.0 = ap length r.1 ∙ length-append (stream log) r.0 in
    record {
      rest = r.0;
      front = r.1;
      whole = λ l. sym (r.1 ∙ ap (λ (t : List ℕ). stream log ++ t) (no_bytes r.0 (omega arith))
          ∙ append-nil (stream log));
    }
