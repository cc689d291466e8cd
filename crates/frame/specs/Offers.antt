-- Statement: data that comes again first in the next offer, and what the stream then is. PROTOCOL 5.5.
use Rattle.std.specs.Prelude.{◌≡◌, ℕ, List, [], ◌∷◌, ◌++◌, length, drop}
use Rattle.frame.specs.Logs.{Entry, offered, consumed_in, stream}

-- each call is offered the front of what is not consumed yet
unfoldable pub OffersFront : List ℕ → List Entry → Type 0
OffersFront left [] = Unit {0}
OffersFront left (e ∷ es) = ((r : List ℕ) × (left ≡ offered e.call ++ r)) × OffersFront (drop (consumed_in e) left) es

-- the stream is the front of the bytes sent, and all of them once as many are consumed
pub record Front (sent : List ℕ) (log : List Entry) : Type 0 where
  pub rest : List ℕ
  pub front : sent ≡ stream log ++ rest
  pub whole : length (stream log) ≡ length sent → stream log ≡ sent

-- the pieces of what is sent, joined
unfoldable pub joined : List (List ℕ) → List ℕ
joined [] = []
joined (p ∷ ps) = p ++ joined ps
