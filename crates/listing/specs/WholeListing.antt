-- Claims: the stream alone decides the listing, however calls cut it. PROTOCOL 10.1, 10.7.
use Rattle.std.specs.Prelude.{ℕ, ◌^◌, ◌≤◌, ◌≡◌, List, [], ◌∷◌, ◌++◌, length}
use Rattle.frame.specs.Wire.{widest}
use Rattle.frame.specs.Calls.{fresh_of}
use Rattle.frame.specs.Logs.{Call, finish, stream, decisions_of}
use Rattle.frame.specs.LogsComputed.{log_of, send}
use Rattle.frame.specs.Offers.{joined}
use Rattle.listing.specs.CallTexts.{listing_of, feed_text, OnlyFeed}
use Rattle.listing.specs.Listing.{decisions_text, IsListing}

-- ---- each_listed: of every list of calls of a fresh reader, the lines are those of the decisions, in order;
-- frame's claim `each_decision` says that `decisions_of` has them all, each once, and nothing else
abbrev pub EachListed : Type 0
EachListed =
    (prefix : List ℕ) (limit : ℕ) → limit ≤ widest → (calls : List Call)
    → feed_text prefix (log_of limit (fresh_of limit) calls)
    ≡ decisions_text prefix (decisions_of (log_of limit (fresh_of limit) calls))

-- ---- whole_listing: feeds and then finish list the stream, in whatever pieces it was fed
abbrev pub WholeListing : Type 0
WholeListing =
    (prefix : List ℕ) (limit : ℕ) → limit ≤ widest → (calls : List Call) → OnlyFeed calls
    → IsListing prefix limit (stream (log_of limit (fresh_of limit) calls))
    (listing_of prefix limit (calls ++ finish ∷ []))

-- ---- one_listing: a stream has one listing
abbrev pub OneListing : Type 0
OneListing =
    (prefix : List ℕ) (limit : ℕ) (t a b : List ℕ) → IsListing prefix limit t a → IsListing prefix limit t b → a ≡ b

-- ---- sent_listing: a sender that offers each piece until it is consumed gets the listing of all, up to 2^62 bytes
abbrev pub SentListing : Type 0
SentListing =
    (prefix : List ℕ) (limit : ℕ) → limit ≤ widest → (pieces : List (List ℕ)) → length (joined pieces) ≤ 2 ^ 62
    → IsListing prefix limit (joined pieces)
    (listing_of prefix limit (send limit (fresh_of limit) pieces ++ finish ∷ []))

-- ---- any_cut: the same bytes have the same listing, however they are cut, into calls that consume them or into
-- pieces that are sent: PROTOCOL 10.7
pub record AnyCut (prefix : List ℕ) (limit : ℕ) : Type 0 where
  pub calls : (ps qs : List Call)
      → OnlyFeed ps → OnlyFeed qs → stream (log_of limit (fresh_of limit) ps)
      ≡ stream (log_of limit (fresh_of limit) qs)
      → listing_of prefix limit (ps ++ finish ∷ []) ≡ listing_of prefix limit (qs ++ finish ∷ [])
  pub pieces : (ps qs : List (List ℕ)) → joined ps ≡ joined qs → length (joined ps) ≤ 2 ^ 62
      → listing_of prefix limit (send limit (fresh_of limit) ps ++ finish ∷ [])
      ≡ listing_of prefix limit (send limit (fresh_of limit) qs ++ finish ∷ [])

-- of every limit up to the widest
abbrev pub AnyCuts : Type 0
AnyCuts = (prefix : List ℕ) (limit : ℕ) → limit ≤ widest → AnyCut prefix limit
