-- Statement: the text of a list of calls: the line of each answer, and the listing of all. PROTOCOL 10.1.
-- It uses frame's `log_of` and `fresh_of` of the model, held by log_exact, log_chains and fresh_reader_lem.
use Rattle.std.specs.Prelude.{ℕ, List, [], ◌∷◌, ◌++◌}
use Rattle.frame.specs.Calls.{fresh_of}
use Rattle.frame.specs.Logs.{Call, feed, finish, Entry}
use Rattle.frame.specs.LogsComputed.{log_of}
use Rattle.listing.specs.Lines.{heading_text, answer_text, last_of}

-- the text of a call: the line of its answer, or the last line
abbrev pub text_in : List ℕ → Call → Entry → List ℕ
text_in prefix (feed bytes) e = answer_text prefix e.row e.after.body
text_in prefix finish e = last_of prefix e.row

-- of a list of calls
unfoldable pub texts_of : List ℕ → List Entry → List ℕ
texts_of prefix [] = []
texts_of prefix (e ∷ es) = text_in prefix e.call e ++ texts_of prefix es

-- the listing of calls of a fresh reader, with a text before each line's word
abbrev pub listing_of : List ℕ → ℕ → List Call → List ℕ
listing_of prefix limit calls = heading_text prefix ++ texts_of prefix (log_of limit (fresh_of limit) calls)

-- the text of a feed alone; those of all feeds are between the heading and the last line
abbrev pub feed_text_in : List ℕ → Call → Entry → List ℕ
feed_text_in prefix (feed bytes) e = answer_text prefix e.row e.after.body
feed_text_in prefix finish e = []

-- of a list of calls
unfoldable pub feed_text : List ℕ → List Entry → List ℕ
feed_text prefix [] = []
feed_text prefix (e ∷ es) = feed_text_in prefix e.call e ++ feed_text prefix es

-- the calls are feeds, and none is finish
abbrev pub OnlyFeed : List Call → Type 0
OnlyFeed [] = Unit {0}
OnlyFeed (feed bytes ∷ cs) = OnlyFeed cs
OnlyFeed (finish ∷ cs) = ⊥
