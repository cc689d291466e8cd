-- The laws, from bits and tables up to the claims of specs/. A claim of specs/X.antt is proved in proofs/X.antt.

-- Laws
pub mod Tests
pub mod Numbers
pub mod Spelt
pub mod Fields
pub mod Decoding
pub mod Accepted
pub mod Information
pub mod ReadAgain
pub mod Sending
-- Claims
pub mod AnswerRows
pub mod CommandLists
pub mod ReadingExact
pub mod ReadingSizes
pub mod ReadingWorked
pub mod PartsWithin
pub mod PartsExact
pub mod WritingExact
pub mod WritingWorked
pub mod WrittenRead
pub mod SendingExact
pub mod SendingWorked
pub mod ReadWritten
pub mod SameBytes
pub mod MessageRound
pub mod RepliesExact
pub mod RepliesRead
pub mod RepliesWorked
