-- Laws, from lists and bytes up to the claims of specs/.

-- answers, states, and the writer
pub mod Injective
pub mod Variants
pub mod Stuffing
pub mod BodyLayout
pub mod Writing
pub mod WriterExact
-- the reader: one byte, one call
pub mod Puts
pub mod Steps
pub mod Stored
pub mod Ranges
pub mod EachCall
pub mod WorkedReader
-- the frames of a stream
pub mod Here
pub mod Skip
pub mod Listed
pub mod Unique
-- a list of calls: stream_correct
pub mod Bodies
pub mod Moves
pub mod Accounts
pub mod Logged
pub mod Sent
pub mod StreamCorrect
pub mod WrongLogs
pub mod LogExact
pub mod Sending
pub mod RoundTrip
-- the decisions of a stream
pub mod Fold
pub mod Deciding
pub mod Reading
pub mod Decisions
pub mod Headers
pub mod Broken
