-- What this crate says of frames, of the streaming reader and of the writer.

-- Statements: what must be believed
pub mod Wire
pub mod Frames
pub mod Decisions
pub mod Table
pub mod Logs
pub mod Accounts
pub mod Offers
-- Model: what is computed, and which the claims hold to the statements
pub mod State
pub mod Rules
pub mod Calls
pub mod LogsComputed
pub mod FramesComputed
-- Claims: what is proved. StreamCorrect is what the buyer asks of a stream
pub mod StreamCorrect
pub mod WrongLogs
pub mod LogExact
pub mod Sending
pub mod EachCall
pub mod Stored
pub mod Ranges
pub mod BodyLayout
pub mod Stuffing
pub mod WriterExact
pub mod RoundTrip
pub mod Variants
pub mod Injective
pub mod WorkedReader
pub mod Broken
