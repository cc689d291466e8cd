-- What the messages of the protocol are, how they are computed, and what is proved of them.

-- Statements: what must be believed
pub mod Numbers
pub mod Counter
pub mod Parts
pub mod Commands
pub mod Layouts
pub mod Messages
pub mod Table
pub mod Owed
-- Model: what is computed, and what the contracts of the calls equate
pub mod Reading
pub mod Writing
pub mod Replies
-- Claims: what is proved; of answers and commands, of reading, of writing, of both, of replies
pub mod AnswerRows
pub mod CommandLists
pub mod ReadingExact
pub mod ReadingSizes
pub mod ReadingWorked
pub mod PartsWithin
pub mod PartsExact
pub mod WritingExact
pub mod WritingWorked
pub mod WrittenRead
pub mod SendingExact
pub mod SendingWorked
pub mod ReadWritten
pub mod SameBytes
pub mod MessageRound
pub mod RepliesExact
pub mod RepliesRead
pub mod RepliesWorked
