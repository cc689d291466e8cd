-- The specification of the link: PROTOCOL 9.

-- Statements: what must be believed
pub mod Sending
pub mod Clock
pub mod Table
pub mod Logs
pub mod History
-- Model: what the contracts equate, held to the statements by claims
pub mod Calls
pub mod LogsComputed
-- Claims: what is proved
pub mod Answers
pub mod Commands
pub mod Numbers
pub mod Times
pub mod Ranges
pub mod EachCall
pub mod Refusals
pub mod Entries
pub mod Histories
pub mod Figures
pub mod WorkedRuns
