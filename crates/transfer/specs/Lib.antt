-- The specification of a transfer: PROTOCOL 15.

-- Statements: what must be believed
pub mod Pieces
pub mod Payloads
pub mod Transfers
pub mod Table
pub mod Logs
pub mod History
-- Model: what the contracts equate, held to the statements by claims
pub mod Checks
pub mod Writing
pub mod Calls
pub mod LogsComputed
-- Claims: what is proved
pub mod Ranges
pub mod Refusals
pub mod PayloadNever
pub mod EachCall
pub mod Asking
pub mod PiecesExact
pub mod PayloadsExact
pub mod AnswerRows
pub mod PairRead
pub mod Entries
pub mod Histories
pub mod LinkCalls
pub mod WorkedTransfers
pub mod WorkedRefusals
