-- The specification of what the box does with an answer of the reader.

-- Statements: what must be believed
pub mod Table
-- Model: what the contracts equate, held to the statements by claims
pub mod Handling
-- Claims: what is proved
pub mod AnswerRows
pub mod HandlingExact
pub mod EndedExact
pub mod StateFirst
pub mod RefusedKept
pub mod Asking
pub mod WorkedFrames
