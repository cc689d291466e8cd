-- The specification of captures: PROTOCOL 13.

-- Statements: what must be believed
pub mod Format
pub mod Table
pub mod Captures
pub mod Windows
-- Model: what the contracts equate, held to the statements by claims
pub mod Reading
-- Claims: what is proved
pub mod FormatSpelled
pub mod EachCall
pub mod ReadingExact
pub mod Written
pub mod WorkedCaptures
