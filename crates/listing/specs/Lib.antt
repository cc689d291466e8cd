-- The specification of the listing: PROTOCOL 10.

-- Statements: what must be believed
pub mod Decimal
pub mod Lines
pub mod Table
pub mod CallTexts
pub mod Listing
pub mod Turns
-- Model: what the contracts equate, held to the statements by claims
pub mod Digits
pub mod Feeding
-- Claims: what is proved
pub mod Decimals
pub mod LineTexts
pub mod LineCalls
pub mod WholeListing
pub mod LoopRuns
pub mod TurnListings
pub mod WorkedListings
