-- The specification of the replay: PROTOCOL 14.

-- Statements: what must be believed
pub mod Lines
pub mod Replays
pub mod Table
pub mod Turns
-- Model: what the contracts equate, held to the statements by claims
pub mod State
pub mod Playing
pub mod Closing
pub mod Window
-- Claims: what is proved
pub mod TextsSpelled
pub mod TurnReplays
pub mod Directions
pub mod EachCall
pub mod WorkedReplays
