-- The laws; each file of claims in specs/ has its theorems in the file of its name here, and `next_says` in NextSays.

-- the contracts
pub mod ReadingLaws
-- the format, and what is written
pub mod FormatSpelled
pub mod Written
-- a call: the bytes and its answer, either way
pub mod Agreeing
pub mod Records
pub mod Heads
pub mod NextCases
pub mod Answers
pub mod EachCall
pub mod NextSays
-- calls: records, and a rest where reading stops
pub mod Splits
pub mod OneSplit
pub mod ReadingExact
-- by computation
pub mod WorkedCaptures
