-- The laws; each file of claims in specs/ has its theorems in the file of its name here.
pub mod Answers
pub mod Commands
pub mod Times
pub mod Numbers
pub mod Moves
pub mod Waits
pub mod Histories
pub mod Figures
pub mod Refusals
pub mod Ranges
pub mod EachCall
pub mod Entries
pub mod WorkedRuns
