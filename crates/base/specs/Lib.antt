-- What the layers share. No rule of frames or messages is here.

-- Statements: what must be believed
pub mod Rows
pub mod Outcomes
pub mod Asking
pub mod Writes
pub mod Numbers
pub mod Sums
pub mod Parts
-- Model: what is computed
pub mod Keys
pub mod Stores
pub mod Same
pub mod Runs
-- Claims: what is proved
pub mod NumbersExact
pub mod OutcomesExact
pub mod WritesExact
pub mod RunsExact
pub mod PartsExact
pub mod KeysExact
pub mod SameExact
