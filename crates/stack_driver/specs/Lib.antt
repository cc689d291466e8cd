-- What the measured calls return and leave: this crate adds no rule, and serves a test only.

-- Statements: what must be believed
pub mod Numbered
pub mod Records
pub mod Turns
