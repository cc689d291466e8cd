-- What C gets from the exported writer.

-- Statements: what must be believed
pub mod Code
-- Claims: what is proved
pub mod CodeExact
