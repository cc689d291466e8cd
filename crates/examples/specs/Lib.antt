-- The worked examples of PROTOCOL 11, asked of the definitions of the three layers.

-- Statements: what must be believed
pub mod Questions
pub mod Examples
-- Model: none, the definitions are those of the layers
-- Claims: what is proved
pub mod WorkedExamples
