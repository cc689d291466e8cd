-- The claim of specs/WorkedExamples.antt.
pub mod WorkedExamples
