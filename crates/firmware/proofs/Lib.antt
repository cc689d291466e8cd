-- The claims of specs/CodeExact.antt.
pub mod CodeExact
