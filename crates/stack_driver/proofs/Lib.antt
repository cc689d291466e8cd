-- Laws of measured calls.
pub mod Laws
