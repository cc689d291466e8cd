-- Laws of tests, rows, lists, stores, compared bytes, keys, sums and numbers that more than one crate cites; then the
-- claims.
pub mod Tests
pub mod Rows
pub mod Lists
pub mod Stores
pub mod Compared
pub mod Runs
pub mod Rising
pub mod Keys
pub mod Sums
pub mod Numbers
pub mod NumbersExact
pub mod Asking
pub mod OutcomesExact
pub mod WritesExact
pub mod RunsExact
pub mod PartsExact
pub mod KeysExact
pub mod SameExact
