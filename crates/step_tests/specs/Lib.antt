-- Plain rules and tests.
pub mod Plain
