-- A reading as numbers.
pub mod Numbers
