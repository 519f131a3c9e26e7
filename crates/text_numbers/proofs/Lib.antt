-- Laws of numbers, for the proofs here and in the crates above.
pub mod Numbers
