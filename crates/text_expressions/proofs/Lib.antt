-- Laws of the readers of expressions, for the proofs here and in the crates above.
pub mod Joining
