-- Laws of paths, for the proofs here and in the crates above.
pub mod Walking
pub mod Reason
