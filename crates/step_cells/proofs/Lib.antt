-- Laws of working cells, for the proofs here and in the crates above.
pub mod Working
pub mod Merging
