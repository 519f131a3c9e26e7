-- Laws of packed chains and keys, for the proofs here and in the crates above.
pub mod Words
pub mod Keys
