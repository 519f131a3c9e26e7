-- Laws of words, for the proofs here and in the crates above.
pub mod Words
pub mod Tables
