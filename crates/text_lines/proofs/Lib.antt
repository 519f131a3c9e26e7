-- Laws of the line reader, for the proofs here and in the crates above.
pub mod Tests
pub mod Lines
