-- Laws of the places of a line, for the proofs here and in the crates above.
pub mod Places
pub mod Sent
pub mod Writing
