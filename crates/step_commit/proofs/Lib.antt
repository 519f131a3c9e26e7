-- Laws for the proofs of the functions, and of the crates above.
pub mod Committing
