-- Laws for the proofs of the functions.
pub mod Rows
pub mod Lengths
