-- Laws for the proofs of the functions.
pub mod Leading
pub mod Hopping
