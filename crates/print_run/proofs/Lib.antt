-- Laws for the proofs of the functions.
pub mod Enough
pub mod Positive
pub mod Printing
