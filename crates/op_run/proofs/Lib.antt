-- Laws for the proofs of the functions.
pub mod Answering
pub mod Surviving
pub mod Marks
