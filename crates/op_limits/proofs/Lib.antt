-- Laws for the proofs of the functions.
pub mod Admitting
pub mod Room
pub mod Numbers
