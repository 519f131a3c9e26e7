-- Laws for the proofs of the functions, here and in the crates above.
pub mod Numbers
