-- Laws for the proofs of the functions.
pub mod Digits
pub mod Putting
pub mod Signs
