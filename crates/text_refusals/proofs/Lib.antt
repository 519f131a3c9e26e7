-- Laws of the definitions of `specs/`, for the proofs here and in the crates above.
pub mod Refusals
pub mod Numbers
