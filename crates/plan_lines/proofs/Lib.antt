-- Laws of the definitions of `specs/`, for the proofs here and in the crates above.
pub mod Search
pub mod Settled
pub mod Appending
pub mod Adding
pub mod Rounds
pub mod Promised
