-- Laws of readings, for the proofs here and in the crates above.
pub mod Judging
pub mod Outcomes
