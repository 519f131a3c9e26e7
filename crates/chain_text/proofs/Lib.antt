-- Laws of chains as text, for the proofs here and in the crates above.
pub mod Forms
pub mod Flat
pub mod Steps
pub mod Scanning
pub mod Passing
