-- Laws for the proofs of the functions.
pub mod Held
pub mod Rounds
pub mod Counting
pub mod Referring
pub mod Exchanging
pub mod Turning
pub mod Planned
pub mod Sending
