-- Laws for the proofs of the functions.
pub mod Writing
pub mod Locals
pub mod Remotes
pub mod Stepping
