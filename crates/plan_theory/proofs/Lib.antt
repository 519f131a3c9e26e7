-- The theory of rounds: what a plan keeps to, and that no derivation has fewer rounds.
pub mod Bound
pub mod Half
pub mod Facts
pub mod Least
pub mod Places
pub mod Lines
pub mod Kept
