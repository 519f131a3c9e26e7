-- The three rules of knowing, plans, and that no derivation has fewer rounds.
pub mod Knows
pub mod Plan
pub mod Least
pub mod Promise
