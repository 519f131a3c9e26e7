-- A read program: what it is, how its array holds it, and what one that passed keeps to.
pub mod Program
pub mod Passed
pub mod Code
pub mod Stored
pub mod Location
pub mod Kept
pub mod Terms
