-- Laws for the proofs of the functions.
pub mod Arrays
pub mod Finding
pub mod Counting
pub mod Bounds
pub mod Loops
pub mod Standing
pub mod Turn
pub mod Done
