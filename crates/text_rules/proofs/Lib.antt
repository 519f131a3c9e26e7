-- Laws of the definitions of `specs/`, for the proofs here and in the crates above.
pub mod Pieces
pub mod Texts
pub mod Checked
pub mod Sorts
pub mod Loops
pub mod Passing
pub mod Examples
pub mod Same
