-- Laws of the definitions of `specs/`, for the proofs here and in the crates above.
pub mod Bounds
pub mod Refusals
pub mod Parts
pub mod Loading
pub mod Arrays
pub mod CellByCell
pub mod Sound
pub mod Roundtrip
