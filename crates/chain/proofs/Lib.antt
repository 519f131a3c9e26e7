-- Laws of the definitions of `specs/`, for the proofs here and in the crates above.
pub mod Packing
pub mod Fields
pub mod ReadOf
pub mod Following
pub mod Demand2
