-- Laws of the definitions of `specs/`, for the proofs here and in the crates above.
pub mod Lists
pub mod Agreeing
pub mod Keeping
pub mod Opening
pub mod Forms
pub mod Arms
pub mod Reading
pub mod Storing
