-- Laws of places that hold cells, for the proofs here and in the crates above.
pub mod Placed
pub mod Storing
