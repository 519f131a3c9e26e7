-- Laws on bytes and signed numbers that several proofs, here and in the crates above, cite.
pub mod Complement
pub mod Bytes
pub mod Product
