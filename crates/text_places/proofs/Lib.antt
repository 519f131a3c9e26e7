-- Laws of single tokens, for the crates above.
pub mod Bytes
pub mod Places
pub mod Words
