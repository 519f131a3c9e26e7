-- Laws of the definitions of `specs/`, for the crates above.
pub mod Spans
pub mod Digits
pub mod Numerals
