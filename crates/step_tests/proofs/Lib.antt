-- Laws of plain terms, and of two readings.
pub mod Plainly
pub mod Sides
