-- The runs as operations.
pub mod Direct
pub mod Answer
pub mod Marks
pub mod Claims
