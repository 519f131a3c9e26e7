-- What is told of the next line of a text.
pub mod Judged
