-- The first line of a text.
pub mod Front
