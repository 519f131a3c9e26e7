-- The message machine of document 01.
pub mod Held
pub mod Counts
pub mod By
pub mod Least
