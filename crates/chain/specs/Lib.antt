-- Chains of document 01 as hop words, and following them.
pub mod Reading
pub mod Word
pub mod Way
