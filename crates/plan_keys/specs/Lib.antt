-- The keys of lines, which pack facts in numbers.
pub mod Keys
