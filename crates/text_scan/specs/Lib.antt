-- What one pass over an expression answers.
pub mod Scan
