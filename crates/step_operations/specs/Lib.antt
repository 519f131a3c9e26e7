-- What an expression and a test come to at one record.
pub mod Evaluated
pub mod Tests
