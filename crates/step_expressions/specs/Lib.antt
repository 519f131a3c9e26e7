-- What an expression and a test come to, and what the codes have to be for that.
pub mod Codes
