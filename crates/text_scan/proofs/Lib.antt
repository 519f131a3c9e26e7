-- Laws of one pass over an expression.
pub mod Turning
