-- Laws of the readers of expressions as terms, for the crates above.
pub mod Sides
pub mod Held
pub mod Whole
pub mod Expressions
