-- What is answered behind an element of an expression.
pub mod Join
