-- Laws of answers.
pub mod Operating
pub mod Testing
