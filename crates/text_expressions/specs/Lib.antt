-- What the readers of expressions answer.
pub mod Reading
