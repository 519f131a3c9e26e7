-- What the readers of whole expressions and of sides answer.
pub mod Expression
pub mod Side
