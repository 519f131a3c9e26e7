-- What the readers of single tokens answer.
pub mod Place
pub mod Word
