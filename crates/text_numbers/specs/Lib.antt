-- What the readers of numbers answer.
pub mod Numbers
