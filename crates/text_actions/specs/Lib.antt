-- What the readers of rules answer.
pub mod Action
