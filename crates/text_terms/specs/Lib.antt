-- What the readers of chains and terms answer.
pub mod Chain
pub mod Term
