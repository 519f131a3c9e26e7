-- What the readers of words answer.
pub mod Tokens
