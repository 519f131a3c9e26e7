-- What loading answers.
pub mod Answer
