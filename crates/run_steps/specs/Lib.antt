-- What the run of a program answers.
pub mod Answer
