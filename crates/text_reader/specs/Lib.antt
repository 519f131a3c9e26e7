-- What the text reader's array holds, and its answer.
pub mod Answers
