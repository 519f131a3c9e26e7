-- What a rule stores or sends, as the code tells it.
pub mod Answers
