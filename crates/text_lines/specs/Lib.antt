-- What the line reader answers.
pub mod Line
