-- What the text reader keeps of the lines so far.
pub mod State
