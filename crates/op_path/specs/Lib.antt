-- The path behind a single reading: its answer, and its outcome.
pub mod Path
pub mod Reason
