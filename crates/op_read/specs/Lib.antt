-- A single reading: its answer, and its outcome.
pub mod Reading
