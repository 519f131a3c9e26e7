-- The path behind a reading.
pub mod Path
