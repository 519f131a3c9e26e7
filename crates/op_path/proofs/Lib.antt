-- Laws of the path behind a single reading.
pub mod Outcomes
pub mod Reason
