-- The working cells, and what a remote write makes of one.
pub mod Stop
pub mod Work
