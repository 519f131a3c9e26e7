-- A step's readings, by one machine or the other.
pub mod Counted
pub mod Gathered
