-- The plan of a step grows by readings, and each of them is located in it.
pub mod Readings
