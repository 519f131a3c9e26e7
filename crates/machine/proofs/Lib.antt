-- Laws of the machine, for the proofs of the crates above.
pub mod Folding
pub mod Stops
pub mod Naming
pub mod Agreeing
pub mod Readable
pub mod Readings
pub mod Refers
pub mod Keeping
pub mod Untouched
pub mod Direct
pub mod Columns
pub mod RunningPass
pub mod Running
pub mod Ending
pub mod Surviving
