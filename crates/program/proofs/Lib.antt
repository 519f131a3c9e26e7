-- Laws of a program and of its array.
pub mod Rules
pub mod Frames
pub mod Locations
pub mod Codes
pub mod Agreeing
