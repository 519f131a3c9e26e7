-- What stands over a fuller register, and what need not.
pub mod Readings
pub mod Messages
pub mod Operations
pub mod WholeText
