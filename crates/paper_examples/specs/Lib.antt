-- The cases that document 01 marks (P), and cases of document 02, shown by evaluating the definitions.
pub mod Expressions
pub mod Messages
pub mod Printed
pub mod Programs
pub mod Readings
pub mod Rounds
pub mod Runs
