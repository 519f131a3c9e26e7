-- What is asked of tests and rules.
pub mod Demands
