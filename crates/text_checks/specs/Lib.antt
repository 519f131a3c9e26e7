-- What is asked of the parts of a rule.
pub mod Checks
