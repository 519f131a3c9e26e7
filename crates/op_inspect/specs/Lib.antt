-- The look at a step as an operation.
pub mod Inspection
pub mod Answer
