-- The machine of document 01, given what a record reads.
pub mod Value
pub mod Local
pub mod Remote
pub mod Step
pub mod Named
pub mod Run
pub mod Filled
pub mod Marks
