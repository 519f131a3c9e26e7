-- The words of a rule, the plan that they are located in, and what a line leaves to be stored.
pub mod Walked
pub mod Store
