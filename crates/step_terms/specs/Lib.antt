-- The readings of a rule at one record, over cells and scratch places.
pub mod Found
