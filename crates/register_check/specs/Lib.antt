-- Refusals of a register's cells.
pub mod Number
