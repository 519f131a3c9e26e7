-- The working cells as the cells of a register file.
pub mod Committed
