-- Laws of plain rules.
pub mod Doing
