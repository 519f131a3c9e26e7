-- Exchanges: what they take of a plan, and what the places hold behind each.
pub mod Lines
pub mod Exchanged
