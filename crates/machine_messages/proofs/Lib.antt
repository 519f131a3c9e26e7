-- Theorems of the message machine.
pub mod Settling
pub mod Telling
pub mod Rounds
pub mod Knowing
pub mod Same
pub mod Counting
pub mod Least
