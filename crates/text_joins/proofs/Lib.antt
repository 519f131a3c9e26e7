-- Laws of operators by their rank.
pub mod Ranks
