-- What is printed of a run.
pub mod Behind
pub mod RanPage
