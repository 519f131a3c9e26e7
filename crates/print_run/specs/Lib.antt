-- The page that is printed, and what the program has of the run.
pub mod Page
pub mod RanBy
