-- What a writer finds and writes, and the place that holds it.
pub mod Written
