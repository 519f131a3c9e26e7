-- Laws of what is asked, for the crates above.
pub mod Passing
