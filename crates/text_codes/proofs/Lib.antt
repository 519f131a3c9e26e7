-- Laws of codes and summaries, for the crates above.
pub mod Coding
pub mod Postfix
pub mod Summaries
