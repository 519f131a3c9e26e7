-- Laws of codes that are worked out.
pub mod Waiting
