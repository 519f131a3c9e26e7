-- Definitions that several rooms cite.
pub mod Outcome
pub mod Lists
pub mod Bytes
