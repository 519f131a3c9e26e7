-- Laws that several rooms cite.
pub mod Cases
pub mod Bools
pub mod First
pub mod Lists
