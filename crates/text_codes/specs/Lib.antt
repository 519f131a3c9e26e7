-- Terms and expressions as codes, and what is asked of them.
pub mod Coded
pub mod Codes
pub mod Summary
