-- Laws of the readers of chains and terms, for the crates above.
pub mod ChainForms
pub mod Terms
