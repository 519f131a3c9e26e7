-- Laws of the readers of rules, for the crates above.
pub mod Rules
pub mod Forms
pub mod Actions
