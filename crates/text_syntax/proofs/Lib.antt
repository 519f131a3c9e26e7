-- Laws of the definitions of `specs/`, for the crates above.
pub mod Lexing
pub mod Longest
pub mod Spellings
pub mod TokenKinds
pub mod Readers
pub mod Chains
pub mod Expressions
pub mod Lines
pub mod Turns
pub mod Depths
pub mod Trees
pub mod Scans
pub mod Texts
pub mod TokenExamples
