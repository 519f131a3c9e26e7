-- Laws of the definitions of `specs/`.
pub mod Standing
pub mod Passes
