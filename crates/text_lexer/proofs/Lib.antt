-- Laws of the lexer's answers, for the proofs here and in the crates above.
pub mod Firsts
pub mod Places
pub mod Lexemes
