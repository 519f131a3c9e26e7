-- What the lexer answers.
pub mod Lexeme
