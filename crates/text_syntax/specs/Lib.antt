-- The lines of a rules text, in two layers: the tokens of a line, and the forms over tokens.
pub mod Token
pub mod Lexing
pub mod Spelling
pub mod Kind
pub mod Form
pub mod Written
pub mod Grammar
pub mod Printed
pub mod Parts
pub mod Flat
pub mod Tree
