-- Words and numbers as they are written.
pub mod Span
pub mod Word
pub mod Numeral
