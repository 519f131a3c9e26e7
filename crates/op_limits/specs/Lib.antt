-- What is asked of a text and its register before the text is read.
pub mod Admitted
pub mod Number
