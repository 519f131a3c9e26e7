-- The rules text of document 01.
pub mod Check
pub mod Text
pub mod Same
pub mod LineRead
