-- What a plain rule stores and sends.
pub mod Done
