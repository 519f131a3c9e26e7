-- The text of a chain, and what a scan of it finds.
pub mod Text
pub mod Scan
