-- The places of the C interface's answer array.
pub mod Numbers
