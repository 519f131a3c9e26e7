-- Numbers as the register file and the sums have them.
pub mod Bytes
pub mod Factor
pub mod Range
