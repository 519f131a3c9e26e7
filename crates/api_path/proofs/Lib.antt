-- Laws of a path's arrays.
pub mod Hops
