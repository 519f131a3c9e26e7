-- A path's hops as the arrays of the C interface.
pub mod PathArrays
