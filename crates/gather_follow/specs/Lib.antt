-- Plan lines filled by following references.
pub mod Filled
