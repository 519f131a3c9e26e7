-- Readings and cells in the places of the scratch buffers.
pub mod Places
