-- The register file of document 01.
pub mod Cells
pub mod File
pub mod Load
pub mod Shape
pub mod View
