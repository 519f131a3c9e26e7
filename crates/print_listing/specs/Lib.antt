-- The lines that are printed, and the room that they have.
pub mod Listing
pub mod Room
