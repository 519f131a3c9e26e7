-- The places of a plan line while its chain is followed.
pub mod Hopped
