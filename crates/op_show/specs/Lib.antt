-- What the look leaves at the places of a plan's lines.
pub mod Shown
