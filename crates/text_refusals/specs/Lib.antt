-- Why a line is refused.
pub mod Refusal
pub mod Number
