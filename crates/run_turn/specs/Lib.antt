-- What a turn of the run's loop does before and behind the rules of its step.
pub mod Turned
