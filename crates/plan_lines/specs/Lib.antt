-- What a plan of the code holds and promises.
pub mod Held
pub mod Promised
