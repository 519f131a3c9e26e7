-- What a run asks of the caller's buffers.
pub mod Ready
