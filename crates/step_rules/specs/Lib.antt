-- One step over a register and scratch buffers: what each part of it leaves.
pub mod Ready
pub mod Delivered
pub mod Stepped
