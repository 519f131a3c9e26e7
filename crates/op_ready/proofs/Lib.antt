-- Laws for the proofs of the functions, and what the run needs of buffers that are ready.
pub mod Copying
pub mod Readying
