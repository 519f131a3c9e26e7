-- Laws of signs, for the proofs here.
pub mod Signs
