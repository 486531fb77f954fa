-- The laws that the proofs share. Assumes nothing.
pub mod Signs
