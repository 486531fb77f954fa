-- The laws that the proofs share. Assumes nothing.
pub mod Positions
pub mod Machine
pub mod Ends
pub mod Holds
pub mod Nearest
