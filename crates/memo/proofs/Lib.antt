-- The memo's laws. Assumes nothing.
pub mod Recalled
