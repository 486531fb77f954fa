-- The edges of a condition. Assumes nothing.
pub mod Few
