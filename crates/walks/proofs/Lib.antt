-- The laws of walking down a lent table, lowest first. Assumes nothing.
pub mod Composing
pub mod Finished
pub mod Walk
pub mod Halves
pub mod Booleans
pub mod Ranging
