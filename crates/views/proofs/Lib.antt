-- The laws behind views. Assumes nothing.
pub mod Sights
