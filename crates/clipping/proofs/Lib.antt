-- The edges of narrowing and widening. Assumes nothing.
pub mod Variables
pub mod Zones
pub mod Passing
pub mod Copying
pub mod Closing
pub mod Widening
