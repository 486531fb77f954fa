-- What the edges of widening are. Assumes nothing.
pub mod Clipping
