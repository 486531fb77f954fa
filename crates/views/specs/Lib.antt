-- The edges of an id at a variable, read where they stand. Assumes nothing.
pub mod Seeing
