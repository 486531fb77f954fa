-- Ids as numbers. Assumes nothing.
pub mod Id
pub mod Index
