-- The laws behind disjointness. Assumes nothing.
pub mod Overlaps
pub mod Walks
pub mod Pairs
pub mod Opening
pub mod Whole
