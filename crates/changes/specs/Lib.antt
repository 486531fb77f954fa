-- Restriction, narrowing and widening on a lent table. Assumes nothing.
pub mod Changed
pub mod Ways
