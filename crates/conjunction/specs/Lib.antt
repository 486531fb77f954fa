-- Conjunction on a lent table: what its memo notes. Assumes nothing.
pub mod Joining
