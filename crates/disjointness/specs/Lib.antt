-- What disjointness asks of a lent table. Assumes nothing.
pub mod Asking
