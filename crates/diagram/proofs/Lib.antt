-- The laws of tables and diagrams, lowest first; Promises states the theorems. Assumes nothing.
pub mod Either
pub mod Piecewise
pub mod Lookup
pub mod Facts
pub mod Continuing
pub mod Cofactors
pub mod Apart
pub mod Counting
pub mod Numbered
pub mod Runs
pub mod Diagrams
pub mod Fewest
pub mod Readings
pub mod Promises
