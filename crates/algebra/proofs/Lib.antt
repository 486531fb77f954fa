-- The laws of the operations, lowest first; Promises and Starred state the theorems. Assumes nothing.
pub mod Overlays
pub mod Made
pub mod Making
pub mod Walking
pub mod Conjoining
pub mod Commuting
pub mod Disjoint
pub mod Descending
pub mod Conditioning
pub mod Changed
pub mod Emptied
pub mod Exact
pub mod Promises
pub mod Starred
pub mod Shortcuts
