-- The operations, and what is asked of them. Assumes nothing.
pub mod Overlay
pub mod Making
pub mod Conditions
pub mod Conjunction
pub mod Disjointness
pub mod Changing
pub mod Answering
pub mod Narrowing
pub mod Cases
pub mod Orders
