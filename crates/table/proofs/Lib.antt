-- The laws behind the check, the reading and what a sound table holds, lowest first. Assumes nothing.
pub mod Laws
pub mod CutPositions
pub mod Ordered
pub mod Whole
pub mod Links
pub mod Scan
pub mod Bridge
pub mod Determined
pub mod Once
pub mod Hearing
pub mod Promises
pub mod OneIndex
