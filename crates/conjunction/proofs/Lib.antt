-- The laws behind conjunction, lowest first. Assumes nothing.
pub mod Opened
pub mod Asking
pub mod Ordering
pub mod Whole
