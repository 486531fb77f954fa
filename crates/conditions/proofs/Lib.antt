-- The laws behind conditions. Assumes nothing.
pub mod Terminals
pub mod Shapes
pub mod Wanted
